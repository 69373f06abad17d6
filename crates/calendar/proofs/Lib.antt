pub mod Orders
pub mod Entries
pub mod Sound
pub mod Faults
pub mod Tables
pub mod Waiting
