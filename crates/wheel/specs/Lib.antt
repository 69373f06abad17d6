pub mod Roster
pub mod Rings
