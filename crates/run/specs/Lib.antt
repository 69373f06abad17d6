pub mod Faults
pub mod Fits
pub mod Calls
pub mod Handled
pub mod Compared
