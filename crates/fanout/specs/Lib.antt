pub mod Left
pub mod Seek
pub mod Steady
