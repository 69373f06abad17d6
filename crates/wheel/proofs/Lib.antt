pub mod Rosters
pub mod Rings
pub mod Wheels
