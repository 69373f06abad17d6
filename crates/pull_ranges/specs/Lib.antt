pub mod Pulls
pub mod Laws
pub mod Ranges
pub mod Names
