pub mod Commands
pub mod Laid
pub mod Texts
