pub mod Lines
pub mod Callings
pub mod Conclusions
