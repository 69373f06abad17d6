pub mod Inverter
pub mod Examples
pub mod Inviting
