pub mod Logic
pub mod Naming
pub mod Same
