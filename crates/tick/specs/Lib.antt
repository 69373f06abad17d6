pub mod Due
pub mod Settled
pub mod Laid
pub mod Reported
pub mod Plans
