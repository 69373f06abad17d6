mod Chains
mod Drivers
mod Joins
mod Readers
mod Settling
mod Skips
mod Sweeps
mod Taking
