pub mod Heaps
pub mod Piles
pub mod Marking
