pub mod Piles
pub mod Heaps
pub mod Marks
