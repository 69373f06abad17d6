pub mod Numbers
mod Firsts
mod Tables
mod Sofar
mod Accepted
pub mod Contents
mod Slices
mod Exact
pub mod Back
mod Theorem
