pub mod Order
pub mod Agenda
pub mod Table
pub mod Laws
pub mod Due
