pub mod Numbers
pub mod Over
pub mod Reading
pub mod Records
