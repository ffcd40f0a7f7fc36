pub mod Written
pub mod Parts
pub mod Writable
pub mod Chosen
