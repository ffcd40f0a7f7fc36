pub mod Text
pub mod Lines
pub mod Cuts
pub mod Listing
pub mod Example
