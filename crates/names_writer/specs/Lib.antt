pub mod Runs
pub mod Lent
pub mod Steps
pub mod Rows
pub mod Columns
pub mod Measured
pub mod Pieces
pub mod Arrived
