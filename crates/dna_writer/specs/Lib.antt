pub mod Lent
pub mod Section
pub mod Writer
pub mod Reads
