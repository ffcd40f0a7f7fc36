pub mod ReadWalk
pub mod Cursor
pub mod Walked
