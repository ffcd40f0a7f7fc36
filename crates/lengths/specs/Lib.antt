pub mod Given
pub mod Cursor
pub mod Form
