pub mod Cursors
pub mod Judged
