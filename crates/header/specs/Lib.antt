pub mod WrittenHeader
pub mod Part
