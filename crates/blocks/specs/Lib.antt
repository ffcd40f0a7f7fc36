pub mod Judged
pub mod Named
pub mod Decoding
