mod Chunks
mod Widths
