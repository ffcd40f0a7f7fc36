pub mod LibraryNumbers
