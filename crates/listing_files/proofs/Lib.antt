pub mod ReferenceLaws
