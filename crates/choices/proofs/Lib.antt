pub mod PlaceLaws
pub mod ChoiceLaws
