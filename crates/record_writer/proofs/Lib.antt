pub mod ChosenLaws
pub mod PositionLaws
pub mod FieldLaws
pub mod PartLaws
pub mod ListLaws
pub mod LengthLaws
