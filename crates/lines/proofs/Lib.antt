pub mod TextLaws
pub mod PutLaws
pub mod CutLaws
pub mod TurnLaws
pub mod NextLaws
pub mod ExampleHolds
