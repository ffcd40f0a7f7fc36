pub mod WritingLaws
pub mod WrittenLaws
pub mod FaultLaws
