pub mod SectionLaws
pub mod LentLaws
pub mod RecordSteps
pub mod BitLaws
pub mod ChosenSteps
pub mod GroupSteps
pub mod SectionSteps
