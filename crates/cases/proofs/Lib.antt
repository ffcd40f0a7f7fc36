pub mod HashLaws
pub mod CaseLaws
