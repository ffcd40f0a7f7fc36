pub mod FaultLaws
pub mod InputLaws
pub mod BlockLaws
