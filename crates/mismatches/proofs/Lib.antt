pub mod PlaceLaws
pub mod CodeLaws
pub mod WordLaws
pub mod PutLaws
pub mod GapLaws
pub mod LeftLaws
pub mod CandidateLaws
