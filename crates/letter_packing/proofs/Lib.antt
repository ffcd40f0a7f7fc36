pub mod LetterCodes
pub mod WordLaws
pub mod ReadLaws
pub mod PieceLaws
pub mod PairLaws
pub mod EndsLaws
