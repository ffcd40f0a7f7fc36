pub mod WalkedLaws
pub mod JudgeLaws
pub mod SourceLaws
pub mod AcceptedLaws
pub mod NamesLaws
pub mod WriteLaws
pub mod DecodeLaws
