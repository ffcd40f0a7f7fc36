pub mod Hash
pub mod CaseFile
