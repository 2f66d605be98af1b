pub mod FoundPasses
pub mod AuditKinds
pub mod IdFields
pub mod TableRows
pub mod Readers
pub mod AnswerRows
pub mod RefusalRows
