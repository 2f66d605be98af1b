pub mod Answers
pub mod Audits
pub mod Fields
pub mod Limits
pub mod Permit
pub mod Results
pub mod Rules
pub mod Table
