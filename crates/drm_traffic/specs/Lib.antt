pub mod Classes
pub mod Counting
pub mod Reports
pub mod Rules
