pub mod Masters
pub mod Calls
pub mod Fields
pub mod Tables
pub mod Ids
pub mod Records
pub mod Members
