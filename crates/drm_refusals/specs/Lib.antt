pub mod Facts
pub mod Kinds
pub mod Leases
pub mod Reports
pub mod Searches
pub mod Withdrawals
