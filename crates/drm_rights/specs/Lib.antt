pub mod Leases
pub mod Ledgers
