pub mod Files
pub mod Records
pub mod FileFault
pub mod Primes
pub mod ExportOrders
