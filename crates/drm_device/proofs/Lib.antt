pub mod Devices
pub mod AuditRows
pub mod Crossing
pub mod Unadmitted
mod Primaries
mod Places
