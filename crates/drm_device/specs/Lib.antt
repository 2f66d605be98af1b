pub mod Audits
pub mod Device
pub mod Journals
pub mod Replay
