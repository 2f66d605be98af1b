pub mod Gathering
pub mod Crossing
pub mod Keeping
pub mod Workers
pub mod AllSessions
