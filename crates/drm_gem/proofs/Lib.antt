mod Records
pub mod Crossing
pub mod NewestObject
