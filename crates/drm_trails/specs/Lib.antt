pub mod Steps
pub mod Answers
pub mod Searches
pub mod Handles
pub mod Objects
pub mod Passing
pub mod Chains
pub mod Effects
