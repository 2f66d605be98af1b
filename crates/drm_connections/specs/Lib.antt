pub mod Answers
pub mod Looks
pub mod Places
pub mod Requests
