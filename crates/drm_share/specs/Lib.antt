pub mod Names
pub mod Tokens
pub mod Tables
pub mod ShareFault
