pub mod Fewer
pub mod Files
pub mod Opened
pub mod LeftAfterClosing
pub mod Redeemed
mod Capable
