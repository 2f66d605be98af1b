pub mod Objects
pub mod Fields
