mod NameFacts
mod TokenFacts
pub mod Crossing
