pub mod ListingLemmas
pub mod Crossing
