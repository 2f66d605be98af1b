pub mod Listing
pub mod Serving
