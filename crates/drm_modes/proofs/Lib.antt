pub mod Ids
pub mod Fixed
pub mod ListsSoFar
mod PlanesAre
mod Masks
mod Mapped
mod ModeFacts
pub mod Crossing
