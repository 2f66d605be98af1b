pub mod Parts
pub mod Invariants
pub mod Refinement
pub mod Callers
pub mod Seeing
pub mod Places
