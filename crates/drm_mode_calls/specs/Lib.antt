pub mod Scanout
