pub mod Connections
pub mod Listeners
pub mod Serving
pub mod UntilEnded
pub mod Accepting
