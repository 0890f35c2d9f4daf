pub mod Stored
pub mod Loaded
