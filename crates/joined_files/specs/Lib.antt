pub mod Apart
pub mod Differences
pub mod Words
pub mod Joining
pub mod Telling
