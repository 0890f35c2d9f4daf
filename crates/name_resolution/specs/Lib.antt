pub mod LastSeen
pub mod Seen
pub mod Sight
pub mod Visibility
pub mod Filter
pub mod Parents
pub mod Resolution
pub mod References
