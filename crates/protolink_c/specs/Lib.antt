pub mod Added
pub mod Held
pub mod Parted
pub mod Seen
pub mod Shown
pub mod Told
