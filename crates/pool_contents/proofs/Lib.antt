pub mod Each
pub mod Seeing
pub mod Extending
pub mod Numbered
pub mod Returned
