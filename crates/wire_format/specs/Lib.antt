pub mod Faults
pub mod Reading
pub mod Varints
pub mod Packed
pub mod Tokens
pub mod Fields
pub mod Encoding
