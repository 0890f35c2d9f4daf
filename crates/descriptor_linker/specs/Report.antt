pub mod Answers
pub mod Lines
pub mod Session
pub mod Code
