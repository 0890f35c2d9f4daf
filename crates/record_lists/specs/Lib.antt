pub mod Record
pub mod Reference
pub mod Code
pub mod Records
pub mod Flags
pub mod Options
pub mod Places
