pub mod Firsts
pub mod PathText
pub mod Checks
