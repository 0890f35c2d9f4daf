mod Told
pub mod Distinct
