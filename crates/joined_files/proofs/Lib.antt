pub mod Exactness
pub mod Apart
pub mod Joins
pub mod Distinct
