pub mod Nested
pub mod Told
pub mod FirstKeys
pub mod Distinct
pub mod Chains
pub mod Marks
