pub mod Words
pub mod Values
pub mod Items
pub mod Named
pub mod Faults
pub mod Listed
