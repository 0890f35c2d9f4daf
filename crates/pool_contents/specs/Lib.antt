pub mod Inner
pub mod LookUps
pub mod Same
pub mod Extended
pub mod Growing
pub mod Unlinked
