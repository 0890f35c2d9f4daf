pub mod Labels
pub mod Spans
pub mod Fault
pub mod Exact
