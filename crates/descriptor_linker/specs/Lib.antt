pub mod Report
pub mod Ending
pub mod Runs
