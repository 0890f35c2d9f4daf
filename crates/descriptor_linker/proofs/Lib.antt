pub mod OneFits
pub mod FileNamed
pub mod Pieces
pub mod Batches
pub mod Relinked
mod Computed
mod ReportChecks
pub mod Told
