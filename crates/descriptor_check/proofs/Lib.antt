pub mod Linked
pub mod NotRead
mod Judged
