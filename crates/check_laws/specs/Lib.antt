pub mod Checked
pub mod Against
