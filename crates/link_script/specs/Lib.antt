pub mod Script
pub mod Building
pub mod Records
pub mod RecordsCode
pub mod Obeyed
