pub mod Requests
pub mod Parameters
pub mod Responses
pub mod Answers
pub mod Devices
pub mod Runs
