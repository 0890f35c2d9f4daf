pub mod Words
pub mod Keyword
pub mod Arguments
pub mod Answers
pub mod Reading
pub mod Left
pub mod Faults
pub mod Obeying
