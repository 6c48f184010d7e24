pub mod Answers
pub mod Counts
pub mod Run
pub mod Words
