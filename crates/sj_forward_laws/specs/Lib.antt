pub mod Roads
pub mod Pipe
pub mod Kept
pub mod Layout
pub mod Limits
pub mod Samples
