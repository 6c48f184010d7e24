pub mod Opened
pub mod Quiet
pub mod Standing
pub mod Transcript
