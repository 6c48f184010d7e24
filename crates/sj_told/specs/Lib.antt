pub mod Counts
pub mod Lines
pub mod Standing
pub mod Still
pub mod Told
