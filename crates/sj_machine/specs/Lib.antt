pub mod Arena
pub mod Frames
pub mod Names
pub mod Opens
pub mod Sound
pub mod Table
