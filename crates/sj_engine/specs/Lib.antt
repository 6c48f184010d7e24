pub mod Frames
pub mod Lanes
pub mod Batch
pub mod Home
pub mod Rounds
pub mod Redone
