pub mod Steps
pub mod Turns
pub mod Caught
pub mod Batches
pub mod Handing
pub mod Outcomes
pub mod Played
