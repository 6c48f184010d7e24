pub mod Record
pub mod Node
pub mod Arrivals
pub mod Acts
pub mod World
pub mod Ready
pub mod Start
pub mod Drain
