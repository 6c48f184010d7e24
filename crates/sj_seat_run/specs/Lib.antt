pub mod Seats
pub mod Asked
pub mod Runners
pub mod Logged
pub mod Played
pub mod Refusals
