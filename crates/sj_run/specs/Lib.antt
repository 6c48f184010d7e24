pub mod Damage
pub mod Handed
pub mod Left
pub mod Logged
pub mod Refusals
pub mod Shown
pub mod Workers
