pub mod Odd
pub mod Two
