pub mod Before
pub mod Parties
pub mod Played
pub mod Seated
