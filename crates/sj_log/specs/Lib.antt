pub mod Rules
pub mod Fields
pub mod Names
pub mod Notes
pub mod Values
pub mod LogText
pub mod Legible
pub mod Parts
