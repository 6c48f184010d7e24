pub mod Forest
pub mod Opens
