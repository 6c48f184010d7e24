pub mod Counts
pub mod GeneratedFile
