pub mod LogExamples
pub mod LogLine
pub mod Parts
pub mod Pieces
pub mod Version
