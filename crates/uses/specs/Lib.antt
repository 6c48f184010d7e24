pub mod Carried
pub mod DequeLanes
pub mod Refusals
pub mod Runs
pub mod Stops
pub mod Talks
pub mod Transcripts
