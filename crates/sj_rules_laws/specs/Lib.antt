pub mod CoreSamples
pub mod MoreCoreSamples
pub mod MovedTwiceSamples
pub mod Limits
pub mod OpeningCoreSamples
pub mod TiedNotes
