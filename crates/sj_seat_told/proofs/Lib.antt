pub mod StandLemmas
pub mod OpenedLemmas
pub mod SessionLemmas
pub mod JudgeLemmas
pub mod FirstLemmas
pub mod TranscriptLemmas
pub mod NameLemmas
