pub mod LineLemmas
pub mod TrialLemmas
