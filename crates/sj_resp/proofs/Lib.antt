pub mod StayLemmas
pub mod ReadLemmas
pub mod CommandLemmas
