pub mod ArrivalLemmas
pub mod FrameLemmas
pub mod MappedLemmas
pub mod NodeMapLemmas
pub mod PlayLemmas
