pub mod RangeLemmas
pub mod JoinLemmas
pub mod CauseLemmas
pub mod FindingLemmas
pub mod NowLemmas
pub mod ActedLemmas
pub mod SourceLemmas
