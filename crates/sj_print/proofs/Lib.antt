pub mod JoinLemmas
pub mod LineLemmas
pub mod PartLemmas
pub mod PieceLemmas
pub mod ToldLemmas
pub mod VersionLemmas
pub mod WordLemmas
