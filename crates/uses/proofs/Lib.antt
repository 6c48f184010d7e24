pub mod DequeLemmas
mod HandLemmas
pub mod RunLemmas
pub mod TwoLemmas
