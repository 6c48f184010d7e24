pub mod LeftLemmas
pub mod OpeningLemmas
pub mod ShapeLemmas
pub mod EndingLemmas
pub mod KeptLemmas
