pub mod StillLemmas
pub mod OpenedLemmas
pub mod CountLemmas
pub mod EndLemmas
