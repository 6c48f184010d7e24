pub mod AloneLemmas
pub mod EndLemmas
pub mod NameLemmas
