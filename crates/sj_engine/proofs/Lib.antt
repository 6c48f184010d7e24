pub mod BrokenLemmas
pub mod FrameLemmas
pub mod BatchLemmas
pub mod RoundLemmas
pub mod RedoLemmas
