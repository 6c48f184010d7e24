pub mod SoundLemmas
pub mod BatchLemmas
pub mod FramesLemmas
pub mod StandingLemmas
