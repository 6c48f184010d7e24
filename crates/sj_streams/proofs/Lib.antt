pub mod LoopLemmas
pub mod CommandLemmas
pub mod SpeltLemmas
pub mod AgainLemmas
pub mod GatherLemmas
pub mod BatchLemmas
