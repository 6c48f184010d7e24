pub mod AfterLemmas
mod AnyLemmas
pub mod CalledLemmas
mod CauseLemmas
pub mod CountLemmas
pub mod DoneLemmas
mod FirstLemmas
mod HoldingLemmas
mod IdleLemmas
mod KindLemmas
mod LastLemmas
mod LookedLemmas
mod MovedLemmas
mod OpeningLemmas
mod PickLemmas
mod RoundLemmas
mod RuleLemmas
pub mod SessionLemmas
mod StopLemmas
mod TakenLemmas
mod WaitLemmas
