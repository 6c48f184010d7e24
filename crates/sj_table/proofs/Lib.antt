pub mod ArmLemmas
pub mod BuildLemmas
pub mod CountLemmas
pub mod GrownLemmas
pub mod LoopLemmas
pub mod MeetLemmas
pub mod NodeLemmas
pub mod StartLemmas
