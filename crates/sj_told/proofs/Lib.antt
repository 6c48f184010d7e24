pub mod CountLemmas
pub mod SlotLemmas
pub mod TellLemmas
pub mod VerdictLemmas
