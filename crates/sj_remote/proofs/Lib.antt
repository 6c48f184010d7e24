pub mod ReplyLemmas
pub mod StreamLemmas
