pub mod SetLemmas
pub mod OfferLemmas
