mod BeforeLemmas
mod PartyLemmas
mod PlayedLemmas
mod SeatedLemmas
mod SendLemmas
mod VerdictLemmas
