mod BegunLemmas
mod CarriedLemmas
mod ListLemmas
mod LogLemmas
pub mod PlayedLemmas
mod RanLemmas
mod RefusalLemmas
mod RunnerLemmas
mod SeatLemmas
mod SendLemmas
mod StopLemmas
