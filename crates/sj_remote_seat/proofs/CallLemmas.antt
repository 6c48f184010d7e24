-- What becomes of a guest by one thing that its code asks for.
use Rattle.std.proofs.Common.{List, length, ◌≡◌, Result, Ok, Err, IfOk, OnErr}
use Rattle.sj_lang.specs.FileAt.{FileAt}
use Rattle.sj_node.specs.Reading.{parties_of}
use Rattle.sj_seat_laws.specs.Calls.{Call}
use Rattle.sj_seat.specs.Views.{node_of}
use Rattle.sj_seat.specs.Went.{Keeps, Went}
use Rattle.sj_seat.specs.declared.ask.Outcome.{Outcome}
use Rattle.sj_seat.specs.declared.guest.Guest.{Guest}
use Rattle.sj_seat.specs.declared.refusal.SeatRefusal.{SeatRefusal}
use Rattle.sj_seat.proofs.CountLemmas.{CountedBy}
use Rattle.sj_work.proofs.LaneLaws.{LaneLaws}
use Rattle.sj_seat_run.proofs.PlayedLemmas.{PlayedBy, played_rest}

module _ {O I G : Type 0} (k : LaneLaws O I) where
  -- what it asks for, whatever the answer is
  pub played_call : (a b : Guest O I G) (made : Outcome → List Call → List Call) (r : Result Outcome SeatRefusal)
      → IfOk r (λ o. (file : FileAt) (rest : List Call) → length file.parties ≡ parties_of (node_of a) → Went k.outward k.inward file (made o rest) rest a b)
      → ((file : FileAt) (rest : List Call) → length file.parties ≡ parties_of (node_of a) → OnErr r (Went k.outward k.inward file rest rest a b))
      → Keeps (node_of a) (node_of b) → CountedBy k a.worker b.worker → PlayedBy k a b
  played_call a b made (Ok m) ok err keeps counts = record { calls = made m; went = ok; keeps = keeps; counts = counts }
  played_call a b made (Err e) ok err keeps counts = played_rest k a b err keeps counts
