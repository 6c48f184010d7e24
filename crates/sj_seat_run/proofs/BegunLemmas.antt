-- Parties that have begun, with the lanes of their numbers.
use Rattle.std.proofs.Common.{◌≡◌, ℕ, Bool, List, [], ◌∷◌, ◌++◌, length, Option, Some, None, refl, sym, ap, ◌∙◌}
use Rattle.std.specs.Prelude.{slice_get}
use Rattle.sj_lang.specs.FileAt.{FileAt}
use Rattle.sj_lane.specs.declared.lane.Lanes.{Lanes}
use Rattle.sj_lane.specs.Square.{in_in, out_in}
use Rattle.sj_seat_laws.specs.Calls.{Call}
use Rattle.sj_seat_laws.specs.SeatedStart.{seat_start}
use Rattle.sj_seat.specs.Views.{seat_of}
use Rattle.sj_seat.specs.declared.guest.Guest.{Guest}
use Rattle.sj_table.specs.declared.table.Table.{Table}
use Rattle.sj_work.specs.declared.worker.Worker.{Worker}
use Rattle.sj_run.specs.Workers.{IsFirst}
use Rattle.sj_seat_run.proofs.ListLemmas.{each_more, one_more, pairs_more}
use Rattle.sj_seat_run.specs.Runners.{AreSeated, HasBegun, IsFirstGuest, IsFirstWorker, is_coded}
use Rattle.sj_seat_run.specs.declared.runners.Runner.{Runner}

-- a lane that is there is some party's
pub out_where : {O I : Type 0} (l : Option (Lanes O I)) (q : ℕ) (o : O) → out_in l q ≡ Some o → (x : Lanes O I) × (l ≡ Some x) × (slice_get x.outs.items q ≡ Some o)
out_where None q o is = absurd (cc is)
out_where (Some x) q o is = (x, refl, is)

pub in_where : {O I : Type 0} (l : Option (Lanes O I)) (q : ℕ) (i : I) → in_in l q ≡ Some i → (x : Lanes O I) × (l ≡ Some x) × (slice_get x.ins.items q ≡ Some i)
in_where None q i is = absurd (cc is)
in_where (Some x) q i is = (x, refl, is)

-- the node of a party that goes by the file
pub first_is : {O I : Type 0} (file : FileAt) (t : Table) (p : ℕ) (own : Lanes O I) (w : Worker O I) → IsFirstWorker file t p own w → IsFirst file p w
first_is file t p own w x = record {
  party = x.begins.party;
  parties = x.begins.parties;
  play = x.begins.play;
  node = x.begins.node;
  log = x.begins.log;
  boxes = x.begins.boxes;
  idle = x.idle;
}

-- the party that code plays, before its first call
pub seat_begins : {O I G : Type 0} (file : FileAt) (t : Table) (p : ℕ) (own : Lanes O I) (g : Guest O I G) (calls : List Call) → IsFirstGuest file t p own g → seat_of calls g ≡ seat_start file p calls
seat_begins file t p own g calls x = λ i. record { ends = x.ends i; steps = x.calls i; calls = calls; may = x.may i }

module _ {O I G C : Type 0} (file : FileAt) (t : Table) where
  -- one more party, with the lanes of its number
  pub one_seated : (seats : ℕ → Bool) (lanes : List (Lanes O I)) (runners : List (Runner O I G C)) (own : Lanes O I) (c : Runner O I G C) → AreSeated file t seats lanes (length lanes) runners
      → HasBegun file t (length lanes) own c → is_coded c ≡ seats (length lanes) → AreSeated file t seats (lanes ++ own ∷ []) (length (lanes ++ own ∷ [])) (runners ++ c ∷ [])
  one_seated seats lanes runners own c s begun coded = record {
    count = one_more runners lanes c own s.count;
    each = pairs_more (λ p l r. HasBegun file t p l r) lanes runners own c s.count s.each begun;
    coded = each_more (λ p r. is_coded r ≡ seats p) runners c s.coded (coded ∙ ap seats (sym s.count));
  }
