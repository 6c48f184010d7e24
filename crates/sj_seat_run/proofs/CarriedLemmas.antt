-- A worker's lanes at the end are those that it was hired with.
use Rattle.std.proofs.Common.{◌≡◌, ℕ, zero, suc, List, [], ◌∷◌, length, Option, Some, None, refl, ap, subst}
use Rattle.std.specs.Prelude.{slice_get}
use Rattle.sj_lang.specs.FileAt.{FileAt}
use Rattle.sj_lang.specs.Place.{Place}
use Rattle.sj_lane.specs.declared.lane.OutLane.{Ghosts as OutLane}
use Rattle.sj_lane.specs.declared.lane.InLane.{Ghosts as InLane}
use Rattle.sj_rules.specs.Frames.{FrameAt}
use Rattle.sj_rules.specs.Work.{InStep, OutStep}
use Rattle.sj_seat_laws.specs.Calls.{SeatedAt}
use Rattle.sj_seat.specs.Counted.{Counted}
use Rattle.sj_seat.specs.Went.{SeatWork}
use Rattle.sj_work.specs.Counts.{OnLane, Stands}
use Rattle.sj_work.specs.Views.{in_of, out_of, stop_of}
use Rattle.sj_work.specs.Worked.{Turned, Worked, WorkedBy, kept_stop}
use Rattle.sj_work.specs.declared.worker.Stop.{Stop}
use Rattle.sj_work.specs.declared.worker.Worker.{Worker}

-- it is the same lane as before
out_before : {O : Type 0} (pushed : O → Option (List (FrameAt Place))) (same : O → O → Type 0) (a b : Option O) (box left posts : List (FrameAt Place)) (o : O) → OutStep pushed same a b box left posts → b ≡ Some o
    → (x : O) × (a ≡ Some x) × same x o
out_before pushed same None None box left posts o s is = absurd (cc is)
out_before pushed same None (Some b) box left posts o s is = absurd s
out_before pushed same (Some a) None box left posts o s is = absurd s
out_before pushed same (Some a) (Some b) box left posts o s is = let e : b ≡ o = cc is in (a, refl, subst (λ z. same a z) e s.0)

in_before : {I : Type 0} (popped : I → Option (List (FrameAt Place))) (same : I → I → Type 0) (a b : Option I) (came : List (FrameAt Place)) (i : I) → InStep popped same a b came → b ≡ Some i
    → (x : I) × (a ≡ Some x) × same x i
in_before popped same None None came i s is = absurd (cc is)
in_before popped same None (Some b) came i s is = absurd s
in_before popped same (Some a) None came i s is = absurd s
in_before popped same (Some a) (Some b) came i s is = let e : b ≡ i = cc is in (a, refl, subst (λ z. same a z) e s.0)

-- lists that end at the same index are as long
pub same_length : {X : Type 0} (count : X → ℕ) (R : ℕ → ℕ → Type 0) (xs ys : List X) → ((q : ℕ) → OnLane count R (slice_get xs q) (slice_get ys q)) → length ys ≡ length xs
same_length count R [] [] h = refl
same_length count R [] (y ∷ ys) h = absurd (h zero)
same_length count R (x ∷ xs) [] h = absurd (h zero)
same_length count R (x ∷ xs) (y ∷ ys) h = ap suc (same_length count R xs ys (λ q. h (suc q)))

module _ {O I : Type 0} (outward : OutLane O) (inward : InLane I) where
  -- each lane is the same one later, and its count of faults didn't fall
  pub record Carried (old new : Worker O I) : Type 0 where
    pub outs : (q : ℕ) (o : O) → out_of new q ≡ Some o → (x : O) × (out_of old q ≡ Some x) × outward.same x o
    pub ins : (q : ℕ) (i : I) → in_of new q ≡ Some i → (x : I) × (in_of old q ≡ Some x) × inward.same x i
    pub faults_out : (q : ℕ) → OnLane outward.faults Stands (out_of old q) (out_of new q)
    pub faults_in : (q : ℕ) → OnLane inward.faults Stands (in_of old q) (in_of new q)

  -- since no stop was kept, it had turns
  pub turned_from : (looks : ℕ) (old new : Worker O I) → stop_of old ≡ None → Worked outward inward looks old new → Turned outward inward looks old new
  turned_from looks old new idle x = (subst (λ (s : Option Stop). WorkedBy outward inward (kept_stop s) looks old new) idle x).1

  -- a party that goes by the file
  pub worked_carried : (looks : ℕ) (old new : Worker O I) → stop_of old ≡ None → Worked outward inward looks old new → Carried old new
  worked_carried looks old new idle x =
      let t = turned_from looks old new idle x in
      record {
        outs = λ q o is. out_before outward.pushed outward.same (out_of old q) (out_of new q) _ _ _ o (t.went.work.outs q) is;
        ins = λ q i is. in_before inward.popped inward.same (in_of old q) (in_of new q) _ i (t.went.work.ins q) is;
        faults_out = t.went.faults_out;
        faults_in = t.went.faults_in;
      }

  -- one that code plays
  pub played_carried : (file : FileAt) (s t : SeatedAt) (old new : Worker O I) → SeatWork outward inward file s t old new → Counted outward inward old new → Carried old new
  played_carried file s t old new x counts = record {
    outs = λ q o is. out_before outward.pushed outward.same (out_of old q) (out_of new q) _ _ _ o (x.work.outs q) is;
    ins = λ q i is. in_before inward.popped inward.same (in_of old q) (in_of new q) _ i (x.work.ins q) is;
    faults_out = counts.outs;
    faults_in = counts.ins;
  }
