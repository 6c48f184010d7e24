-- Workers that are looked at one after the other.
use Rattle.std.proofs.Common.{◌≡◌, ◌⊎◌, ◌∙◌, ℕ, zero, suc, ◌+◌, ◌<◌, ◌≤◌, List, [], ◌∷◌, length, get_or, Some, inl, inr, sym, ap, arith}
use Rattle.std.specs.Prelude.{slice_get}
use Rattle.sj_work.specs.declared.worker.Stop.{Stop}
use Rattle.sj_work.specs.declared.worker.Worker.{Worker}
use Rattle.sj_work.specs.Views.{stop_of}
use Rattle.sj_run.specs.Workers.{NoneStopped, SomeStopped}
use Rattle.sj_seat_run.proofs.ListLemmas.{below_length}

-- the one that is looked at
pub looked_at : {X : Type 0} (xs : List X) (k : ℕ) (x : X) → k < length xs → x ≡ get_or xs k x → slice_get xs k ≡ Some x
looked_at [] k x lt is = absurd (omega (arith, lt))
looked_at (y ∷ ys) zero x lt is = ap Some (sym is)
looked_at (y ∷ ys) (suc k) x lt is = looked_at ys k x (omega (arith, lt)) is

before_or_at : (p k : ℕ) → p < k + 1 → (p < k) ⊎ (p ≡ k)
before_or_at p zero lt = inr (omega (arith, lt))
before_or_at zero (suc k) lt = inl (omega arith)
before_or_at (suc p) (suc k) lt = elim (before_or_at p k (omega (arith, lt))) [ inl l ↦ inl (omega (arith, l)) | inr e ↦ inr (ap suc e) ]

module _ {O I : Type 0} (workers : List (Worker O I)) (stop : Stop) where
  -- none of the first k stopped so
  abbrev pub NoneBefore : ℕ → Type 0
  NoneBefore k = (p : ℕ) (w : Worker O I) → p < k → slice_get workers p ≡ Some w → stop_of w ≡ Some stop → ⊥

  pub none_first : NoneBefore 0
  none_first p w lt = absurd (omega (arith, lt))

  -- nor did the next one
  pub none_next : (k : ℕ) (w : Worker O I) → k < length workers → w ≡ get_or workers k w → (stop_of w ≡ Some stop → ⊥) → NoneBefore k → NoneBefore (k + 1)
  none_next k w lt is other before p v less there stopped =
      elim (before_or_at p k less) [
        | inl l ↦ before p v l there stopped
        | inr e ↦ other (let same : Some w ≡ Some v = sym (looked_at workers k w lt is) ∙ ap (slice_get workers) (sym e) ∙ there in
            let one : w ≡ v = cc same in
            ap stop_of one ∙ stopped)
      ]

  pub none_at_all : (k : ℕ) → length workers ≤ k → NoneBefore k → NoneStopped workers stop
  none_at_all k le before p w there = let lt = below_length workers p w there in before p w (omega (arith, le, lt)) there

  pub some_stopped : (k : ℕ) (w : Worker O I) → k < length workers → w ≡ get_or workers k w → stop_of w ≡ Some stop → SomeStopped workers stop
  some_stopped k w lt is stopped = record { party = k; worker = w; there = looked_at workers k w lt is; stopped = stopped }
