-- The lanes beside the ring whose frames were handed over.
use Rattle.std.proofs.Common.{zero, suc, ◌≡◌, ℕ, List, [], ◌∷◌, refl, sym, ap, ◌∙◌, inl, inr}
use Rattle.std.specs.Prelude.{Option, Some, Vec, Result, ◌⊎◌, slice_get}
use Rattle.std.specs.declared.alloc.Global.{Global}
use Rattle.std.proofs.Math.ListN.{set}
use Rattle.std.proofs.lemmas.Bool.{cases_eq}
use Rattle.std.proofs.lemmas.Option.{slice_get_within}
use Rattle.sj_end.specs.declared.frames.Frame.{Frame}
use Rattle.sj_lane.specs.declared.lane.Lanes.{Lanes}
use Rattle.sj_lane.specs.declared.ends.RingOut.{RingOut}
use Rattle.sj_lane.specs.declared.ends.RingIn.{RingIn}
use Rattle.sj_lane.specs.Square.{in_at, in_in, out_at, out_in}
use Rattle.sj_lane.specs.Rings.{Each2, OutsKept, handed_after, handed_of}
use Rattle.sj_lane.proofs.CellLemmas.{get_set_here, get_set_other}

-- a list with the element set that it has
pub set_same : {X : Type 0} (xs : List X) (k : ℕ) (x : X) → slice_get xs k ≡ Some x → set xs k x ≡ xs
set_same [] k x at = refl
set_same (y ∷ ys) zero x at = let same : y ≡ x = cc in ap (λ v. v ∷ ys) (sym same)
set_same (y ∷ ys) (suc k) x at = ap (λ vs. y ∷ vs) (set_same ys k x at)

-- one party has the same outgoing lanes, so all have
pub out_set_same : (L : List (Lanes RingOut RingIn)) (k : ℕ) (l m : Lanes RingOut RingIn) → slice_get L k ≡ Some l → m.outs ≡ l.outs
    → (p q : ℕ) → out_at (set L k m) p q ≡ out_at L p q
out_set_same L k l m at outs p q = by (cases_eq p k)
  where
    here : slice_get (set L k m) k ≡ Some m
    here = get_set_here L k m (slice_get_within L k l at)

    by : (p ≡ k) ⊎ (p ≡ k → ⊥) → out_at (set L k m) p q ≡ out_at L p q
    by (inl is) = rw is (ap (λ s. out_in s q) here ∙ ap (λ v. slice_get v.items q) outs ∙ sym (ap (λ s. out_in s q) at))
    by (inr not) = ap (λ s. out_in s q) (get_set_other L k p m not)

-- incoming lanes that are untouched
pub in_untouched : (L M : List (Lanes RingOut RingIn)) → Each2 OutsKept L M → (p q : ℕ) → in_at M p q ≡ in_at L p q
in_untouched [] [] a p q = refl
in_untouched [] (m ∷ M) a p q = absurd a
in_untouched (l ∷ L) [] a p q = absurd a
in_untouched (l ∷ L) (m ∷ M) a p zero = let k = a.0 in ap (λ v. slice_get v.items p) k.ins
in_untouched (l ∷ L) (m ∷ M) a p (suc q) = in_untouched L M a.1 p q

-- the column is put back, with one ring changed
pub others_back : (L N : List (Lanes RingOut RingIn)) (p q to : ℕ) (l l1 m m3 : Lanes RingOut RingIn)
    → slice_get L to ≡ Some l → l1.outs ≡ l.outs → Each2 OutsKept (set L to l1) N → slice_get N to ≡ Some m → m3.outs ≡ m.outs
    → out_at N p q ≡ out_at (set L to l1) p q → (q ≡ to → slice_get m3.ins.items p ≡ slice_get l.ins.items p)
    → (out_at (set N to m3) p q ≡ out_at L p q) × (in_at (set N to m3) p q ≡ in_at L p q)
others_back L N p q to l l1 m m3 at outs kept bt back out into =
    (out_set_same N to m m3 bt back p q ∙ out ∙ out_set_same L to l l1 at outs p q, by (cases_eq q to))
  where
    here : slice_get (set N to m3) to ≡ Some m3
    here = get_set_here N to m3 (slice_get_within N to m bt)

    by : (q ≡ to) ⊎ (q ≡ to → ⊥) → in_at (set N to m3) p q ≡ in_at L p q
    by (inl is) =
        let now : in_at (set N to m3) p to ≡ in_at L p to = ap (λ s. in_in s p) here ∙ into is ∙ sym (ap (λ s. in_in s p) at) in
        rw is now
    by (inr not) =
        ap (λ s. in_in s p) (get_set_other N to q m3 not) ∙ in_untouched (set L to l1) N kept p q ∙ ap (λ s. in_in s p) (get_set_other L to q l1 not)

-- the count of one lane, which is the same or another
pub handed_between : {E : Type 0} (a b : Option RingIn) (i j x y : RingIn) (r : Result (Option (Vec Frame Global)) E)
    → a ≡ Some x → b ≡ Some y → handed_of y ≡ handed_after (handed_of x) r → a ≡ Some i → b ≡ Some j → handed_of j ≡ handed_after (handed_of i) r
handed_between a b i j x y r at bt h ai bj =
    let first : Some x ≡ Some i = sym at ∙ ai in
    let last : Some y ≡ Some j = sym bt ∙ bj in
    let is : x ≡ i = cc first in
    let js : y ≡ j = cc last in
    rw (← is, ← js) h
