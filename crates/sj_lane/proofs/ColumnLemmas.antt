-- One column of lanes, while it is gone down.
use Rattle.std.proofs.Common.{◌≡◌, ℕ, ◌+◌, ◌≤◌, List, length, refl, arith, ◌∙◌, inl, inr}
use Rattle.std.proofs.Math.ListN.{set}
use Rattle.std.proofs.lemmas.Bool.{cases_eq}
use Rattle.std.proofs.lemmas.Option.{slice_get_within}
use Rattle.std.specs.Prelude.{Some, slice_get}
use Rattle.sj_lane.specs.declared.lane.Lanes.{Lanes}
use Rattle.sj_lane.specs.Square.{out_at}
use Rattle.sj_lane.specs.declared.ends.RingOut.{RingOut}
use Rattle.sj_lane.specs.declared.ends.RingIn.{RingIn}
use Rattle.sj_lane.specs.Rings.{Each2, OutKept, InKept, OutsKept, Joined, Fed, ColumnFed, ColumnJoined}
use Rattle.sj_lane.proofs.EachLemmas.{each2_get, each2_back, each2_put, each2_length}

pub joined_kept : (o p : RingOut) (i j : RingIn) → OutKept o p → InKept i j → Joined o i → Joined p j
joined_kept o p i j a b h = let r = a.ring in let s = b.ring in (cc, cc, cc, cc)

pub fed_before : (o p : RingOut) (i j : RingIn) → OutKept o p → InKept i j → Fed p j → Fed o i
fed_before o p i j a b h = rw (← a.sent, ← b.popped) h

-- the ends at an index now are joined, as they were
pub joined_now : (L M : List (Lanes RingOut RingIn)) (C D : List RingIn) (p q : ℕ) (l : Lanes RingOut RingIn) (o : RingOut) (i : RingIn)
    → ColumnJoined L C q → Each2 OutsKept L M → Each2 InKept C D → slice_get M p ≡ Some l → slice_get l.outs.items q ≡ Some o → slice_get D p ≡ Some i → Joined o i
joined_now L M C D p q l o i h a b at out in' =
    let x = each2_back OutsKept L M p l a at in
    let y = each2_back OutKept x.0.outs.items l.outs.items q o x.2.outs out in
    let z = each2_back InKept C D p i b in' in
    joined_kept y.0 o z.0 i y.2 z.2 (h p y.0 z.0 (rw x.1 y.1) z.1)

pub out_later : (a b c : RingOut) → OutKept a b → OutKept b c → OutKept a c
out_later a b c h k = let r = h.ring in let s = k.ring in record { ring = ((cc, cc, cc, cc), cc); sent = cc; vain = cc }

pub in_later : (a b c : RingIn) → InKept a b → InKept b c → InKept a c
in_later a b c h k = let r = h.ring in let s = k.ring in record { ring = ((cc, cc, cc, cc), cc); popped = k.popped ∙ h.popped; vain = cc }

pub out_itself : (a : RingOut) → OutKept a a
out_itself a = record { ring = ((refl, refl, refl, refl), refl); sent = refl; vain = refl }

pub in_itself : (a : RingIn) → InKept a a
in_itself a = record { ring = ((refl, refl, refl, refl), refl); popped = refl; vain = refl }

pub column_more : (L : List (Lanes RingOut RingIn)) (C : List RingIn) (p q : ℕ) → ColumnFed L C q p
    → ((o : RingOut) (i : RingIn) → out_at L p q ≡ Some o → slice_get C p ≡ Some i → Fed o i) → ColumnFed L C q (p + 1)
column_more L C p q before here = λ p' o i lt out in'.
    elim (cases_eq p' p) [
      | inl same ↦ here o i (rw (← same) out) (rw (← same) in')
      | inr other ↦ before p' o i (omega arith) out in'
    ]

pub column_step : (L M : List (Lanes RingOut RingIn)) (C D : List RingIn) (p q : ℕ) (l l2 : Lanes RingOut RingIn) (o o2 : RingOut) (i i2 : RingIn)
    → Each2 OutsKept L M → Each2 InKept C D → ColumnFed L C q p
    → slice_get M p ≡ Some l → slice_get l.outs.items q ≡ Some o → slice_get D p ≡ Some i
    → l2.ins ≡ l.ins → l2.outs.items ≡ set l.outs.items q o2
    → OutKept o o2 → InKept i i2 → Fed o i
    → Each2 OutsKept L (set M p l2) × Each2 InKept C (set D p i2) × ColumnFed L C q (p + 1)
column_step L M C D p q l l2 o o2 i i2 a b f at out in' ins outs ko ki fed = (
  each2_put OutsKept L M p l l2 a at (λ x r. record { outs = rw outs (each2_put OutKept x.outs.items l.outs.items q o o2 r.outs out (λ y s. out_later y o o2 s ko)); ins = ins ∙ r.ins }),
  each2_put InKept C D p i i2 b in' (λ x r. in_later x i i2 r ki),
  column_more L C p q f (λ o' i' out' in''.
      let x = each2_back OutsKept L M p l a at in
      let h : slice_get x.0.outs.items q ≡ Some o' = rw x.1 at out' in
      fed_before o' o i' i (each2_get OutKept x.0.outs.items l.outs.items q o' o x.2.outs h out) (each2_get InKept C D p i' i b in'' in') fed),
)

pub column_no_in : (L : List (Lanes RingOut RingIn)) (C D : List RingIn) (p q : ℕ) → Each2 InKept C D → ColumnFed L C q p → length D ≤ p → ColumnFed L C q (p + 1)
column_no_in L C D p q b f short = column_more L C p q f (λ o i out in'. let n = each2_length InKept C D b in let w = slice_get_within C p i in' in absurd (omega arith))

pub column_no_out : (L M : List (Lanes RingOut RingIn)) (C : List RingIn) (p q : ℕ) (l : Lanes RingOut RingIn) → Each2 OutsKept L M → ColumnFed L C q p → slice_get M p ≡ Some l → length l.outs.items ≤ q → ColumnFed L C q (p + 1)
column_no_out L M C p q l a f at short = column_more L C p q f (λ o i out in'.
    let x = each2_back OutsKept L M p l a at in
    let h : slice_get x.0.outs.items q ≡ Some o = rw x.1 at out in
    let n = each2_length OutKept x.0.outs.items l.outs.items x.2.outs in let w = slice_get_within x.0.outs.items q o h in absurd (omega arith))
