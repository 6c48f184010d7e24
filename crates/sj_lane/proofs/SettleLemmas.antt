-- All lanes, while their columns are gone through.
use Rattle.std.proofs.Common.{zero, suc, ◌≡◌, ℕ, ◌+◌, ◌<◌, List, [], ◌∷◌, length, refl, arith, inl, inr}
use Rattle.std.proofs.Math.ListN.{set}
use Rattle.std.proofs.lemmas.Bool.{cases_eq}
use Rattle.std.proofs.lemmas.Option.{slice_get_within}
use Rattle.std.specs.Prelude.{Option, Some, None, slice_get}
use Rattle.sj_lane.specs.declared.lane.Lanes.{Lanes}
use Rattle.sj_lane.specs.Square.{out_at, in_at, out_in, in_in, AllJoined}
use Rattle.sj_lane.specs.declared.ends.RingOut.{RingOut}
use Rattle.sj_lane.specs.declared.ends.RingIn.{RingIn}
use Rattle.sj_lane.specs.Rings.{Each2, OutKept, InKept, OutsKept, LanesKept, Joined, Fed, ColumnFed, ColumnJoined}
use Rattle.sj_lane.proofs.EachLemmas.{each2_back, each2_forth, each2_put, each2_refl, each2_trans}
use Rattle.sj_lane.proofs.ColumnLemmas.{joined_kept, fed_before, out_later, in_later, out_itself, in_itself}

module _ {O I : Type 0} where
  pub out_found : (s : Option (Lanes O I)) (q : ℕ) (o : O) → out_in s q ≡ Some o → (l : Lanes O I) × (s ≡ Some l) × (slice_get l.outs.items q ≡ Some o)
  out_found None q o h = cc
  out_found (Some l) q o h = (l, refl, h)

  pub in_found : (s : Option (Lanes O I)) (q : ℕ) (i : I) → in_in s q ≡ Some i → (l : Lanes O I) × (s ≡ Some l) × (slice_get l.ins.items q ≡ Some i)
  in_found None q i h = cc
  in_found (Some l) q i h = (l, refl, h)

pub record SameOuts (a b : Lanes RingOut RingIn) : Type 0 where
  pub outs : b.outs ≡ a.outs

pub kept_itself : (l : Lanes RingOut RingIn) → LanesKept l l
kept_itself l = record { outs = each2_refl OutKept out_itself l.outs.items; ins = each2_refl InKept in_itself l.ins.items }

pub out_back : (L M : List (Lanes RingOut RingIn)) (p q : ℕ) (o : RingOut) → Each2 LanesKept L M → out_at M p q ≡ Some o → (b : RingOut) × (out_at L p q ≡ Some b) × OutKept b o
out_back L M p q o a h =
    let f = out_found (slice_get M p) q o h in
    let x = each2_back LanesKept L M p f.0 a f.1 in
    let y = each2_back OutKept x.0.outs.items f.0.outs.items q o x.2.outs f.2 in
    (y.0, rw x.1 y.1, y.2)

pub out_forth : (L M : List (Lanes RingOut RingIn)) (p q : ℕ) (o : RingOut) → Each2 LanesKept L M → out_at L p q ≡ Some o → (b : RingOut) × (out_at M p q ≡ Some b) × OutKept o b
out_forth L M p q o a h =
    let f = out_found (slice_get L p) q o h in
    let x = each2_forth LanesKept L M p f.0 a f.1 in
    let y = each2_forth OutKept f.0.outs.items x.0.outs.items q o x.2.outs f.2 in
    (y.0, rw x.1 y.1, y.2)

pub in_back : (L M : List (Lanes RingOut RingIn)) (p q : ℕ) (i : RingIn) → Each2 LanesKept L M → in_at M p q ≡ Some i → (b : RingIn) × (in_at L p q ≡ Some b) × InKept b i
in_back L M p q i a h =
    let f = in_found (slice_get M q) p i h in
    let x = each2_back LanesKept L M q f.0 a f.1 in
    let y = each2_back InKept x.0.ins.items f.0.ins.items p i x.2.ins f.2 in
    (y.0, rw x.1 y.1, y.2)

pub in_forth : (L M : List (Lanes RingOut RingIn)) (p q : ℕ) (i : RingIn) → Each2 LanesKept L M → in_at L p q ≡ Some i → (b : RingIn) × (in_at M p q ≡ Some b) × InKept i b
in_forth L M p q i a h =
    let f = in_found (slice_get L q) p i h in
    let x = each2_forth LanesKept L M q f.0 a f.1 in
    let y = each2_forth InKept f.0.ins.items x.0.ins.items p i x.2.ins f.2 in
    (y.0, rw x.1 y.1, y.2)

-- lanes with one column taken out have the same outgoing lanes
pub emptied : (M : List (Lanes RingOut RingIn)) (q : ℕ) (l l1 : Lanes RingOut RingIn) → slice_get M q ≡ Some l → l1.outs ≡ l.outs → Each2 SameOuts M (set M q l1)
emptied M q l l1 at e = each2_put SameOuts M M q l l1 (each2_refl SameOuts (λ x. record { outs = refl }) M) at (λ x r. let s = r.outs in record { outs = cc })

pub out_of_emptied : (M N : List (Lanes RingOut RingIn)) (p q : ℕ) (o : RingOut) → Each2 SameOuts M N → out_at N p q ≡ Some o → out_at M p q ≡ Some o
out_of_emptied M N p q o a h =
    let f = out_found (slice_get N p) q o h in
    let x = each2_back SameOuts M N p f.0 a f.1 in
    rw x.1 (rw (← x.2.outs) f.2)

pub out_in_emptied : (M N : List (Lanes RingOut RingIn)) (p q : ℕ) (o : RingOut) → Each2 SameOuts M N → out_at M p q ≡ Some o → out_at N p q ≡ Some o
out_in_emptied M N p q o a h =
    let f = out_found (slice_get M p) q o h in
    let x = each2_forth SameOuts M N p f.0 a f.1 in
    rw x.1 (rw x.2.outs f.2)

-- the column that is taken out is joined
pub column_joined : (L M : List (Lanes RingOut RingIn)) (q : ℕ) (l l1 : Lanes RingOut RingIn) → AllJoined Joined L → Each2 LanesKept L M → slice_get M q ≡ Some l → l1.outs ≡ l.outs → ColumnJoined (set M q l1) l.ins.items q
column_joined L M q l l1 h a at e = λ p o i out in'.
    let m : out_at M p q ≡ Some o = out_of_emptied M (set M q l1) p q o (emptied M q l l1 at e) out in
    let n : in_at M p q ≡ Some i = rw at in' in
    let x = out_back L M p q o a m in
    let y = in_back L M p q i a n in
    joined_kept x.0 o y.0 i x.2 y.2 (h p q x.0 y.0 x.1 y.1)

lanes_then_outs : (x y z : Lanes RingOut RingIn) → LanesKept x y → OutsKept y z → LanesKept x z
lanes_then_outs x y z a b = record { outs = each2_trans OutKept OutKept OutKept out_later x.outs.items y.outs.items z.outs.items a.outs b.outs; ins = rw b.ins a.ins }

-- the column is put back
pub column_back : (L M N : List (Lanes RingOut RingIn)) (q : ℕ) (l l1 m m3 : Lanes RingOut RingIn)
    → Each2 LanesKept L M → slice_get M q ≡ Some l → Each2 OutsKept (set M q l1) N → slice_get N q ≡ Some m
    → l1.outs ≡ l.outs → Each2 InKept l.ins.items m3.ins.items → m3.outs ≡ m.outs → Each2 LanesKept L (set N q m3)
column_back [] [] N q l l1 m m3 a at b bt e c f = cc
column_back [] (y ∷ M) N q l l1 m m3 a at b bt e c f = absurd a
column_back (x ∷ L) [] N q l l1 m m3 a at b bt e c f = absurd a
column_back (x ∷ L) (y ∷ M) [] zero l l1 m m3 a at b bt e c f = absurd b
column_back (x ∷ L) (y ∷ M) [] (suc q) l l1 m m3 a at b bt e c f = absurd b
column_back (x ∷ L) (y ∷ M) (z ∷ N) zero l l1 m m3 a at b bt e c f =
    let p : y ≡ l = cc in
    let r : z ≡ m = cc in
    let k : LanesKept x l = rw (← p) a.0 in
    let o : Each2 OutKept l.outs.items m.outs.items = rw (← e, ← r) b.0.outs in (
      record {
        outs = rw f (each2_trans OutKept OutKept OutKept out_later x.outs.items l.outs.items m.outs.items k.outs o);
        ins = each2_trans InKept InKept InKept in_later x.ins.items l.ins.items m3.ins.items k.ins c;
      },
      each2_trans LanesKept OutsKept LanesKept lanes_then_outs L M N a.1 b.1,
    )
column_back (x ∷ L) (y ∷ M) (z ∷ N) (suc q) l l1 m m3 a at b bt e c f =
    (lanes_then_outs x y z a.0 b.0, column_back L M N q l l1 m m3 a.1 at b.1 bt e c f)

-- the lanes to one party more are fed
pub fed_more : (L M : List (Lanes RingOut RingIn)) (q : ℕ) (l l1 : Lanes RingOut RingIn)
    → Each2 LanesKept L M → slice_get M q ≡ Some l → l1.outs ≡ l.outs → ColumnFed (set M q l1) l.ins.items q (length (set M q l1))
    → ((p q' : ℕ) (o : RingOut) (i : RingIn) → q' < q → out_at L p q' ≡ Some o → in_at L p q' ≡ Some i → Fed o i)
    → (p q' : ℕ) (o : RingOut) (i : RingIn) → q' < q + 1 → out_at L p q' ≡ Some o → in_at L p q' ≡ Some i → Fed o i
fed_more L M q l l1 a at e here before p q' o i lt out in' =
    elim (cases_eq q' q) [
      | inl same ↦ (
          let out2 : out_at L p q ≡ Some o = rw (← same) out in
          let in2 : in_at L p q ≡ Some i = rw (← same) in' in
          let x = out_forth L M p q o a out2 in
          let y = in_forth L M p q i a in2 in
          let o1 = out_in_emptied M (set M q l1) p q x.0 (emptied M q l l1 at e) x.1 in
          let i1 : slice_get l.ins.items p ≡ Some y.0 = rw at at y.1 in
          let f = out_found (slice_get (set M q l1) p) q x.0 o1 in
          fed_before o x.0 i y.0 x.2 y.2 (here p x.0 y.0 (slice_get_within (set M q l1) p f.0 f.1) o1 i1))
      | inr other ↦ before p q' o i (omega arith) out in'
    ]
