-- What the kept lanes show of the lanes that came back.
use Rattle.std.proofs.Common.{zero, suc, ◌≡◌, ℕ, ◌<◌, List, [], ◌∷◌, length, refl, sym, arith, ap, ◌∙◌}
use Rattle.std.specs.Prelude.{Some, slice_get}
use Rattle.std.proofs.lemmas.List.{map-append}
use mathlib.Core.List.{IsPrefix}
use Rattle.sj_end.specs.declared.frames.Frame.{Frame}
use Rattle.sj_lane.specs.Told.{told_frame, told_list}
use Rattle.rtrb.specs.Ring.{sent}
use Rattle.sj_lane.specs.declared.lane.Lanes.{Lanes}
use Rattle.sj_lane.specs.Square.{out_at, in_at, IsSquare, KeepsLists}
use Rattle.sj_lane.specs.declared.ends.RingOut.{RingOut}
use Rattle.sj_lane.specs.declared.ends.RingIn.{RingIn}
use Rattle.sj_lane.specs.Rings.{Each2, LanesKept, Fed, popped_of}
use Rattle.sj_lane.specs.KeptLanes.{sent_in, got_in, vain_out_in, vain_in_in}
use Rattle.sj_lane.proofs.SettleLemmas.{out_forth, in_forth}

pub slice_get_some : {X : Type 0} (xs : List X) (i : ℕ) → i < length xs → (x : X) × (slice_get xs i ≡ Some x)
slice_get_some [] i h = absurd (omega arith)
slice_get_some (x ∷ xs) zero h = (x, refl)
slice_get_some (x ∷ xs) (suc i) h = slice_get_some xs i (omega arith)

module _ {O I : Type 0} where
  pub square_out : (L : List (Lanes O I)) (p q : ℕ) → IsSquare L → p < length L → q < length L → (o : O) × (out_at L p q ≡ Some o)
  square_out L p q h hp hq =
      let l = slice_get_some L p hp in
      let s = h p l.0 l.1 in
      let e = l.0.outs.ok in
      let within : q < length l.0.outs.items = omega arith in
      let o = slice_get_some l.0.outs.items q within in
      (o.0, rw l.1 o.1)

  pub square_in : (L : List (Lanes O I)) (p q : ℕ) → IsSquare L → p < length L → q < length L → (i : I) × (in_at L p q ≡ Some i)
  square_in L p q h hp hq =
      let l = slice_get_some L q hq in
      let s = h q l.0 l.1 in
      let e = l.0.ins.ok in
      let within : p < length l.0.ins.items = omega arith in
      let o = slice_get_some l.0.ins.items p within in
      (o.0, rw l.1 o.1)

-- a prefix, as lanes report it
told_prefix : (xs ys : List Frame) → IsPrefix xs ys → IsPrefix (told_list xs) (told_list ys)
told_prefix xs ys h = (told_list h.0, sym (map-append told_frame xs h.0) ∙ ap told_list h.1)

pub kept_after : (L M : List (Lanes RingOut RingIn)) → IsSquare L → Each2 LanesKept L M
    → ((p q : ℕ) (o : RingOut) (i : RingIn) → q < length L → out_at L p q ≡ Some o → in_at L p q ≡ Some i → Fed o i)
    → KeepsLists {O = RingOut} {I = RingIn} (λ o. Some (told_list (sent o.producer))) (λ i. Some (told_list (popped_of i))) (λ o. o.vain) (λ i. i.vain) L (sent_in M) (got_in M) (vain_out_in M) (vain_in_in M)
kept_after L M square a fed = record {
  outs = λ p q o h. let x = out_forth L M p q o a h in rw x.1 (ap (λ fs. Some (told_list fs)) (sym x.2.sent), sym x.2.vain);
  ins = λ p q i h. let x = in_forth L M p q i a h in rw x.1 (ap (λ fs. Some (told_list fs)) (sym x.2.popped), sym x.2.vain);
  prefix = λ p q hp hq.
      let o = square_out L p q square hp hq in
      let i = square_in L p q square hp hq in
      let x = out_forth L M p q o.0 a o.1 in
      let y = in_forth L M p q i.0 a i.1 in
      rw (x.1, y.1, x.2.sent, y.2.popped) (told_prefix (popped_of i.0) (sent o.0.producer) (fed p q o.0 i.0 hq o.1 i.1));
}
