-- One ring more in the grid.
use Rattle.std.proofs.Common.{zero, suc, ◌≡◌, ℕ, ◌+◌, ◌<◌, List, [], ◌∷◌, ◌++◌, length, map, get_or, refl, sym, arith, ap, ◌∙◌, inl, inr}
use Rattle.std.specs.Prelude.{Some, slice_get, ◌⊎◌}
use Rattle.std.proofs.Math.ListN.{set}
use Rattle.std.proofs.lemmas.Bool.{cases_eq}
use Rattle.std.proofs.lemmas.List.{get_or-set_same, get_or-set_other, length-append, length-map, map-set, get_or-map}
use Rattle.std.proofs.Math.Seq.{map-set_same}
use Rattle.std.proofs.lemmas.Option.{slice_get_within, get_or_from_slice_get}
use Rattle.sj_lane.specs.declared.lane.Lanes.{Lanes}
use Rattle.sj_lane.specs.declared.ends.RingOut.{RingOut}
use Rattle.sj_lane.specs.declared.ends.RingIn.{RingIn}
use Rattle.sj_lane.specs.Rings.{Joined, handed_of, popped_of}
use Rattle.std.specs.Prelude.{Bool}
use Rattle.rtrb.specs.Ring.{sent}
use Rattle.sj_lane.specs.Told.{told_list}
use Rattle.sj_lane.specs.Square.{out_at, in_at, IsSquare, AllJoined, IsFresh}
use Rattle.sj_lane.proofs.SettleLemmas.{out_found, in_found}
use Rattle.sj_lane.specs.Rows.{outs_of, ins_of, rows_with, row, Linked, Grid}

-- an element of a list with one more at its end
pub get_snoc : {X : Type 0} (xs : List X) (x y : X) (i : ℕ) → slice_get (xs ++ x ∷ []) i ≡ Some y → (slice_get xs i ≡ Some y) ⊎ ((i ≡ length xs) × (y ≡ x))
get_snoc [] x y zero h = inr (refl, let e : x ≡ y = cc in sym e)
get_snoc [] x y (suc i) h = cc
get_snoc (z ∷ xs) x y zero h = inl h
get_snoc (z ∷ xs) x y (suc i) h = elim (get_snoc xs x y i h) [ inl k ↦ inl k | inr k ↦ inr (ap suc k.0, k.1) ]

module _ {X : Type 0} where
  pub row_own : (rows : List (List X)) (p : ℕ) (x : X) → p < length rows → row (rows_with rows p x) p ≡ row rows p ++ x ∷ []
  row_own rows p x h = get_or-set_same rows p (row rows p ++ x ∷ []) [] h

  pub row_other : (rows : List (List X)) (p k : ℕ) (x : X) → (k ≡ p → ⊥) → row (rows_with rows p x) k ≡ row rows k
  row_other rows p k x h = get_or-set_other rows p k (row rows p ++ x ∷ []) [] h

  pub row_length : (rows : List (List X)) (p : ℕ) (x : X) → p < length rows → length (row (rows_with rows p x) p) ≡ length (row rows p) + 1
  row_length rows p x h = ap length (row_own rows p x h) ∙ length-append (row rows p) (x ∷ [])

  pub added_get : (rows : List (List X)) (p a b : ℕ) (x y : X) → p < length rows → slice_get (row (rows_with rows p x) a) b ≡ Some y → (slice_get (row rows a) b ≡ Some y) ⊎ ((a ≡ p) × (b ≡ length (row rows p)) × (y ≡ x))
  added_get rows p a b x y h at = elim (cases_eq a p) [
    | inl same ↦ (
        let at2 : slice_get (row (rows_with rows p x) p) b ≡ Some y = ap (λ m. slice_get (row (rows_with rows p x) m) b) (sym same) ∙ at in
        let at3 : slice_get (row rows p ++ x ∷ []) b ≡ Some y = rw (row_own rows p x h) at at2 in
        elim (get_snoc (row rows p) x y b at3) [ inl k ↦ inl (rw same k) | inr k ↦ inr (same, k.0, k.1) ])
    | inr other ↦ inl (rw (row_other rows p a x other) at at)
  ]

pub grid_more : (n p q : ℕ) (L M : List (Lanes RingOut RingIn)) → p < n → q < n → length M ≡ length L → Grid n p q L → Linked L M p q → Grid n p (q + 1) M
grid_more n p q L M hp hq same g l =
    let lo : length (outs_of L) ≡ n = length-map L (λ x. x.outs.items) ∙ g.size in
    let li : length (ins_of L) ≡ n = length-map L (λ x. x.ins.items) ∙ g.size in
    let po : p < length (outs_of L) = omega arith in
    let qi : q < length (ins_of L) = omega arith in
    record {
      size = same ∙ g.size;
      full_outs = λ k h. rw l.outs (ap length (row_other (outs_of L) p k l.out (λ e. absurd (omega arith))) ∙ g.full_outs k h);
      own_outs = rw l.outs (row_length (outs_of L) p l.out po ∙ ap (λ m. m + 1) g.own_outs);
      no_outs = λ k h. rw l.outs (ap length (row_other (outs_of L) p k l.out (λ e. absurd (omega arith))) ∙ g.no_outs k h);
      more_ins = λ k h. rw l.ins (elim (cases_eq k q) [
        | inl e ↦ rw e (row_length (ins_of L) q l.lane qi ∙ ap (λ m. m + 1) (g.same_ins q (omega arith) hq))
        | inr d ↦ ap length (row_other (ins_of L) q k l.lane d) ∙ g.more_ins k (omega arith)
      ]);
      same_ins = λ k h h2. rw l.ins (ap length (row_other (ins_of L) q k l.lane (λ e. absurd (omega arith))) ∙ g.same_ins k (omega arith) h2);
      joined = λ a b o i ho hi.
          let ho2 = rw l.outs at ho in
          let hi2 = rw l.ins at hi in
          elim (added_get (outs_of L) p a b l.out o po ho2) [
            | inl x ↦ elim (added_get (ins_of L) q b a l.lane i qi hi2) [
              | inl y ↦ g.joined a b o i x y
              | inr y ↦ (
                  let w = slice_get_within (row (outs_of L) a) b o x in
                  let e1 : b ≡ q = y.0 in
                  let e2 : a ≡ p = y.1 ∙ g.same_ins q (omega arith) hq in
                  let w2 : b < length (row (outs_of L) p) = rw (← e2) w in
                  let m = g.own_outs in
                  absurd (omega arith))
            ]
            | inr x ↦ elim (added_get (ins_of L) q b a l.lane i qi hi2) [
              | inl y ↦ (
                  let w = slice_get_within (row (ins_of L) b) a i y in
                  let e1 : a ≡ p = x.0 in
                  let e2 : b ≡ q = x.1 ∙ g.own_outs in
                  let w2 : a < length (row (ins_of L) q) = rw (← e2) w in
                  let m = g.same_ins q (omega arith) hq in
                  absurd (omega arith))
              | inr y ↦ rw (x.2, y.2) l.joined
            ]
          ];
      new_outs = λ a b o ho. elim (added_get (outs_of L) p a b l.out o po (rw l.outs at ho)) [ inl x ↦ g.new_outs a b o x | inr x ↦ rw x.2 l.new_out ];
      new_ins = λ a b i hi. elim (added_get (ins_of L) q b a l.lane i qi (rw l.ins at hi)) [ inl x ↦ g.new_ins a b i x | inr x ↦ rw x.2 l.new_in ];
    }

pub link_lists : (L : List (Lanes RingOut RingIn)) (p q : ℕ) (l l1 m l2 : Lanes RingOut RingIn) (o : RingOut) (i : RingIn)
    → p < length L → q < length (set L p l1) → l ≡ get_or L p l → m ≡ get_or (set L p l1) q m
    → l1.outs.items ≡ l.outs.items ++ o ∷ [] → l1.ins ≡ l.ins → l2.outs ≡ m.outs → l2.ins.items ≡ m.ins.items ++ i ∷ []
    → (outs_of (set (set L p l1) q l2) ≡ rows_with (outs_of L) p o) × (ins_of (set (set L p l1) q l2) ≡ rows_with (ins_of L) q i)
link_lists L p q l l1 m l2 o i hp hq at at2 outs ins outs2 ins2 =
    let f : Lanes RingOut RingIn → List RingOut = λ x. x.outs.items in
    let g : Lanes RingOut RingIn → List RingIn = λ x. x.ins.items in
    let own : row (outs_of L) p ≡ l.outs.items = get_or-map f L p l [] hp ∙ ap f (sym at) in
    let same : map g (set L p l1) ≡ map g L = map-set_same g L p l1 l (ap (λ v. v.items) ins ∙ ap g at) in
    let own2 : row (ins_of L) q ≡ m.ins.items = ap (λ rows. row rows q) (sym same) ∙ get_or-map g (set L p l1) q m [] hq ∙ ap g (sym at2) in (
      map-set_same f (set L p l1) q l2 m (ap (λ v. v.items) outs2 ∙ ap f at2) ∙ map-set f L p l1 ∙ ap (λ r. set (outs_of L) p r) (outs ∙ ap (λ r. r ++ o ∷ []) (sym own)),
      map-set g (set L p l1) q l2 ∙ ap (λ rows. set rows q (g l2)) same ∙ ap (λ r. set (ins_of L) q r) (ins2 ∙ ap (λ r. r ++ i ∷ []) (sym own2)),
    )

pub out_row : (L : List (Lanes RingOut RingIn)) (p q : ℕ) (o : RingOut) → out_at L p q ≡ Some o → slice_get (row (outs_of L) p) q ≡ Some o
out_row L p q o h =
    let f = out_found (slice_get L p) q o h in
    let e : row (outs_of L) p ≡ f.0.outs.items = get_or-map (λ l. l.outs.items) L p f.0 [] (slice_get_within L p f.0 f.1) ∙ ap (λ l. l.outs.items) (get_or_from_slice_get L p f.0 f.0 f.1) in
    rw e f.2

pub in_row : (L : List (Lanes RingOut RingIn)) (p q : ℕ) (i : RingIn) → in_at L p q ≡ Some i → slice_get (row (ins_of L) q) p ≡ Some i
in_row L p q i h =
    let f = in_found (slice_get L q) p i h in
    let e : row (ins_of L) q ≡ f.0.ins.items = get_or-map (λ l. l.ins.items) L q f.0 [] (slice_get_within L q f.0 f.1) ∙ ap (λ l. l.ins.items) (get_or_from_slice_get L q f.0 f.0 f.1) in
    rw e f.2

pub grid_square : (n : ℕ) (L : List (Lanes RingOut RingIn)) → Grid n n 0 L → IsSquare L
grid_square n L g = λ p l at.
    let w = slice_get_within L p l at in
    let s = g.size in
    let e : row (outs_of L) p ≡ l.outs.items = get_or-map (λ l. l.outs.items) L p l [] w ∙ ap (λ l. l.outs.items) (get_or_from_slice_get L p l l at) in
    let f : row (ins_of L) p ≡ l.ins.items = get_or-map (λ l. l.ins.items) L p l [] w ∙ ap (λ l. l.ins.items) (get_or_from_slice_get L p l l at) in
    let a = g.full_outs p (omega arith) in
    let b = g.same_ins p (omega arith) (omega arith) in
    let c = ap length e in let d = ap length f in
    let ok = l.outs.ok in let ok2 = l.ins.ok in
    (omega arith, omega arith)

pub grid_joined : (n : ℕ) (L : List (Lanes RingOut RingIn)) → Grid n n 0 L → AllJoined Joined L
grid_joined n L g = λ p q o i ho hi. g.joined p q o i (out_row L p q o ho) (in_row L p q i hi)

pub grid_fresh : (n : ℕ) (tells : Bool) (L : List (Lanes RingOut RingIn)) → Grid n n 0 L → IsFresh {O = RingOut} {I = RingIn} (λ o. Some (told_list (sent o.producer))) (λ i. Some (told_list (popped_of i))) (λ o. o.vain) (λ i. i.vain) tells L
grid_fresh n tells L g = record {
  outs = λ p q o h. let x = g.new_outs p q o (out_row L p q o h) in (λ t. ap (λ fs. Some (told_list fs)) x.sent, x.vain);
  ins = λ p q i h. let x = g.new_ins p q i (in_row L p q i h) in (λ t. ap (λ fs. Some (told_list fs)) x.popped, x.vain);
}

pub grid_unhanded : (n : ℕ) (L : List (Lanes RingOut RingIn)) → Grid n n 0 L → (p q : ℕ) (i : RingIn) → in_at L p q ≡ Some i → handed_of i ≡ 0
grid_unhanded n L g p q i h = let x = g.new_ins p q i (in_row L p q i h) in x.handed
