-- Lanes and nodes while what waits on the lanes is put before the outboxes.
use Rattle.std.proofs.Common.{◌≡◌, ◌∙◌, ℕ, ◌+◌, ◌<◌, ◌≤◌, nat_lt, ◌==◌, Bool, true, false, List, [], ◌∷◌, ◌++◌, map, length, Option, Some, None, inl, inr, refl, sym, ap, subst, arith}
use Rattle.std.specs.Prelude.{slice_get}
use Rattle.std.proofs.lemmas.Bool.Decides.{nat_tests}
use Rattle.sj_lang.specs.Place.{Place}
use Rattle.sj_end.specs.declared.frames.Frame.{Frame}
use Rattle.sj_end.specs.Views.{frame_at}
use Rattle.sj_rules.specs.Frames.{FrameAt}
use Rattle.sj_lane.specs.declared.lane.OutLane.{Ghosts as OutLane}
use Rattle.sj_lane.specs.declared.lane.InLane.{Ghosts as InLane}
use Rattle.sj_lane.specs.declared.lane.Lanes.{Lanes}
use Rattle.sj_lane.specs.Square.{AllJoined, HasFault, IsRest, IsSquare, KeepsLists, SameIn, SameLists, SameOut, in_at, out_at, out_in}
use Rattle.sj_lane.proofs.BackLemmas.{square_out}
use Rattle.sj_lane.proofs.CarryingLemmas.{lists_later, lists_same}
use Rattle.sj_node.specs.declared.node.Node.{Node}
use Rattle.sj_node.specs.Outs.{waiting_in}
use Rattle.sj_node.specs.Reading.{TakesOut, outs_of}
use Rattle.sj_core.proofs.FirstLemmas.{behind}
use Rattle.sj_run.specs.Handed.{HasTaken, IsHandedIn, LanesStay, WaitsBeside}
use Rattle.sj_run.proofs.WorkedLemmas.{below_length}

-- outboxes that stay after outboxes that stay
pub takes_later : (a b c : Node) → TakesOut a b → TakesOut b c → TakesOut a c
takes_later a b c x y = record {
  node = y.node ∙ x.node;
  log = y.log ∙ x.log;
  party = y.party ∙ x.party;
  parties = y.parties ∙ x.parties;
  table = y.table ∙ x.table;
  connects = y.connects ∙ x.connects;
}

-- a count that is not 0
pub some_there : (n : ℕ) → (n == 0) ≡ false → 0 < n
some_there n e = grind (arith, nat_tests)

pub takes_itself : (a : Node) → TakesOut a a
takes_itself a = record { node = refl; log = refl; party = refl; parties = refl; table = refl; connects = refl }

module _ {O I : Type 0} (pushed : O → Option (List (FrameAt Place))) (popped : I → Option (List (FrameAt Place))) (vain_o : O → ℕ) (vain_i : I → ℕ) where
  -- a lane that is there is there later
  out_on : (x y : Option O) (o : O) → SameOut pushed popped vain_o vain_i x y → x ≡ Some o → (r : O) × (y ≡ Some r) × (pushed r ≡ pushed o) × (vain_o r ≡ vain_o o)
  out_on None y o s is = absurd (cc is)
  out_on (Some a) None o s is = absurd s
  out_on (Some a) (Some b) o s is = let e : a ≡ o = cc is in (b, refl, s.0 ∙ ap pushed e, s.1 ∙ ap vain_o e)

  in_on : (x y : Option I) (i : I) → SameIn pushed popped vain_o vain_i x y → x ≡ Some i → (j : I) × (y ≡ Some j) × (popped j ≡ popped i) × (vain_i j ≡ vain_i i)
  in_on None y i s is = absurd (cc is)
  in_on (Some a) None i s is = absurd s
  in_on (Some a) (Some b) i s is = let e : a ≡ i = cc is in (b, refl, s.0 ∙ ap popped e, s.1 ∙ ap vain_i e)

  -- and was there before
  out_off : (x y : Option O) (r : O) → SameOut pushed popped vain_o vain_i x y → y ≡ Some r → (o : O) × (x ≡ Some o) × (pushed r ≡ pushed o)
  out_off None None r s is = absurd (cc is)
  out_off (Some a) None r s is = absurd s
  out_off None (Some b) r s is = absurd s
  out_off (Some a) (Some b) r s is = let e : b ≡ r = cc is in (a, refl, ap pushed (sym e) ∙ s.0)

  in_off : (x y : Option I) (j : I) → SameIn pushed popped vain_o vain_i x y → y ≡ Some j → (i : I) × (x ≡ Some i) × (popped j ≡ popped i)
  in_off None None j s is = absurd (cc is)
  in_off (Some a) None j s is = absurd s
  in_off None (Some b) j s is = absurd s
  in_off (Some a) (Some b) j s is = let e : b ≡ j = cc is in (a, refl, ap popped (sym e) ∙ s.0)

  row_some : (r : Option (Lanes O I)) (q : ℕ) (o : O) → out_in r q ≡ Some o → (l : Lanes O I) × (r ≡ Some l)
  row_some None q o is = absurd (cc is)
  row_some (Some l) q o is = (l, refl)

  row_below : (L : List (Lanes O I)) (p q : ℕ) (o : O) → out_at L p q ≡ Some o → p < length L
  row_below L p q o is = let l = row_some (slice_get L p) q o is in below_length L p l.0 l.1

  module _ (K L : List (Lanes O I)) (same : SameLists pushed popped vain_o vain_i K L) where
    -- as many lanes
    pub same_count : IsSquare K → IsSquare L → length L ≡ length K
    same_count k l = by (nat_lt (length K) (length L)) (nat_lt (length L) (length K)) refl refl
      where
        by : (b c : Bool) → nat_lt (length K) (length L) ≡ b → nat_lt (length L) (length K) ≡ c → length L ≡ length K
        by true c e f =
            let n : ℕ = length K in
            let lt : n < length L = grind (arith, nat_tests) in
            let o = square_out L n n l lt lt in
            let x = out_off (out_at K n n) (out_at L n n) o.0 (same.outs n n) o.1 in
            let no = row_below K n n x.0 x.1 in
            absurd (omega (arith, no))
        by false true e f =
            let n : ℕ = length L in
            let lt : n < length K = grind (arith, nat_tests) in
            let o = square_out K n n k lt lt in
            let x = out_on (out_at K n n) (out_at L n n) o.0 (same.outs n n) o.1 in
            let no = row_below L n n x.0 x.1 in
            absurd (omega (arith, no))
        by false false e f = grind (arith, nat_tests)

    -- what is left on a link later was left on it
    pub rest_back : (p q : ℕ) (frames : List Frame) → IsRest pushed popped L p q frames → IsRest pushed popped K p q frames
    rest_back p q frames r =
        let o = out_off (out_at K p q) (out_at L p q) r.out (same.outs p q) r.there in
        let i = in_off (in_at K p q) (in_at L p q) r.into (same.ins p q) r.here in
        record {
          out = o.0;
          into = i.0;
          there = o.1;
          here = i.1;
          got = r.got;
          popped_is = sym i.2 ∙ r.popped_is;
          pushed_is = sym o.2 ∙ r.pushed_is;
        }

    pub taken_back : (p q : ℕ) (old new : Node) → HasTaken pushed popped L p q old new → HasTaken pushed popped K p q old new
    taken_back p q old new t = record { frames = t.frames; rest = rest_back p q t.frames t.rest; waits = t.waits }

    -- the nodes that took it then took it
    pub handed_back : IsSquare K → IsSquare L → (p : ℕ) (old new : Node) → IsHandedIn pushed popped L p old new → IsHandedIn pushed popped K p old new
    handed_back k l p old new h =
        let as_many = same_count k l in
        record {
          same = h.same;
          taken = λ q lt. taken_back p q old new (h.taken q (omega (arith, lt, as_many)));
          beyond = λ q le. h.beyond q (omega (arith, le, as_many));
          plain = h.plain;
        }

    -- what links keep of them then they keep of them
    pub kept_back : IsSquare K → IsSquare L → (sent got : ℕ → ℕ → List (FrameAt Place)) (vain_out vain_in : ℕ → ℕ → ℕ)
        → KeepsLists pushed popped vain_o vain_i L sent got vain_out vain_in → KeepsLists pushed popped vain_o vain_i K sent got vain_out vain_in
    kept_back k l sent got vain_out vain_in kept =
        let as_many = same_count k l in
        record {
          outs = λ p q o at.
              let r = out_on (out_at K p q) (out_at L p q) o (same.outs p q) at in
              let is = kept.outs p q r.0 r.1 in
              (sym r.2 ∙ is.0, sym r.3 ∙ is.1);
          ins = λ p q i at.
              let j = in_on (in_at K p q) (in_at L p q) i (same.ins p q) at in
              let is = kept.ins p q j.0 j.1 in
              (sym j.2 ∙ is.0, sym j.3 ∙ is.1);
          prefix = λ p q lt mt. kept.prefix p q (omega (arith, lt, as_many)) (omega (arith, mt, as_many));
        }

    -- and one node took what waits for one more
    pub taken_more : (p k : ℕ) (old mid new : Node) → ((q : ℕ) → q < k → HasTaken pushed popped K p q old mid)
        → ((q : ℕ) → k ≤ q → waiting_in (outs_of mid) q ≡ waiting_in (outs_of old) q)
        → HasTaken pushed popped L p k mid new → WaitsBeside k mid new → (q : ℕ) → q < k + 1 → HasTaken pushed popped K p q old new
    taken_more p k old mid new before later now beside q lt = by (nat_lt q k) refl
      where
        by : (b : Bool) → nat_lt q k ≡ b → HasTaken pushed popped K p q old new
        by true e =
            let mt : q < k = grind (arith, nat_tests) in
            let t = before q mt in
            record { frames = t.frames; rest = t.rest; waits = beside q (λ is. omega (arith, is, mt)) ∙ t.waits }
        by false e =
            let le : k ≤ q = grind (arith, nat_tests) in
            let is : k ≡ q = omega (arith, le, lt) in
            subst (λ (r : ℕ). HasTaken pushed popped K p r old new) is
            (record { frames = now.frames; rest = rest_back p k now.frames now.rest; waits = now.waits ∙ ap (λ fs. map frame_at now.frames ++ fs) (later k (omega arith)) })

  -- with the next party's
  pub each_more : (K : List (Lanes O I)) (old hs : List Node) (k : ℕ) (n m : Node) → length hs ≡ k
      → ((p : ℕ) (x : Node) → slice_get hs p ≡ Some x → (y : Node) × (slice_get old p ≡ Some y) × IsHandedIn pushed popped K p y x)
      → slice_get old k ≡ Some n → IsHandedIn pushed popped K k n m
      → (p : ℕ) (x : Node) → slice_get (hs ++ m ∷ []) p ≡ Some x → (y : Node) × (slice_get old p ≡ Some y) × IsHandedIn pushed popped K p y x
  each_more K old hs k n m count so at handed p x is =
      elim (behind hs m p x is) [
        | inl there ↦ so p x there
        | inr last ↦
            let here : k ≡ p = sym (last.0 ∙ count) in
            (n, subst (λ (r : ℕ). slice_get old r ≡ Some n) here at, subst (λ (z : Node). IsHandedIn pushed popped K p n z) (sym last.1) (subst (λ (r : ℕ). IsHandedIn pushed popped K r n m) here handed))
      ]

module _ {O I : Type 0} (outward : OutLane O) (inward : InLane I) (joined : O → I → Type 0) where
  pub stay_itself : (L : List (Lanes O I)) → IsSquare L → AllJoined joined L → LanesStay outward inward joined L L
  stay_itself L square ends = record {
    square = square;
    ends = ends;
    lists = lists_same outward.pushed inward.popped outward.vain inward.vain L;
    fell = record {
      outs = λ p q a b at is. let both : Some a ≡ Some b = sym at ∙ is in let e : a ≡ b = cc both in subst (λ (z : O). outward.faults a ≤ outward.faults z) e (omega arith);
      ins = λ p q a b at is. let both : Some a ≡ Some b = sym at ∙ is in let e : a ≡ b = cc both in subst (λ (z : I). inward.faults a ≤ inward.faults z) e (omega arith);
    };
  }

  pub stay_later : (K L M : List (Lanes O I)) → LanesStay outward inward joined K L → LanesStay outward inward joined L M → LanesStay outward inward joined K M
  stay_later K L M a b = record {
    square = b.square;
    ends = b.ends;
    lists = lists_later outward.pushed inward.popped outward.vain inward.vain K L M a.lists b.lists;
    fell = record {
      outs = λ p q x z at is.
          let y = out_on outward.pushed inward.popped outward.vain inward.vain (out_at K p q) (out_at L p q) x (a.lists.outs p q) at in
          let s = a.fell.outs p q x y.0 at y.1 in
          let t = b.fell.outs p q y.0 z y.1 is in
          omega (arith, s, t);
      ins = λ p q x z at is.
          let y = in_on outward.pushed inward.popped outward.vain inward.vain (in_at K p q) (in_at L p q) x (a.lists.ins p q) at in
          let s = a.fell.ins p q x y.0 at y.1 in
          let t = b.fell.ins p q y.0 z y.1 is in
          omega (arith, s, t);
    };
  }

  -- a lane that met a fault still counts it
  pub fault_on : (K L : List (Lanes O I)) → LanesStay outward inward joined K L → HasFault outward.faults inward.faults K → HasFault outward.faults inward.faults L
  fault_on K L a (inl (p, q, o, at, lt)) =
      let y = out_on outward.pushed inward.popped outward.vain inward.vain (out_at K p q) (out_at L p q) o (a.lists.outs p q) at in
      let s = a.fell.outs p q o y.0 at y.1 in
      inl (p, q, y.0, y.1, omega (arith, s, lt))
  fault_on K L a (inr (p, q, i, at, lt)) =
      let y = in_on outward.pushed inward.popped outward.vain inward.vain (in_at K p q) (in_at L p q) i (a.lists.ins p q) at in
      let s = a.fell.ins p q i y.0 at y.1 in
      inr (p, q, y.0, y.1, omega (arith, s, lt))

  -- of the lanes that stay from K on, which are those
  pub kept_of : (K M L : List (Lanes O I)) → K ≡ M → IsSquare M → LanesStay outward inward joined K L → (sent got : ℕ → ℕ → List (FrameAt Place)) (vain_out vain_in : ℕ → ℕ → ℕ)
      → KeepsLists outward.pushed inward.popped outward.vain inward.vain L sent got vain_out vain_in → KeepsLists outward.pushed inward.popped outward.vain inward.vain M sent got vain_out vain_in
  kept_of K M L is square stay sent got vain_out vain_in kept =
      kept_back outward.pushed inward.popped outward.vain inward.vain M L
      (subst (λ (N : List (Lanes O I)). SameLists outward.pushed inward.popped outward.vain inward.vain N L) is stay.lists) square stay.square sent got vain_out vain_in kept

  pub fault_of : (K M L : List (Lanes O I)) → K ≡ M → LanesStay outward inward joined K L → HasFault outward.faults inward.faults M → HasFault outward.faults inward.faults L
  fault_of K M L is stay has = fault_on K L stay (subst (λ (N : List (Lanes O I)). HasFault outward.faults inward.faults N) (sym is) has)
