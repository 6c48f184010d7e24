-- Frames carried on one link after the other.
use Rattle.std.proofs.Common.{◌≡◌, ℕ, List, refl, sym, ap, subst, ◌∙◌, inl, inr}
use Rattle.std.specs.Prelude.{◌⊎◌, Option, Some, None}
use Rattle.sj_lang.specs.Place.{Place}
use Rattle.sj_rules.specs.Frames.{FrameAt}
use Rattle.sj_lane.specs.declared.lane.Lanes.{Lanes}
use Rattle.sj_lane.specs.declared.mem.MemOut.{MemOut}
use Rattle.sj_lane.specs.declared.mem.MemIn.{MemIn}
use Rattle.sj_lane.specs.Marks.{marks_at}
use Rattle.sj_lane.specs.Mem.{IsCarried, frames_popped, frames_pushed, in_waits, out_waits}
use Rattle.sj_lane.specs.MemCarry.{IsStill, KeptIn, KeptOut, OneMoved, Passes, LinkRests, SameMem}
use Rattle.sj_lane.specs.Square as square
use Rattle.sj_lane.specs.Square.{AllJoined, IsSquare, SameLists, in_at, out_at}
use Rattle.sj_lane.proofs.CellLemmas.{InPut, IsCell, OutPut, at_cell}

module _ {O I : Type 0} (pushed : O → Option (List (FrameAt Place))) (popped : I → Option (List (FrameAt Place))) (vain_o : O → ℕ) (vain_i : I → ℕ) where
  abbrev SameOut : Option O → Option O → Type 0
  SameOut = square.SameOut pushed popped vain_o vain_i

  abbrev SameIn : Option I → Option I → Type 0
  SameIn = square.SameIn pushed popped vain_o vain_i

  pub out_alike : (x : Option O) → SameOut x x
  out_alike None = tt
  out_alike (Some o) = (refl, refl)

  pub in_alike : (x : Option I) → SameIn x x
  in_alike None = tt
  in_alike (Some i) = (refl, refl)

  out_later : (x y z : Option O) → SameOut x y → SameOut y z → SameOut x z
  out_later None None z a b = b
  out_later None (Some y) z a b = absurd a
  out_later (Some x) None z a b = absurd a
  out_later (Some x) (Some y) None a b = absurd b
  out_later (Some x) (Some y) (Some z) a b = (b.0 ∙ a.0, b.1 ∙ a.1)

  in_later : (x y z : Option I) → SameIn x y → SameIn y z → SameIn x z
  in_later None None z a b = b
  in_later None (Some y) z a b = absurd a
  in_later (Some x) None z a b = absurd a
  in_later (Some x) (Some y) None a b = absurd b
  in_later (Some x) (Some y) (Some z) a b = (b.0 ∙ a.0, b.1 ∙ a.1)

  -- lanes have the lists and counts that they have
  pub lists_same : (L : List (Lanes O I)) → SameLists pushed popped vain_o vain_i L L
  lists_same L = record { outs = λ p q. out_alike (out_at L p q); ins = λ p q. in_alike (in_at L p q) }

  -- and that goes on
  pub lists_later : (K L M : List (Lanes O I)) → SameLists pushed popped vain_o vain_i K L → SameLists pushed popped vain_o vain_i L M → SameLists pushed popped vain_o vain_i K M
  lists_later K L M a b = record {
    outs = λ p q. out_later (out_at K p q) (out_at L p q) (out_at M p q) (a.outs p q) (b.outs p q);
    ins = λ p q. in_later (in_at K p q) (in_at L p q) (in_at M p q) (a.ins p q) (b.ins p q);
  }

some_is : {X : Type 0} (s : Option X) (x y : X) → s ≡ Some x → s ≡ Some y → x ≡ y
some_is s x y a b = let both : Some x ≡ Some y = sym a ∙ b in cc both

-- what holds of lanes after a step of a carry
pub record Carried (L M : List (Lanes MemOut MemIn)) : Type 0 where
  pub square : IsSquare M
  pub joined : AllJoined IsCarried M
  pub lists : SameMem L M

-- the lane from p was taken out of q's, what waits was carried to it, and it was put back
module _ (L L1 L2 L3 : List (Lanes MemOut MemIn)) (p q : ℕ) (none i j : MemIn) (o r : MemOut) (m1 : InPut L L1 p q none) (m2 : OutPut L1 L2 p q r) (m3 : InPut L2 L3 p q j)
    (out : out_at L p q ≡ Some o) (lane : in_at L p q ≡ Some i) (kept_out : KeptOut o r) (kept_in : KeptIn i j) (carried : IsCarried r j) where
  out_cell : out_at L3 p q ≡ Some r
  out_cell = m3.outs p q ∙ m2.here

  out_other : (a b : ℕ) → (IsCell p q a b → ⊥) → out_at L3 a b ≡ out_at L a b
  out_other a b apart = m3.outs a b ∙ m2.others a b apart ∙ m1.outs a b

  in_other : (a b : ℕ) → (IsCell p q a b → ⊥) → in_at L3 a b ≡ in_at L a b
  in_other a b apart = m3.others a b apart ∙ m2.ins a b ∙ m1.others a b apart

  -- the link is moved where what waited was
  pub link_moved : Passes (out_waits o) (in_waits i) (out_waits r) (in_waits j) → OneMoved p q L L3
  link_moved h = record {
    here = rw (out, lane, out_cell, m3.here) h;
    others = λ a b apart. rw (out_other a b apart, in_other a b apart) (record { left = refl; there = refl });
  }

  -- and all links are still where it isn't
  pub link_still : LinkRests (out_waits o) (in_waits i) (out_waits r) (in_waits j) → (a b : ℕ) → IsStill L L3 a b
  link_still h a b = by (at_cell p q a b)
    where
      by : IsCell p q a b ⊎ (IsCell p q a b → ⊥) → IsStill L L3 a b
      by (inl c) = rw (c.0, c.1, out, lane, out_cell, m3.here) h
      by (inr apart) = rw (out_other a b apart, in_other a b apart) (record { left = refl; there = refl })

  lists : SameMem L L3
  lists = record { outs = λ a b. outs a b (at_cell p q a b); ins = λ a b. ins a b (at_cell p q a b) }
    where
      outs : (a b : ℕ) → IsCell p q a b ⊎ (IsCell p q a b → ⊥) →
          square.SameOut frames_pushed frames_popped (λ (x : MemOut). x.vain) (λ (y : MemIn). y.vain) (out_at L a b) (out_at L3 a b)
      outs a b (inl c) = rw (c.0, c.1, out, out_cell) (ap (λ v. Some (marks_at v.items)) kept_out.pushed, kept_out.vain)
      outs a b (inr apart) = rw (out_other a b apart) (out_alike frames_pushed frames_popped (λ (x : MemOut). x.vain) (λ (y : MemIn). y.vain) (out_at L a b))

      ins : (a b : ℕ) → IsCell p q a b ⊎ (IsCell p q a b → ⊥) →
          square.SameIn frames_pushed frames_popped (λ (x : MemOut). x.vain) (λ (y : MemIn). y.vain) (in_at L a b) (in_at L3 a b)
      ins a b (inl c) = rw (c.0, c.1, lane, m3.here) (ap (λ v. Some (marks_at v.items)) kept_in.popped, kept_in.vain)
      ins a b (inr apart) = rw (in_other a b apart) (in_alike frames_pushed frames_popped (λ (x : MemOut). x.vain) (λ (y : MemIn). y.vain) (in_at L a b))

  pub link_carried : IsSquare L → AllJoined IsCarried L → Carried L L3
  link_carried is joined = record {
    square = m3.square (m2.square (m1.square is));
    joined = λ a b x y hx hy. by a b x y hx hy (at_cell p q a b);
    lists = lists;
  }
    where
      by : (a b : ℕ) (x : MemOut) (y : MemIn) → out_at L3 a b ≡ Some x → in_at L3 a b ≡ Some y → IsCell p q a b ⊎ (IsCell p q a b → ⊥) → IsCarried x y
      by a b x y hx hy (inl c) =
          let ox : out_at L3 p q ≡ Some x = rw (← c.0, ← c.1) hx in
          let iy : in_at L3 p q ≡ Some y = rw (← c.0, ← c.1) hy in
          let rx : r ≡ x = some_is (out_at L3 p q) r x out_cell ox in
          let jy : j ≡ y = some_is (in_at L3 p q) j y m3.here iy in
          subst (λ (v : MemOut). IsCarried v y) rx (subst (λ (w : MemIn). IsCarried r w) jy carried)
      by a b x y hx hy (inr apart) = joined a b x y (sym (out_other a b apart) ∙ hx) (sym (in_other a b apart) ∙ hy)
