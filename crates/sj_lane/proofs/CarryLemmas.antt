-- The steps of a carry on one link, as they write the lanes of all parties.
use Rattle.std.proofs.Common.{◌≡◌, ℕ, ◌<◌, List, length, get_or, refl, sym, ap, ◌∙◌, arith}
use Rattle.std.proofs.Math.ListN.{set, length-set}
use Rattle.std.proofs.lemmas.Option.{slice_get-get_or, slice_get_read}
use Rattle.std.specs.Prelude.{Some, slice_get, vec_len}
use Rattle.std.specs.Vec.{with_item}
use Rattle.sj_lane.specs.declared.lane.Lanes.{Lanes}
use Rattle.sj_lane.specs.declared.mem.MemOut.{MemOut}
use Rattle.sj_lane.specs.declared.mem.MemIn.{MemIn}
use Rattle.sj_lane.specs.Mem.{IsCarried, frames_popped, frames_pushed, in_waits, out_waits}
use Rattle.sj_lane.specs.MemCarry.{IsStill, KeptIn, KeptOut, OneMoved, Passes, LinkRests, SameMem}
use Rattle.sj_lane.specs.Square.{AllJoined, IsSquare, in_at, in_in, out_at, out_in}
use Rattle.sj_lane.proofs.CarryingLemmas.{Carried, link_carried, link_moved, link_still, lists_later}
use Rattle.sj_lane.proofs.CellLemmas.{InPut, OutPut, in_put, out_put}

-- the lanes with another one on which q pops from p
abbrev pub in_set : List (Lanes MemOut MemIn) → (p q : ℕ) → Lanes MemOut MemIn → MemIn → List (Lanes MemOut MemIn)
in_set L p q d i = set L q (record { outs = (get_or L q d).outs; ins = with_item (get_or L q d).ins p i })

-- the lanes with another one on which p pushes to q
abbrev pub out_set : List (Lanes MemOut MemIn) → (p q : ℕ) → Lanes MemOut MemIn → MemOut → List (Lanes MemOut MemIn)
out_set L p q d o = set L p (record { outs = with_item (get_or L p d).outs q o; ins = (get_or L p d).ins })

module _ (L : List (Lanes MemOut MemIn)) (p q : ℕ) (d : Lanes MemOut MemIn) (hp : p < length L) (hq : q < length L) (is : IsSquare L) where
  q_row : slice_get L q ≡ Some (get_or L q d)
  q_row = slice_get-get_or L q d hq

  p_row : slice_get L p ≡ Some (get_or L p d)
  p_row = slice_get-get_or L p d hp

  -- there is room
  pub in_room : p < vec_len (get_or L q d).ins
  in_room = let sizes = is q (get_or L q d) q_row in omega arith

  in_within : p < length (get_or L q d).ins.items
  in_within = let room = in_room in let same = (get_or L q d).ins.ok in omega arith

  out_within : q < length (get_or L p d).outs.items
  out_within = let sizes = is p (get_or L p d) p_row in let same = (get_or L p d).outs.ok in omega arith

  pub in_was_set : (i : MemIn) → InPut L (in_set L p q d i) p q i
  in_was_set i = in_put L p q (get_or L q d) (record { outs = (get_or L q d).outs; ins = with_item (get_or L q d).ins p i }) i q_row in_within refl refl

  pub out_was_set : (o : MemOut) → OutPut L (out_set L p q d o) p q o
  out_was_set o = out_put L p q (get_or L p d) (record { outs = with_item (get_or L p d).outs q o; ins = (get_or L p d).ins }) o p_row out_within refl refl

  -- what was read
  pub in_read : (i : MemIn) → i ≡ get_or (get_or L q d).ins.items p i → in_at L p q ≡ Some i
  in_read i at = ap (λ s. in_in s p) q_row ∙ slice_get_read (get_or L q d).ins.items (length (get_or L q d).ins.items) p i refl in_within at

  pub out_read : (o : MemOut) → o ≡ get_or (get_or L p d).outs.items q o → out_at L p q ≡ Some o
  out_read o at = ap (λ s. out_in s q) p_row ∙ slice_get_read (get_or L p d).outs.items (length (get_or L p d).outs.items) q o refl out_within at

module _ (L : List (Lanes MemOut MemIn)) (p q : ℕ) (d1 d2 d3 : Lanes MemOut MemIn) (none i : MemIn) (o : MemOut) (hp : p < length L) (hq : q < length L)
    (is : IsSquare L) (joined : AllJoined IsCarried L) (lane_is : i ≡ get_or (get_or L q d1).ins.items p i)
    (out_is : o ≡ get_or (get_or (in_set L p q d1 none) p d2).outs.items q o) where
  m1 : InPut L (in_set L p q d1 none) p q none
  m1 = in_was_set L p q d1 hp hq is none

  same1 : length (in_set L p q d1 none) ≡ length L
  same1 = length-set L q _

  hp1 : p < length (in_set L p q d1 none)
  hp1 = let same = same1 in omega arith

  hq1 : q < length (in_set L p q d1 none)
  hq1 = let same = same1 in omega arith

  m2 : (r : MemOut) → OutPut (in_set L p q d1 none) (out_set (in_set L p q d1 none) p q d2 r) p q r
  m2 r = out_was_set (in_set L p q d1 none) p q d2 hp1 hq1 (m1.square is) r

  same2 : (r : MemOut) → length (out_set (in_set L p q d1 none) p q d2 r) ≡ length L
  same2 r = length-set (in_set L p q d1 none) p _ ∙ same1

  lane_at : in_at L p q ≡ Some i
  lane_at = in_read L p q d1 hp hq is i lane_is

  out_at_first : out_at L p q ≡ Some o
  out_at_first = sym (m1.outs p q) ∙ out_read (in_set L p q d1 none) p q d2 hp1 hq1 (m1.square is) o out_is

  -- the two are the ends of one link
  pub are_met : IsCarried o i
  are_met = joined p q o i out_at_first lane_at

  hp2 : (r : MemOut) → p < length (out_set (in_set L p q d1 none) p q d2 r)
  hp2 r = let same = same2 r in omega arith

  hq2 : (r : MemOut) → q < length (out_set (in_set L p q d1 none) p q d2 r)
  hq2 r = let same = same2 r in omega arith

  pub room_left : (r : MemOut) → p < vec_len (get_or (out_set (in_set L p q d1 none) p q d2 r) q d3).ins
  room_left r = let two = m2 r in in_room (out_set (in_set L p q d1 none) p q d2 r) p q d3 (hp2 r) (hq2 r) (two.square (m1.square is))

  -- and all is as it should be when the lane is put back
  pub put_back : (r : MemOut) (j : MemIn) → KeptOut o r → KeptIn i j → IsCarried r j →
      Carried L (in_set (out_set (in_set L p q d1 none) p q d2 r) p q d3 j)
  put_back r j kept_out kept_in carried =
      let two = m2 r in
      let three = in_was_set (out_set (in_set L p q d1 none) p q d2 r) p q d3 (hp2 r) (hq2 r) (two.square (m1.square is)) j in
      link_carried L (in_set L p q d1 none) (out_set (in_set L p q d1 none) p q d2 r) (in_set (out_set (in_set L p q d1 none) p q d2 r) p q d3 j) p q none i j o r m1 two three
      out_at_first lane_at kept_out kept_in carried is joined

  -- what waited is moved
  pub put_moved : (r : MemOut) (j : MemIn) → KeptOut o r → KeptIn i j → IsCarried r j → Passes (out_waits o) (in_waits i) (out_waits r) (in_waits j) →
      OneMoved p q L (in_set (out_set (in_set L p q d1 none) p q d2 r) p q d3 j)
  put_moved r j kept_out kept_in carried =
      let two = m2 r in
      let three = in_was_set (out_set (in_set L p q d1 none) p q d2 r) p q d3 (hp2 r) (hq2 r) (two.square (m1.square is)) j in
      link_moved L (in_set L p q d1 none) (out_set (in_set L p q d1 none) p q d2 r) (in_set (out_set (in_set L p q d1 none) p q d2 r) p q d3 j) p q none i j o r m1 two three
      out_at_first lane_at kept_out kept_in carried

  -- or nothing is
  pub put_still : (r : MemOut) (j : MemIn) → KeptOut o r → KeptIn i j → IsCarried r j → LinkRests (out_waits o) (in_waits i) (out_waits r) (in_waits j) →
      (a b : ℕ) → IsStill L (in_set (out_set (in_set L p q d1 none) p q d2 r) p q d3 j) a b
  put_still r j kept_out kept_in carried =
      let two = m2 r in
      let three = in_was_set (out_set (in_set L p q d1 none) p q d2 r) p q d3 (hp2 r) (hq2 r) (two.square (m1.square is)) j in
      link_still L (in_set L p q d1 none) (out_set (in_set L p q d1 none) p q d2 r) (in_set (out_set (in_set L p q d1 none) p q d2 r) p q d3 j) p q none i j o r m1 two three
      out_at_first lane_at kept_out kept_in carried

-- one carry after another
pub carried_later : (K L M : List (Lanes MemOut MemIn)) → SameMem K L → IsSquare M → AllJoined IsCarried M → SameMem L M → Carried K M
carried_later K L M before square joined now = record {
  square = square;
  joined = joined;
  lists = lists_later frames_pushed frames_popped (λ (o : MemOut). o.vain) (λ (i : MemIn). i.vain) K L M before now;
}
