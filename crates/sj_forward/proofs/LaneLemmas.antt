-- The lanes from a party, and frames that are put into them and leave them.
use Rattle.std.proofs.Common.{◌≡◌, ℕ, ◌+◌, ◌-◌, ◌<◌, ◌==◌, if◌then◌else◌, List, [], ◌∷◌, ◌++◌, length, get_or, map, Option, Some, None, refl, ap, sym, ◌∙◌, arith, inl, inr}
use Rattle.std.specs.Prelude.{IsSome, option_to_list}
use Rattle.std.proofs.Math.ListN.{set}
use Rattle.std.proofs.lemmas.Bool.{cases_eq, cases_lt}
use Rattle.std.proofs.lemmas.List.{length-map}
use Rattle.std.proofs.lemmas.Option.{slice_get-get_or, slice_get_past}
use Rattle.std.specs.declared.alloc.Global.{Global}
use Rattle.std.specs.declared.collections.VecDeque.{VecDeque}
use Rattle.std.specs.VecDeque.{deque_len, deque_capacity}
use Rattle.sj_forward.specs.declared.frame.ForwardFrame.{ForwardFrame}
use Rattle.sj_forward.specs.Outs.{DropsFront, Outs, frames_in, lane_in, room_in, room_of}
use Rattle.sj_forward.specs.Views.{frame_at}
use Rattle.sj_offers.proofs.SetLemmas.{set_here, set_there}
use Rattle.sj_forward.proofs.SlotLemmas.{one_other, one_same}
use Rattle.sj_forward_rules.specs.Record.{FrameAt}

-- a lane with room is there
pub room_there : (outs : Outs) (to : ℕ) → 0 < room_in outs to → to < length outs
room_there outs to room =
    elim (cases_lt to (length outs)) [
      | inl lt ↦ lt
      | inr le ↦ let none : room_in outs to ≡ 0 = ap room_of (slice_get_past outs to le) in absurd (omega arith)
    ]

pub lane_there : (outs : Outs) (to : ℕ) → 0 < length (lane_in outs to) → to < length outs
lane_there outs to some =
    elim (cases_lt to (length outs)) [
      | inl lt ↦ lt
      | inr le ↦ let none : lane_in outs to ≡ [] = ap frames_in (slice_get_past outs to le) in absurd (omega (arith, some, ap length none))
    ]

-- what is in a lane that is there
pub lane_here : (outs : Outs) (to : ℕ) (d : VecDeque ForwardFrame Global) → to < length outs → d ≡ get_or outs to d → lane_in outs to ≡ map frame_at d.items
lane_here outs to d lt is = ap frames_in (slice_get-get_or outs to d lt ∙ ap (λ x. Some x) (sym is))

pub map-last : {X Y : Type 0} (f : X → Y) (xs : List X) (x : X) → map f (xs ++ x ∷ []) ≡ map f xs ++ f x ∷ []
map-last f [] x = refl
map-last f (y ∷ ys) x = ap (λ t. f y ∷ t) (map-last f ys x)

-- one lane is another
pub lane_set : (outs : Outs) (to : ℕ) (d more : VecDeque ForwardFrame Global) (fs : List FrameAt) → to < length outs → d ≡ get_or outs to d → map frame_at more.items ≡ map frame_at d.items ++ fs
    → (q : ℕ) → lane_in (set outs to more) q ≡ (if q == to then lane_in outs q ++ fs else lane_in outs q)
lane_set outs to d more fs lt is items q =
    elim (cases_eq q to) [
      | inl same ↦
          rw (same, one_same to)
          (ap frames_in (set_here outs to more lt) ∙ items ∙ ap (λ ws. ws ++ fs) (sym (lane_here outs to d lt is)))
      | inr other ↦ rw (one_other q to other) (ap frames_in (set_there outs to q more other))
    ]

-- a frame is put after those of one lane
pub put_so : (outs : Outs) (to : ℕ) (d more : VecDeque ForwardFrame Global) (f : ForwardFrame) → to < length outs → d ≡ get_or outs to d → more.items ≡ d.items ++ f ∷ []
    → (q : ℕ) → lane_in (set outs to more) q ≡ (if q == to then lane_in outs q ++ frame_at f ∷ [] else lane_in outs q)
put_so outs to d more f lt is items = lane_set outs to d more (frame_at f ∷ []) lt is (ap (map frame_at) items ∙ map-last frame_at d.items f)

pub room_set : (outs : Outs) (to : ℕ) (more : VecDeque ForwardFrame Global) → to < length outs → room_in (set outs to more) to ≡ deque_capacity more - deque_len more
room_set outs to more lt = ap room_of (set_here outs to more lt)

-- a lane with a frame has one in memory
pub filled_there : (outs : Outs) (to : ℕ) (d : VecDeque ForwardFrame Global) → d ≡ get_or outs to d → 0 < length (lane_in outs to) → 0 < length d.items
filled_there outs to d is some =
    let same : length (lane_in outs to) ≡ length (map frame_at d.items) = ap length (lane_here outs to d (lane_there outs to some) is) in
    omega (arith, some, same, length-map d.items frame_at)

-- the first frame leaves
pub drops_so : (outs : Outs) (to : ℕ) (d more : VecDeque ForwardFrame Global) (o : Option ForwardFrame) → d ≡ get_or outs to d → 0 < length (lane_in outs to) → d.items ≡ option_to_list o ++ more.items
    → IsSome o → DropsFront outs to (set outs to more)
drops_so outs to d more None is some items there = absurd (cc there)
drops_so outs to d more (Some f) is some items there =
    let lt = lane_there outs to some in
    record {
      front = frame_at f;
      was = lane_here outs to d lt is ∙ ap (map frame_at) items ∙ ap (λ (fs : List FrameAt). frame_at f ∷ fs) (sym (ap frames_in (set_here outs to more lt)));
      others = λ q apart. ap frames_in (set_there outs to q more apart);
    }
