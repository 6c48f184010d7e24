-- What stays of a lane, and of all lanes, while both ends are looked at in one thread.
use Rattle.std.specs.Prelude.{◌≡◌, ℕ, zero, suc, ◌-◌, ◌<◌, List, [], ◌∷◌, ◌++◌, take, ⊤, Option, Some, None, Result, Ok, Err, Vec, length, slice_get}
use Rattle.std.specs.declared.alloc.Global.{Global}
use mathlib.Core.List.{IsPrefix}
use Rattle.rtrb.specs.Ring.{sent, received, IsPair, SameProducer, SameConsumer}
use Rattle.sj_lang.specs.Place.{Place}
use Rattle.sj_rules.specs.Frames.{FrameAt}
use Rattle.sj_end.specs.declared.frames.Frame.{Frame}
use Rattle.sj_lane.specs.Told.{told_list}
use Rattle.sj_lane.specs.declared.lane.Lanes.{Lanes}
use Rattle.sj_lane.specs.Square.{out_at}
use Rattle.sj_lane.specs.declared.ends.RingOut.{RingOut}
use Rattle.sj_lane.specs.declared.ends.RingIn.{RingIn}

-- a list without its last items, so many
abbrev pub without_last : {X : Type 0} → ℕ → List X → List X
without_last zero xs = xs
without_last (suc k) xs = take (length xs - suc k) xs

-- the frames that came by `pop`
abbrev pub popped_of : RingIn → List Frame
popped_of i = without_last i.handed (received i.consumer)

-- two lists, related at each index
abbrev pub Each2 : {X Y : Type 0} → (X → Y → Type 0) → List X → List Y → Type 0
Each2 R [] [] = Unit {0}
Each2 R [] (y ∷ ys) = ⊥
Each2 R (x ∷ xs) [] = ⊥
Each2 R (x ∷ xs) (y ∷ ys) = R x y × Each2 R xs ys

-- what stays of a lane to another party
pub record OutKept (a b : RingOut) : Type 0 where
  pub ring : SameProducer a.producer b.producer
  pub sent : sent b.producer ≡ sent a.producer
  pub vain : b.vain ≡ a.vain

-- what stays of a lane from another party
pub record InKept (a b : RingIn) : Type 0 where
  pub ring : SameConsumer a.consumer b.consumer
  pub popped : popped_of b ≡ popped_of a
  pub vain : b.vain ≡ a.vain

-- the frames that were pushed, as the lane reports them
abbrev pub frames_pushed : RingOut → Option (List (FrameAt Place))
frames_pushed o = Some (told_list (sent o.producer))

-- the frames that were popped
abbrev pub frames_popped : RingIn → Option (List (FrameAt Place))
frames_popped i = Some (told_list (popped_of i))

-- how many frames were handed over that no pop gave
abbrev pub handed_of : RingIn → ℕ
handed_of i = i.handed

-- how many were handed over after a call that answers so
abbrev pub handed_after : {E : Type 0} → ℕ → Result (Option (Vec Frame Global)) E → ℕ
handed_after n (Ok None) = n
handed_after n (Ok (Some frames)) = length frames.items
handed_after n (Err e) = n

-- how many frames were pushed
abbrev pub push_count : RingOut → ℕ
push_count o = length (sent o.producer)

-- the same end of the same ring
abbrev pub SameOut : RingOut → RingOut → Type 0
SameOut a b = SameProducer a.producer b.producer

abbrev pub SameIn : RingIn → RingIn → Type 0
SameIn a b = SameConsumer a.consumer b.consumer

-- the two ends of one ring
abbrev pub Joined : RingOut → RingIn → Type 0
Joined o i = IsPair o.producer i.consumer

-- what was popped is a prefix of what was pushed
abbrev pub Fed : RingOut → RingIn → Type 0
Fed o i = IsPrefix (popped_of i) (sent o.producer)

-- the outgoing lanes stay, and the incoming ones are untouched
pub record OutsKept (a b : Lanes RingOut RingIn) : Type 0 where
  pub outs : Each2 OutKept a.outs.items b.outs.items
  pub ins : b.ins ≡ a.ins

-- all lanes stay
pub record LanesKept (a b : Lanes RingOut RingIn) : Type 0 where
  pub outs : Each2 OutKept a.outs.items b.outs.items
  pub ins : Each2 InKept a.ins.items b.ins.items

-- the lanes to q, from each p below n
abbrev pub ColumnFed : List (Lanes RingOut RingIn) → List RingIn → ℕ → ℕ → Type 0
ColumnFed lanes column q n = (p : ℕ) (o : RingOut) (i : RingIn) → p < n → out_at lanes p q ≡ Some o → slice_get column p ≡ Some i → Fed o i

-- each of them is the end of one ring
abbrev pub ColumnJoined : List (Lanes RingOut RingIn) → List RingIn → ℕ → Type 0
ColumnJoined lanes column q = (p : ℕ) (o : RingOut) (i : RingIn) → out_at lanes p q ≡ Some o → slice_get column p ≡ Some i → Joined o i

-- on that ring were pushed the popped frames, and then these
pub record IsRestOf (out : Option RingOut) (lane : Option RingIn) (frames : List Frame) : Type 0 where
  pub producer : RingOut
  pub consumer : RingIn
  pub there : out ≡ Some producer
  pub here : lane ≡ Some consumer
  pub all : sent producer.producer ≡ popped_of consumer ++ frames

-- there is no such ring, or frames that waited in it were handed over before
abbrev pub HasNoRest : Option RingOut → Option RingIn → Type 0
HasNoRest None lane = ⊤
HasNoRest (Some producer) None = ⊤
HasNoRest (Some producer) (Some consumer) = consumer.handed ≡ 0 → ⊥
