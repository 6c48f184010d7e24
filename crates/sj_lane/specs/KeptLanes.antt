-- What kept lanes show.
use Rattle.std.specs.Prelude.{ℕ, List, [], Option, Some, None, Vec}
use Rattle.std.specs.declared.alloc.Global.{Global}
use Rattle.rtrb.specs.Ring.{sent}
use Rattle.sj_lang.specs.Place.{Place}
use Rattle.sj_rules.specs.Frames.{FrameAt}
use Rattle.sj_lane.specs.Rings.{popped_of}
use Rattle.sj_lane.specs.Told.{told_list}
use Rattle.sj_lane.specs.declared.lane.Lanes.{Lanes}
use Rattle.sj_lane.specs.Square.{out_at, in_at}
use Rattle.sj_lane.specs.declared.ends.RingOut.{RingOut}
use Rattle.sj_lane.specs.declared.ends.RingIn.{RingIn}

-- the frames that were pushed on a lane, where there is one
abbrev pub sent_of : Option RingOut → List (FrameAt Place)
sent_of None = []
sent_of (Some o) = told_list (sent o.producer)

-- its count of calls in vain
abbrev pub vain_of_out : Option RingOut → ℕ
vain_of_out None = 0
vain_of_out (Some o) = o.vain

-- the frames that were popped from a lane, where there is one
abbrev pub got_of : Option RingIn → List (FrameAt Place)
got_of None = []
got_of (Some i) = told_list (popped_of i)

-- its count of calls in vain
abbrev pub vain_of_in : Option RingIn → ℕ
vain_of_in None = 0
vain_of_in (Some i) = i.vain

-- the lanes that came back, none before
abbrev pub kept_list : Option (Vec (Lanes RingOut RingIn) Global) → List (Lanes RingOut RingIn)
kept_list None = []
kept_list (Some v) = v.items

-- the frames that p pushed to q
abbrev pub sent_in : List (Lanes RingOut RingIn) → ℕ → ℕ → List (FrameAt Place)
sent_in lanes p q = sent_of (out_at lanes p q)

-- the frames that q popped from p
abbrev pub got_in : List (Lanes RingOut RingIn) → ℕ → ℕ → List (FrameAt Place)
got_in lanes p q = got_of (in_at lanes p q)

-- the calls in vain of p's lane to q
abbrev pub vain_out_in : List (Lanes RingOut RingIn) → ℕ → ℕ → ℕ
vain_out_in lanes p q = vain_of_out (out_at lanes p q)

-- the calls in vain of q's lane from p
abbrev pub vain_in_in : List (Lanes RingOut RingIn) → ℕ → ℕ → ℕ
vain_in_in lanes p q = vain_of_in (in_at lanes p q)
