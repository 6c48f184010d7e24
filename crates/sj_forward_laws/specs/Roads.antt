-- Where the records of an end lie, one after another, and the roads of frames between them.
use Rattle.std.specs.Prelude.{suc, zero, ◌≡◌, ℕ, ◌<◌, ◌≤◌, ◌==◌, ◌&&◌, Bool, false, List, filter, filter_map, Option, Some, None}
use Rattle.sj_base.specs.declared.EndId.{EndId}
use Rattle.sj_rules.specs.Record.{is_same_end, other_end, offered_end}
use Rattle.sj_forward_rules.specs.Record.{SentAt, FrameAt, In, Out, Claim, Open}

-- the party of each record of an end, by its hop number, and the last hop number
pub record Chains : Type 0 where
  pub at : EndId → ℕ → ℕ
  pub top : EndId → ℕ

-- frames of one kind that go to one record
pub data Road : Type 0 where
  inward : EndId → ℕ → Road
  outward : EndId → ℕ → Road
  claiming : EndId → ℕ → Road

-- the road of a frame; an Open goes where messages for its end go, which stand after it
abbrev pub road_of : FrameAt → Road
road_of (In e h m) = inward e h
road_of (Out e h m) = outward e h
road_of (Claim e h) = claiming e h
road_of (Open sess) = inward (offered_end sess) 0

-- two names of one road
abbrev pub is_road : Road → Road → Bool
is_road (inward e h) (inward d k) = is_same_end e d && (h == k)
is_road (outward e h) (outward d k) = is_same_end e d && (h == k)
is_road (claiming e h) (claiming d k) = is_same_end e d && (h == k)
is_road (inward e h) (outward d k) = false
is_road (inward e h) (claiming d k) = false
is_road (outward e h) (inward d k) = false
is_road (outward e h) (claiming d k) = false
is_road (claiming e h) (inward d k) = false
is_road (claiming e h) (outward d k) = false

-- the party before the record of that hop
abbrev pub behind_of : Chains → EndId → ℕ → ℕ
behind_of c e zero = c.at (other_end e) 0
behind_of c e (suc h) = c.at e h

-- where a road begins
abbrev pub start_of : Chains → Road → ℕ
start_of c (inward e h) = behind_of c e h
start_of c (outward e h) = c.at e (suc h)
start_of c (claiming e h) = c.at e (suc h)

-- where it leads
abbrev pub goal_of : Chains → Road → ℕ
goal_of c (inward e h) = c.at e h
goal_of c (outward e h) = c.at e h
goal_of c (claiming e h) = c.at e h

-- the road leads between records that are there
abbrev pub IsThere : Chains → Road → Type 0
IsThere c (inward e h) = (e.side < 2) × (h ≤ c.top e)
IsThere c (outward e h) = (e.side < 2) × (h < c.top e)
IsThere c (claiming e h) = (e.side < 2) × (h < c.top e)

-- the frame is on its road
pub record IsOnRoad (c : Chains) (from to : ℕ) (f : FrameAt) : Type 0 where
  pub there : IsThere c (road_of f)
  pub start : start_of c (road_of f) ≡ from
  pub goal : goal_of c (road_of f) ≡ to

-- the frames of a road among these
abbrev pub on_road : Road → List FrameAt → List FrameAt
on_road r fs = filter (λ f. is_road r (road_of f)) fs

-- the message of a frame
abbrev pub message_in : FrameAt → Option SentAt
message_in (In e h m) = Some m
message_in (Out e h m) = Some m
message_in (Claim e h) = None
message_in (Open sess) = None

-- the messages of frames, in order
abbrev pub messages_in : List FrameAt → List SentAt
messages_in fs = filter_map message_in fs
