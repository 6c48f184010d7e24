-- A frame that comes to a party. Each rule is None where it doesn't fit.
use Rattle.std.specs.Prelude.{suc, ℕ, ◌&&◌, List, [], ◌∷◌, ◌++◌, map, Option, Some, None, is_none, if◌then◌else◌}
use Rattle.sj_base.specs.declared.EndId.{EndId}
use Rattle.sj_rules.specs.Opened.{is_opened_by}
use Rattle.sj_rules.specs.Record.{offered_end}
use Rattle.sj_forward_rules.specs.Record.{SentAt, StateAt, Held, Parked, Passing, Closed, RecordAt, FrameAt, In, Out, Claim, Open, Mail}
use Rattle.sj_forward_rules.specs.Node.{NodeAt, Worked, quietly, with_first, with_offers, with_record, onward}

-- a message for the end: after what is stored, or on to the next hop
abbrev pub in_by : {Q : Type 0} → NodeAt Q → EndId → ℕ → SentAt → (behind : ℕ) → StateAt → Option (Worked Q)
in_by n e h m behind (Held ms) = Some (quietly (with_record e h (record { behind = behind; state = Held (ms ++ m ∷ []) }) n))
in_by n e h m behind (Parked ms) = Some (quietly (with_record e h (record { behind = behind; state = Parked (ms ++ m ∷ []) }) n))
in_by n e h m behind (Passing p) = Some (record { node = n; posts = record { party = p; frame = In e (suc h) m } ∷ [] })
in_by n e h m behind Closed = None

-- a message of the end, at a record that isn't in use: on to the hop before, or to the other end
abbrev pub out_by : {Q : Type 0} → NodeAt Q → EndId → ℕ → SentAt → (behind : ℕ) → StateAt → Option (Worked Q)
out_by n e h m behind (Held ms) = None
out_by n e h m behind (Parked ms) = Some (record { node = n; posts = onward e h behind m ∷ [] })
out_by n e h m behind (Passing p) = Some (record { node = n; posts = onward e h behind m ∷ [] })
out_by n e h m behind Closed = None

-- messages for the end at that hop, to its party
abbrev pub passed_on : EndId → ℕ → (party : ℕ) → List SentAt → List Mail
passed_on e h p ms = map (λ m. record { party = p; frame = In e h m }) ms

-- the party asks for what waits: all of it goes there, and all that comes
abbrev pub claim_by : {Q : Type 0} → NodeAt Q → EndId → ℕ → (origin : ℕ) → (behind : ℕ) → StateAt → Option (Worked Q)
claim_by n e h origin behind (Parked ms) =
    Some (record { node = with_record e h (record { behind = behind; state = Passing origin }) n; posts = passed_on e (suc h) origin ms })
claim_by n e h origin behind (Held ms) = None
claim_by n e h origin behind (Passing p) = None
claim_by n e h origin behind Closed = None

-- a session of that party: its offered end is Held here, and the party offers it
abbrev pub open_comes : {Q : Type 0} → NodeAt Q → (origin sess : ℕ) → Option (Worked Q)
open_comes n origin sess =
    if is_opened_by origin sess && is_none (n.records (offered_end sess) 0)
    then Some (quietly (with_offers origin (n.offers origin ++ sess ∷ []) (with_first (offered_end sess) origin n)))
    else None

-- by the record, where there is one
abbrev pub at_record : {Q : Type 0} → (ℕ → StateAt → Option (Worked Q)) → Option RecordAt → Option (Worked Q)
at_record f None = None
at_record f (Some r) = f r.behind r.state

-- the row of a frame that comes from that party
abbrev pub comes : {Q : Type 0} → NodeAt Q → (origin : ℕ) → FrameAt → Option (Worked Q)
comes n origin (In e h m) = at_record (in_by n e h m) (n.records e h)
comes n origin (Out e h m) = at_record (out_by n e h m) (n.records e h)
comes n origin (Claim e h) = at_record (claim_by n e h origin) (n.records e h)
comes n origin (Open sess) = open_comes n origin sess
