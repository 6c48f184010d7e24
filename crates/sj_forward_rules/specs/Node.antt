-- One party: its program, what it opened and what is offered to it, the ends that it uses, and its
-- records of ends.
use Rattle.std.specs.Prelude.{◌≡◌, ℕ, zero, suc, ◌==◌, ◌&&◌, List, [], Option, Some, None, option_and_then, if◌then◌else◌}
use Rattle.sj_base.specs.declared.EndId.{EndId}
use Rattle.sj_rules.specs.Record.{is_same_end, other_end}
use Rattle.sj_forward_rules.specs.Record.{SentAt, StateAt, Held, Parked, Passing, Closed, RecordAt, In, Out, Mail}

-- one party
pub record NodeAt (Q : Type 0) : Type 0 where
  pub program : Q
  -- how many sessions it opened, and which sessions each party opened to it that it hasn't accepted
  pub requests : ℕ
  pub offers : (from : ℕ) → List ℕ
  -- for each end that is Held here the hop number of that record
  pub uses : EndId → Option ℕ
  -- for each end and hop number the record
  pub records : EndId → ℕ → Option RecordAt

-- a node and what it sends
pub record Worked (Q : Type 0) : Type 0 where
  pub node : NodeAt Q
  pub posts : List Mail

-- the party has a record of the end at that hop
abbrev pub HasRecord : {Q : Type 0} → NodeAt Q → EndId → ℕ → Type 0
HasRecord n e h = (r : RecordAt) × (n.records e h ≡ Some r)

-- nothing is sent
abbrev pub quietly : {Q : Type 0} → NodeAt Q → Worked Q
quietly n = record { node = n; posts = [] }

-- the end is used at that hop from now on, or no longer
abbrev pub with_use : {Q : Type 0} → EndId → Option ℕ → NodeAt Q → NodeAt Q
with_use e hop n = record n { uses = λ d. if is_same_end d e then hop else n.uses d }

-- the record of the end at that hop is this from now on
abbrev pub with_record : {Q : Type 0} → EndId → ℕ → RecordAt → NodeAt Q → NodeAt Q
with_record e h r n = record n { records = λ d k. if is_same_end d e && (k == h) then Some r else n.records d k }

-- a record of hop 0, with that party before it and nothing untaken, is there from now on
abbrev pub with_first : {Q : Type 0} → EndId → (behind : ℕ) → NodeAt Q → NodeAt Q
with_first e behind n = with_use e (Some 0) (with_record e 0 (record { behind = behind; state = Held [] }) n)

-- what that party offers is this from now on
abbrev pub with_offers : {Q : Type 0} → ℕ → List ℕ → NodeAt Q → NodeAt Q
with_offers q sessions n = record n { offers = λ p. if p == q then sessions else n.offers p }

-- the program is that from now on
abbrev pub with_program : {Q : Type 0} → Q → NodeAt Q → NodeAt Q
with_program g n = record n { program = g }

-- a message leaves the record of its end at that hop
abbrev pub onward : EndId → (hop : ℕ) → (behind : ℕ) → SentAt → Mail
onward e zero behind m = record { party = behind; frame = In (other_end e) 0 m }
onward e (suc h) behind m = record { party = behind; frame = Out e h m }

-- an end in use: the hop number of its record, the party before that record, and what is untaken
pub record HeldAt : Type 0 where
  pub hop : ℕ
  pub behind : ℕ
  pub untaken : List SentAt

-- a record that is Held
abbrev pub held_in : (hop behind : ℕ) → StateAt → Option HeldAt
held_in hop behind (Held ms) = Some (record { hop = hop; behind = behind; untaken = ms })
held_in hop behind (Parked ms) = None
held_in hop behind (Passing p) = None
held_in hop behind Closed = None

abbrev pub held_at : ℕ → Option RecordAt → Option HeldAt
held_at hop None = None
held_at hop (Some r) = held_in hop r.behind r.state

-- the Held record of the end
abbrev pub held_of : {Q : Type 0} → NodeAt Q → EndId → Option HeldAt
held_of n e = option_and_then (λ h. held_at h (n.records e h)) (n.uses e)
