-- All parties that records and frames name are those of the file, which has n, and all their
-- numbers are within the limits.
use Rattle.std.specs.Prelude.{◌≡◌, ◌⊎◌, ℕ, ◌+◌, ◌<◌, ◌≤◌, true, ⊤, List, [], length, Contains, Some}
use Rattle.std.specs.List.{AllByRecursion}
use Rattle.sj_base.specs.declared.EndId.{EndId}
use Rattle.sj_base.specs.declared.Msg.{Msg}
use Rattle.sj_base.specs.declared.Msg.TheVariants as msgs
use Rattle.sj_rules.specs.Limits.{limit_of_conns, limit_of_hops, limit_of_messages, limit_of_requests, first_opened}
use Rattle.sj_rules.specs.Opened.{opened_number, is_opened_by}
use Rattle.sj_rules.specs.Record.{EndAt, BodyAt, Carry, Fin, Claim, Signal, Ack, Give, Open, Mail, MainAt, Held, Closed, Expected, OldAt, Parked, Signalled}
use Rattle.sj_rules.specs.Rows.{Worked}
use Rattle.sj_rules.specs.Node.{NodeAt}
use Rattle.sj_rules.specs.Frames.{FrameAt}
use Rattle.sj_rules.specs.World.{WorldAt}

-- one of the two ends of a session, whose number is one for connections or one that a party can
-- open
abbrev pub IdWithin : ℕ → EndId → Type 0
IdWithin n e = (e.side < 2) × (e.sess < opened_number n 0)

-- the keeper and the end that a message names
abbrev pub NamedWithin : ℕ → Msg → Type 0
NamedWithin n (msgs.Sess sess side keeper) = (keeper < n) × IdWithin n (record { sess = sess; side = side })
NamedWithin n (msgs.Int i) = ⊤
NamedWithin n (msgs.Bool b) = ⊤
NamedWithin n (msgs.Text i) = ⊤
NamedWithin n (msgs.Label i) = ⊤
NamedWithin n (msgs.More b) = ⊤

-- an end in a record or in a Give
pub record EndWithin {P : Type 0} (n : ℕ) (e : EndAt P) : Type 0 where
  pub id : IdWithin n e.id
  pub peer : e.peer < n
  pub conn : e.conn ≤ limit_of_conns
  pub sent : e.sent ≤ limit_of_messages
  pub taken : e.taken ≤ limit_of_messages
  -- the cache has no message above the sent count
  pub cached : e.base + length e.cache ≤ e.sent
  -- it was delegated as often as it may be, or less
  pub hops : e.hops ≤ limit_of_hops

-- the fields of a body's own; what a message names is looked at where the message is taken
abbrev pub BodyWithin : {P : Type 0} → ℕ → BodyAt P → Type 0
BodyWithin n (Carry to conn number taken msg) = (conn ≤ limit_of_conns) × (number ≤ limit_of_messages) × (taken ≤ limit_of_messages) × IdWithin n to
BodyWithin n (Fin to conn number) = (conn ≤ limit_of_conns) × (number ≤ limit_of_messages) × IdWithin n to
BodyWithin n (Claim of) = IdWithin n of
BodyWithin n (Signal to conn party taken) = (conn ≤ limit_of_conns) × (party < n) × (taken ≤ limit_of_messages) × IdWithin n to
BodyWithin n (Ack of conn) = (conn ≤ limit_of_conns) × IdWithin n of
BodyWithin n (Give e resend) = EndWithin n e
BodyWithin n (Open sess) = (first_opened ≤ sess) × (sess < opened_number n 0)

-- and so is the party from which it came
abbrev pub MailWithin : {P : Type 0} → ℕ → Mail P → Type 0
MailWithin n m = (m.party < n) × BodyWithin n m.body

-- all of them
abbrev pub MailsWithin : {P : Type 0} → ℕ → List (Mail P) → Type 0
MailsWithin n ms = AllByRecursion (MailWithin n) ms

-- a main record
abbrev pub MainWithin : {P : Type 0} → ℕ → MainAt P → Type 0
MainWithin n (Held h) = EndWithin n h.end
MainWithin n (Closed e) = EndWithin n e
MainWithin n (Expected keeper place deferred) = (keeper < n) × MailsWithin n deferred

-- an old record
abbrev pub OldWithin : {P : Type 0} → ℕ → OldAt P → Type 0
OldWithin n (Parked e) = EndWithin n e
OldWithin n (Signalled e to) = EndWithin n e × (to < n)

-- all records of a node
pub record NodeWithin {P Q : Type 0} (n : ℕ) (m : NodeAt P Q) : Type 0 where
  pub mains : (e : EndId) (r : MainAt P) → m.main e ≡ Some r → MainWithin n r
  pub olds : (e : EndId) (r : OldAt P) → m.old e ≡ Some r → OldWithin n r
  -- of which ends these are
  pub main_ids : (e : EndId) (r : MainAt P) → m.main e ≡ Some r → IdWithin n e
  pub old_ids : (e : EndId) (r : OldAt P) → m.old e ≡ Some r → IdWithin n e
  -- it opened as many sessions as it may, or fewer
  pub requests : m.requests ≤ limit_of_requests
  -- what a party offers is one of the sessions that it can open
  pub offers : (from sess : ℕ) → Contains (m.offers from) sess → (from < n) × (is_opened_by from sess ≡ true)

-- what a rule leaves and posts
pub record WorkedWithin {P Q : Type 0} (n : ℕ) (w : Worked P (NodeAt P Q)) : Type 0 where
  pub node : NodeWithin n w.state
  pub posts : MailsWithin n w.posts

-- and no frame comes from or goes to a party above
pub record IsWithin {P Q : Type 0} (n : ℕ) (w : WorldAt P Q) : Type 0 where
  pub nodes : (p : ℕ) → NodeWithin n (w.nodes p)
  pub frames : (p q : ℕ) → AllByRecursion (λ f. BodyWithin n f.body) (w.lanes p q)
  pub outside : (p q : ℕ) → (n ≤ p) ⊎ (n ≤ q) → w.lanes p q ≡ []

-- no frame has a larger clock
abbrev pub NoneAbove : {P : Type 0} → ℕ → List (FrameAt P) → Type 0
NoneAbove c frames = AllByRecursion (λ f. f.clock ≤ c) frames

-- no clock of the world is above that
pub record ClocksWithin {P Q : Type 0} (c : ℕ) (w : WorldAt P Q) : Type 0 where
  pub nodes : (p : ℕ) → (w.nodes p).clock ≤ c
  pub lanes : (p q : ℕ) → NoneAbove c (w.lanes p q)
