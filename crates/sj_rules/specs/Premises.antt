-- What the lemmas on events ask of the plain world: it says of every party's next step and of every
-- session that they fit.
use Rattle.std.specs.Prelude.{◌≡◌, ℕ, ◌+◌, ◌*◌, ◌<◌, ◌≤◌, Bool, true, false, ⊤, List, [], ◌∷◌, length, Some, None}
use Rattle.sj_base.specs.declared.EndId.{EndId}
use Rattle.sj_base.specs.declared.Msg.{Msg}
use Rattle.sj_base.specs.declared.Msg.TheVariants as msgs
use Rattle.sj_lang.specs.declared.proto.Way.TheVariants.{Out, Into}
use Rattle.sj_rules.specs.Limits.{limit_of_hops, limit_of_messages}
use Rattle.sj_rules.specs.Record.{other_end, is_same_end, requested_end, offered_end}
use Rattle.sj_rules.specs.Node.{Want, ended, local, sends, delegates, takes, closes, requests, accepts, Play}
use Rattle.sj_rules.specs.Opened.{opened_number}
use Rattle.sj_rules.specs.PlainSide.{PlainSide, PlainAt, untaken_of}
use Rattle.sj_rules.specs.Linked.{waiting_at}
use Rattle.sj_rules.specs.Binding.{BindsSame, BindsWithout, BindsAlso, BindsTaken, NamesNoEnd, NamesOther}
pub use Rattle.sj_rules.specs.Binding.{NamesKnown}
use Rattle.sj_semantics.specs.World.{session_message}

-- a value can be sent on e
pub record FitsSend {P Q : Type 0} (IsOver : P → Type 0) (play : Play P Q) (binds : Q → EndId → Bool) (plain : PlainAt P Q) (g : Q) (e : EndId) (m : Msg) : Type 0 where
  pub bound : binds g e ≡ true
  pub place : P
  pub after : play.next (plain.sides e).place Out m ≡ Some place
  -- the other end's place isn't over
  pub goes_on : IsOver (plain.sides (other_end e)).place → ⊥
  pub no_end : NamesNoEnd m
  pub names : BindsSame binds g (play.goes g None)

-- e can be sent on the carrier
pub record FitsDelegate {P Q : Type 0} (IsOver : P → Type 0) (play : Play P Q) (binds : Q → EndId → Bool) (plain : PlainAt P Q) (p : ℕ) (g : Q) (carrier e : EndId) : Type 0 where
  pub bound : binds g carrier ≡ true
  pub handed : binds g e ≡ true
  pub apart : is_same_end carrier e ≡ false
  pub place : P
  pub after : play.next (plain.sides carrier).place Out (session_message e p) ≡ Some place
  pub goes_on : IsOver (plain.sides (other_end carrier)).place → ⊥
  pub names : BindsWithout binds g (play.goes g None) e

-- the message that waits at the end's head can be taken
pub record FitsHead {P Q : Type 0} (play : Play P Q) (binds : Q → EndId → Bool) (plain : PlainAt P Q) (g : Q) (e : EndId) (named : P) (m : Msg) : Type 0 where
  pub fits : play.fits g m ≡ true
  pub place : P
  pub after : play.next (plain.sides e).place Into m ≡ Some place
  pub names : BindsTaken binds g (play.goes g (Some m)) m
  -- it names another end than the one on which it is taken
  pub other : NamesOther e m

-- whatever waits at the head of e can be taken
pub record FitsTake {P Q : Type 0} (play : Play P Q) (binds : Q → EndId → Bool) (plain : PlainAt P Q) (g : Q) (e : EndId) (named : P) : Type 0 where
  pub bound : binds g e ≡ true
  pub head : (m : Msg) → waiting_at plain e 0 ≡ Some m → FitsHead play binds plain g e named m

-- e can be closed: its place is over and nothing waits
pub record FitsClose {P Q : Type 0} (IsOver : P → Type 0) (play : Play P Q) (binds : Q → EndId → Bool) (plain : PlainAt P Q) (g : Q) (e : EndId) : Type 0 where
  pub bound : binds g e ≡ true
  pub over : IsOver (plain.sides e).place
  pub is_over : play.is_over (plain.sides e).place ≡ true
  pub nothing_waits : untaken_of (plain.sides (other_end e)) (plain.sides e) ≡ []
  pub names : BindsWithout binds g (play.goes g None) e

-- the end that an accept binds is the one of the first session that is offered
abbrev pub FitsAccept : {P Q : Type 0} → Play P Q → (binds : Q → EndId → Bool) → PlainAt P Q → ℕ → Q → (from : ℕ) → Type 0
FitsAccept play binds plain p g from = (sess : ℕ) (later : List ℕ) → plain.offers from p ≡ sess ∷ later → BindsAlso binds g (play.opened g (offered_end sess)) (offered_end sess)

-- a request is to a party that is there, and binds the first end of its session
abbrev pub FitsRequest : {P Q : Type 0} → Play P Q → (binds : Q → EndId → Bool) → PlainAt P Q → ℕ → Q → (to : ℕ) → Type 0
FitsRequest play binds plain p g to =
    (to < play.parties) × BindsAlso binds g (play.opened g (requested_end (opened_number p (plain.requests p)))) (requested_end (opened_number p (plain.requests p)))

-- the next step fits
abbrev pub FitsStep : {P Q : Type 0} → (IsOver : P → Type 0) → Play P Q → (binds : Q → EndId → Bool) → PlainAt P Q → ℕ → Q → Want P → Type 0
FitsStep IsOver play binds plain p g ended = ⊤
FitsStep IsOver play binds plain p g local = BindsSame binds g (play.goes g None)
FitsStep IsOver play binds plain p g (sends e m) = FitsSend IsOver play binds plain g e m
FitsStep IsOver play binds plain p g (delegates carrier e) = FitsDelegate IsOver play binds plain p g carrier e
FitsStep IsOver play binds plain p g (takes e named) = FitsTake play binds plain g e named
FitsStep IsOver play binds plain p g (closes e) = FitsClose IsOver play binds plain g e
FitsStep IsOver play binds plain p g (requests place to) = FitsRequest play binds plain p g to
FitsStep IsOver play binds plain p g (accepts place from) = FitsAccept play binds plain p g from

-- what was taken was sent, and handovers and messages are few: connection numbers stay below 1,000
pub record IsWithinCounts {P : Type 0} (x y : PlainSide P) : Type 0 where
  pub fewer : x.taken ≤ length y.sent
  pub hops : x.hops + y.hops ≤ 2 * limit_of_hops
  pub messages : length x.sent < limit_of_messages

-- every next step fits, every count is within its limit, and names and keepers are those of the
-- file
pub record IsLawful {P Q : Type 0} (IsOver : P → Type 0) (play : Play P Q) (binds : Q → EndId → Bool) (parties : ℕ) (plain : PlainAt P Q) : Type 0 where
  pub counts : (e : EndId) → e.side < 2 → IsWithinCounts (plain.sides e) (plain.sides (other_end e))
  pub steps : (p : ℕ) → FitsStep IsOver play binds plain p (plain.programs p) (play.wants (plain.programs p))
  -- no name stands for an end that no session has, and no party above the file's binds any
  pub proper : (p : ℕ) (e : EndId) → binds (plain.programs p) e ≡ true → (e.side < 2) × (p < parties)
  -- an offered end is bound nowhere
  pub unbound : (p : ℕ) (e : EndId) → (plain.sides e).offered ≡ true → binds (plain.programs p) e ≡ false
  -- a party above the file's does nothing
  pub idle : (p : ℕ) → parties ≤ p → play.wants (plain.programs p) ≡ ended
  -- a session message that waits was sent by a party of the file
  pub keepers : (e : EndId) (n sess side keeper : ℕ) → e.side < 2 → waiting_at plain e n ≡ Some (msgs.Sess sess side keeper) → (side < 2) × (keeper < parties)
