-- What each step of an accepted file's plain run gives: the facts that the core's acts rest on; and
-- the plain world beside a core run.
use Rattle.std.specs.Prelude.{◌≡◌, ℕ, ◌+◌, ◌<◌, Bool, true, false, ⊤, ◌&&◌, ◌==◌, List, [], ◌∷◌, ◌++◌, Some, None}
use Rattle.sj_base.specs.declared.EndId.{EndId}
use Rattle.sj_base.specs.declared.Msg.{Msg}
use Rattle.sj_base.specs.declared.Msg.TheVariants as msgs
use Rattle.sj_lang.specs.declared.proto.Way.TheVariants.{Out, Into}
use Rattle.sj_rules.specs.Limits.{limit_of_hops, limit_of_requests}
use Rattle.sj_rules.specs.Record.{other_end, is_same_end, requested_end, offered_end}
use Rattle.sj_rules.specs.Node.{Play, Want, ended, local, sends, delegates, takes, closes, requests, accepts}
use Rattle.sj_rules.specs.Opened.{opened_number}
use Rattle.sj_rules.specs.PlainSide.{PlainAt}
use Rattle.sj_rules.specs.PlainChanges.{waits_of, Proceeds, CountsHold, plain_with_hop}
use Rattle.sj_rules.specs.Acts.{plain_sent, plain_taken, plain_parked, plain_placed, plain_opened, plain_accepted}
use Rattle.sj_rules.specs.Binding.{NamesNoEnd}
use Rattle.sj_semantics.specs.World.{session_message}

module _ {P Q : Type 0} (IsOver : P → Type 0) (binds : Q → EndId → Bool) (play : Play P Q) (plain plain' : PlainAt P Q) (p : ℕ) where
  -- the party binds the same ends
  abbrev pub BindsSame : Type 0
  BindsSame = (e : EndId) → e.side < 2 → binds (plain'.programs p) e ≡ binds (plain.programs p) e

  -- a local step
  pub record PlainLocal : Type 0 where
    pub proceeds : Proceeds plain plain' p (play.goes (plain.programs p) None)
    pub sides : (e : EndId) → plain'.sides e ≡ plain.sides e
    pub binds_same : BindsSame

  -- a value is sent on c, and the place after it is next
  pub record PlainSend (c : EndId) (msg : Msg) (next : P) : Type 0 where
    pub below : c.side < 2
    pub accepted : (plain.sides c).offered ≡ false
    pub value : NamesNoEnd msg
    pub fits : play.next (plain.sides c).place Out msg ≡ Some next
    pub open_there : IsOver (plain.sides (other_end c)).place → ⊥
    pub proceeds : Proceeds plain plain' p (play.goes (plain.programs p) None)
    pub side : plain'.sides c ≡ plain_sent (plain.sides c) next msg
    pub sides : (e : EndId) → is_same_end e c ≡ false → plain'.sides e ≡ plain.sides e
    pub binds_same : BindsSame

  -- a value is taken on c
  pub record PlainTake (c : EndId) (msg : Msg) (next : P) : Type 0 where
    pub below : c.side < 2
    pub accepted : (plain.sides c).offered ≡ false
    pub value : NamesNoEnd msg
    pub wanted : play.fits (plain.programs p) msg ≡ true
    pub fits : play.next (plain.sides c).place Into msg ≡ Some next
    pub proceeds : Proceeds plain plain' p (play.goes (plain.programs p) (Some msg))
    pub side : plain'.sides c ≡ plain_taken (plain.sides c) next
    pub sides : (e : EndId) → is_same_end e c ≡ false → plain'.sides e ≡ plain.sides e
    pub binds_same : BindsSame

  -- the end d is taken on c, and gets that place
  pub record PlainTakeEnd (c d : EndId) (keeper : ℕ) (place next : P) : Type 0 where
    pub below : c.side < 2
    pub accepted : (plain.sides c).offered ≡ false
    pub wanted : play.fits (plain.programs p) (session_message d keeper) ≡ true
    pub fits : play.next (plain.sides c).place Into (session_message d keeper) ≡ Some next
    pub proceeds : Proceeds plain plain' p (play.goes (plain.programs p) (Some (session_message d keeper)))
    pub side : plain'.sides c ≡ plain_taken (plain.sides c) next
    pub side_it : plain'.sides d ≡ plain_placed (plain.sides d) place
    pub sides : (e : EndId) → is_same_end e c ≡ false → is_same_end e d ≡ false → plain'.sides e ≡ plain.sides e
    pub binds_it : binds (plain'.programs p) d ≡ true
    pub binds_else : (e : EndId) → e.side < 2 → is_same_end e d ≡ false → binds (plain'.programs p) e ≡ binds (plain.programs p) e

  -- the end d is sent on c
  pub record PlainDelegate (c d : EndId) (next : P) : Type 0 where
    pub below : c.side < 2
    pub below_it : d.side < 2
    pub accepted : (plain.sides c).offered ≡ false
    pub accepted_it : (plain.sides d).offered ≡ false
    pub apart : is_same_end c d ≡ false
    pub few : (plain.sides d).hops < limit_of_hops
    pub counts : CountsHold (plain_with_hop plain d)
    pub fits : play.next (plain.sides c).place Out (session_message d p) ≡ Some next
    pub open_there : IsOver (plain.sides (other_end c)).place → ⊥
    pub proceeds : Proceeds plain plain' p (play.goes (plain.programs p) None)
    pub side : plain'.sides c ≡ plain_sent (plain.sides c) next (session_message d p)
    pub side_it : plain'.sides d ≡ plain_parked (plain.sides d)
    pub sides : (e : EndId) → is_same_end e c ≡ false → is_same_end e d ≡ false → plain'.sides e ≡ plain.sides e
    pub binds_it : binds (plain'.programs p) d ≡ false
    pub binds_else : (e : EndId) → e.side < 2 → is_same_end e d ≡ false → binds (plain'.programs p) e ≡ binds (plain.programs p) e

  -- the end c is closed
  pub record PlainClose (c : EndId) : Type 0 where
    pub below : c.side < 2
    pub accepted : (plain.sides c).offered ≡ false
    pub over : play.is_over (plain.sides c).place ≡ true
    pub is_over : IsOver (plain.sides c).place
    pub all_taken : waits_of plain c ≡ []
    pub proceeds : Proceeds plain plain' p (play.goes (plain.programs p) None)
    pub sides : (e : EndId) → plain'.sides e ≡ plain.sides e
    pub binds_it : binds (plain'.programs p) c ≡ false
    pub binds_else : (e : EndId) → e.side < 2 → is_same_end e c ≡ false → binds (plain'.programs p) e ≡ binds (plain.programs p) e

  -- what a request or an accept leaves as it was: all other programs and ends
  pub record PlainOpens (g : Q) (c : EndId) : Type 0 where
    pub here : plain'.programs p ≡ g
    pub away : (k : ℕ) → (k == p) ≡ false → plain'.programs k ≡ plain.programs k
    pub binds_it : binds (plain'.programs p) c ≡ true
    pub binds_else : (e : EndId) → e.side < 2 → is_same_end e c ≡ false → binds (plain'.programs p) e ≡ binds (plain.programs p) e

  -- a session is opened to that party, with these places of its ends
  pub record PlainRequest (place there : P) (to : ℕ) : Type 0 where
    pub few : plain.requests p < limit_of_requests
    pub known : to < play.parties
    pub goes : PlainOpens (play.opened (plain.programs p) (requested_end (opened_number p (plain.requests p)))) (requested_end (opened_number p (plain.requests p)))
    pub counts : plain'.requests p ≡ plain.requests p + 1
    pub counts_else : (k : ℕ) → (k == p) ≡ false → plain'.requests k ≡ plain.requests k
    pub near : plain'.sides (requested_end (opened_number p (plain.requests p))) ≡ plain_opened place false
    pub far : plain'.sides (offered_end (opened_number p (plain.requests p))) ≡ plain_opened there true
    pub sides : (e : EndId) → (e.sess == opened_number p (plain.requests p)) ≡ false → plain'.sides e ≡ plain.sides e
    pub offers : plain'.offers p to ≡ plain.offers p to ++ opened_number p (plain.requests p) ∷ []
    pub offers_else : (from q : ℕ) → ((from == p) && (q == to)) ≡ false → plain'.offers from q ≡ plain.offers from q

  -- the first session that is offered by that party is accepted
  pub record PlainAccept (place : P) (from sess : ℕ) (later : List ℕ) : Type 0 where
    pub first : plain.offers from p ≡ sess ∷ later
    pub goes : PlainOpens (play.opened (plain.programs p) (offered_end sess)) (offered_end sess)
    pub side : plain'.sides (offered_end sess) ≡ plain_accepted (plain.sides (offered_end sess)) place
    pub sides : (e : EndId) → is_same_end e (offered_end sess) ≡ false → plain'.sides e ≡ plain.sides e
    pub requests : (k : ℕ) → plain'.requests k ≡ plain.requests k
    pub offers : plain'.offers from p ≡ later
    pub offers_else : (q r : ℕ) → ((q == from) && (r == p)) ≡ false → plain'.offers q r ≡ plain.offers q r

-- the ends that a program names have two sides
abbrev pub NamesEnds : {P : Type 0} → Want P → Type 0
NamesEnds ended = ⊤
NamesEnds local = ⊤
NamesEnds (sends c msg) = c.side < 2
NamesEnds (delegates c d) = (c.side < 2) × (d.side < 2)
NamesEnds (takes c place) = c.side < 2
NamesEnds (closes c) = c.side < 2
NamesEnds (requests place to) = ⊤
NamesEnds (accepts place from) = ⊤

module _ {P Q : Type 0} (IsOver : P → Type 0) (binds : Q → EndId → Bool) (play : Play P Q) (plain : PlainAt P Q) (p : ℕ) where
  -- what taking the message gives
  abbrev pub PlainTakes : PlainAt P Q → EndId → P → Msg → P → Type 0
  PlainTakes plain' c place (msgs.Sess sess side keeper) next = PlainTakeEnd IsOver binds play plain plain' p c (record { sess = sess; side = side }) keeper place next
  PlainTakes plain' c place (msgs.Int n) next = PlainTake IsOver binds play plain plain' p c (msgs.Int n) next
  PlainTakes plain' c place (msgs.Bool n) next = PlainTake IsOver binds play plain plain' p c (msgs.Bool n) next
  PlainTakes plain' c place (msgs.Text n) next = PlainTake IsOver binds play plain plain' p c (msgs.Text n) next
  PlainTakes plain' c place (msgs.Label n) next = PlainTake IsOver binds play plain plain' p c (msgs.Label n) next
  PlainTakes plain' c place (msgs.More n) next = PlainTake IsOver binds play plain plain' p c (msgs.More n) next

  -- what the step gives
  abbrev pub PlainGives : PlainAt P Q → Want P → Type 0
  PlainGives plain' ended = ⊥
  PlainGives plain' local = PlainLocal IsOver binds play plain plain' p
  PlainGives plain' (sends c msg) = (next : P) × PlainSend IsOver binds play plain plain' p c msg next
  PlainGives plain' (delegates c d) = (next : P) × PlainDelegate IsOver binds play plain plain' p c d next
  PlainGives plain' (takes c place) = (m : Msg) × (later : List Msg) × (waits_of plain c ≡ m ∷ later) × ((next : P) × PlainTakes plain' c place m next)
  PlainGives plain' (closes c) = PlainClose IsOver binds play plain plain' p c
  PlainGives plain' (requests place to) = (there : P) × PlainRequest IsOver binds play plain plain' p place there to
  PlainGives plain' (accepts place from) = (sess : ℕ) × (later : List ℕ) × PlainAccept IsOver binds play plain plain' p place from sess later
