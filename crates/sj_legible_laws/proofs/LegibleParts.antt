-- What a line can report of a world: its ends, messages and sessions are those of the file, and
-- within the format's bounds.
use Rattle.std.specs.Prelude.{◌≡◌, ℕ, ◌≤◌, ⊤, List, Some, None}
use Rattle.std.specs.List.{AllByRecursion}
use Rattle.sj_base.specs.declared.EndId.{EndId}
use Rattle.sj_base.specs.declared.Msg.{Msg}
use Rattle.sj_lang.specs.FileAt.{FileAt}
use Rattle.sj_rules.specs.Record.{EndAt, BodyAt, Carry, Fin, Claim, Signal, Ack, Give, Open, Mail, MainAt, Held, Closed, Expected, OldAt, Parked, Signalled}
use Rattle.sj_rules.specs.Rows.{Worked}
use Rattle.sj_rules.specs.Node.{Want, ended, local, sends, delegates, takes, closes, requests, accepts, Play, NodeAt}
use Rattle.sj_rules.specs.Frames.{FrameAt}
use Rattle.sj_rules.specs.World.{WorldAt}
use Rattle.sj_log.specs.Legible.{IsCount, IsEnd, IsMessage, IsResend, HasParty}

module _ (file : FileAt) where
  abbrev pub AreMessages : List Msg → Type 0
  AreMessages ms = AllByRecursion (IsMessage file) ms

  -- an end's name, and what is in its cache
  pub record EndTold {P : Type 0} (e : EndAt P) : Type 0 where
    pub id : IsEnd e.id
    pub cache : AreMessages e.cache

  -- what a body says, its counts and its parties aside
  abbrev pub BodyTold : {P : Type 0} → BodyAt P → Type 0
  BodyTold (Carry to conn number taken msg) = IsEnd to × IsMessage file msg
  BodyTold (Fin to conn number) = IsEnd to
  BodyTold (Claim of) = IsEnd of
  BodyTold (Signal to conn party taken) = IsEnd to
  BodyTold (Ack of conn) = IsEnd of
  BodyTold (Give e resend) = EndTold e × IsResend resend
  BodyTold (Open sess) = IsCount sess

  abbrev pub MailTold : {P : Type 0} → Mail P → Type 0
  MailTold m = BodyTold m.body

  abbrev pub MailsTold : {P : Type 0} → List (Mail P) → Type 0
  MailsTold ms = AllByRecursion MailTold ms

  abbrev pub FramesTold : {P : Type 0} → List (FrameAt P) → Type 0
  FramesTold fs = AllByRecursion (λ f. BodyTold f.body) fs

  -- a main record
  abbrev pub MainTold : {P : Type 0} → MainAt P → Type 0
  MainTold (Held h) = EndTold h.end × AreMessages h.untaken
  MainTold (Closed e) = EndTold e
  MainTold (Expected keeper place deferred) = MailsTold deferred

  -- an old record
  abbrev pub OldTold : {P : Type 0} → OldAt P → Type 0
  OldTold (Parked e) = EndTold e
  OldTold (Signalled e to) = EndTold e

  -- a session that a party offers
  abbrev pub OfferTold : (from sess : ℕ) → Type 0
  OfferTold from sess = IsCount sess × HasParty file from

  -- all records of a node, what is offered to it, and its program
  pub record NodeTold {P Q : Type 0} (Knows : Q → Type 0) (m : NodeAt P Q) : Type 0 where
    pub program : Knows m.program
    pub mains : (e : EndId) (r : MainAt P) → m.main e ≡ Some r → MainTold r
    pub olds : (e : EndId) (r : OldAt P) → m.old e ≡ Some r → OldTold r
    pub offers : (from : ℕ) → AllByRecursion (OfferTold from) (m.offers from)

  -- what a rule leaves and posts
  pub record WorkedTold {P Q : Type 0} (Knows : Q → Type 0) (w : Worked P (NodeAt P Q)) : Type 0 where
    pub node : NodeTold Knows w.state
    pub posts : MailsTold w.posts

  -- what a program that knows only of the file wants is legible
  abbrev pub WantTold : {P : Type 0} → Want P → Type 0
  WantTold ended = ⊤
  WantTold local = ⊤
  WantTold (sends e msg) = IsEnd e × IsMessage file msg
  WantTold (delegates carrier e) = IsEnd carrier × IsEnd e
  WantTold (takes e place) = IsEnd e
  WantTold (closes e) = IsEnd e
  WantTold (requests place to) = ⊤
  WantTold (accepts place from) = ⊤

  -- programs that know only of the file stay so
  pub record PlayTold {P Q : Type 0} (Knows : Q → Type 0) (play : Play P Q) : Type 0 where
    pub wants : (g : Q) → Knows g → WantTold (play.wants g)
    pub goes : (g : Q) → Knows g → Knows (play.goes g None)
    pub took : (g : Q) (m : Msg) → Knows g → IsMessage file m → Knows (play.goes g (Some m))
    pub opened : (g : Q) (e : EndId) → Knows g → IsEnd e → Knows (play.opened g e)

  -- the whole world, where parties from n on do nothing
  pub record WorldTold {P Q : Type 0} (Knows : Q → Type 0) (play : Play P Q) (n : ℕ) (w : WorldAt P Q) : Type 0 where
    pub nodes : (p : ℕ) → NodeTold Knows (w.nodes p)
    pub frames : (p q : ℕ) → FramesTold (w.lanes p q)
    pub idle : (p : ℕ) → n ≤ p → play.wants (w.nodes p).program ≡ ended
