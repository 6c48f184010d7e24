-- A party as contracts see it, and what its events make of it.
use Rattle.std.specs.Prelude.{◌≡◌, ℕ, suc, ◌<◌, ⊤, List, ◌∷◌, ◌++◌, Option, Some, None}
use Rattle.sj_base.specs.declared.EndId.{EndId}
use Rattle.sj_base.specs.declared.Msg.{Msg}
use Rattle.sj_base.specs.declared.Msg.TheVariants as msgs
use Rattle.sj_lang.specs.FileAt.{ProtocolAt}
use Rattle.sj_lang.specs.Place.{Place}
use Rattle.sj_semantics.specs.Program.{Program}
use Rattle.sj_semantics.specs.declared.Want.{Want}
use Rattle.sj_semantics.specs.declared.Want.TheVariants as wants
use Rattle.sj_rules.specs.Opened.{opened_number}
use Rattle.sj_rules.specs.Party.{want_for}
use Rattle.sj_rules.specs.Play.{Play}
use Rattle.sj_rules.specs.Record.{requested_end}
use Rattle.sj_forward.specs.declared.forwarder.Forwarder.{Forwarder}
use Rattle.sj_forward.specs.Ends.{HasPlace, held_in, records_in, uses_in}
use Rattle.sj_offers.specs.Offers.{offers_in}
use Rattle.sj_forward.specs.Outs.{lane_in, room_in}
use Rattle.sj_forward_rules.specs.Acts.{act_by}
use Rattle.sj_forward_rules.specs.Arrivals.{comes}
use Rattle.sj_forward_rules.specs.Node.{HeldAt, NodeAt, Worked}
use Rattle.sj_forward_rules.specs.Record.{SentAt, FrameAt}
use Rattle.sj_forward_rules.specs.World.{frames_for}

-- with that program: what it opened and what is offered to it, the ends in use and the records
abbrev pub forwarder_at : Program → Forwarder → NodeAt Program
forwarder_at g d = record {
  program = g;
  requests = d.requests;
  offers = offers_in d.offers.items;
  uses = uses_in d.ends.items;
  records = records_in d.ends.items;
}

-- what it has sent to that party and that hasn't come
abbrev pub lane_of : Forwarder → ℕ → List FrameAt
lane_of d q = lane_in d.outs.items q

-- its ends, offers and lanes are what the rule leaves
pub record Does (old : Forwarder) (done : Worked Program) (new : Forwarder) : Type 0 where
  pub node : forwarder_at done.node.program new ≡ done.node
  pub posts : (q : ℕ) → lane_of new q ≡ lane_of old q ++ frames_for q done.posts

-- a rule fitted, and the party did what it says
abbrev pub DoesSo : (old : Forwarder) → Option (Worked Program) → (new : Forwarder) → Type 0
DoesSo old None new = ⊥
DoesSo old (Some done) new = Does old done new

-- the party's next step, whatever programs do
abbrev pub Acts : (party : ℕ) → Want → (old new : Forwarder) → Type 0
Acts p want old new =
    (play : Play Place Program) (ps : List ProtocolAt) (g : Program) → DoesSo old (act_by play p (forwarder_at g old) (want_for ps want)) new

-- the row of a frame from that party, whatever the program
abbrev pub FrameComes : (origin : ℕ) → FrameAt → (old new : Forwarder) → Type 0
FrameComes q f old new = (g : Program) → DoesSo old (comes (forwarder_at g old) q f) new

-- nothing that contracts see has changed
pub record ForwarderStays (old new : Forwarder) : Type 0 where
  pub node : (g : Program) → forwarder_at g new ≡ forwarder_at g old
  pub posts : (q : ℕ) → lane_of new q ≡ lane_of old q

-- the rules have such a step of the party
pub record HasAct (p : ℕ) (want : Want) (d : Forwarder) : Type 0 where
  pub play : Play Place Program
  pub protocols : List ProtocolAt
  pub program : Program
  pub done : Worked Program
  pub row : act_by play p (forwarder_at program d) (want_for protocols want) ≡ Some done

-- the frame fits
pub record HasRow (origin : ℕ) (f : FrameAt) (d : Forwarder) : Type 0 where
  pub program : Program
  pub done : Worked Program
  pub row : comes (forwarder_at program d) origin f ≡ Some done

-- ---- memory that a step needs

-- for one frame to that party
abbrev pub CanPost : Forwarder → (to : ℕ) → Type 0
CanPost d to = 0 < room_in d.outs.items to

-- for what is sent on the end
abbrev pub CanSend : Forwarder → EndId → Type 0
CanSend d e = (h : HeldAt) → held_in d.ends.items e ≡ Some h → CanPost d h.behind

-- for the end that the message brings, whose hop number it gives
abbrev pub CanClaim : Forwarder → Msg → (hop : ℕ) → Type 0
CanClaim d (msgs.Sess sess side keeper) hop = CanPost d keeper × HasPlace d.ends.items (record { sess = sess; side = side }) (suc hop)
CanClaim d (msgs.Int x) hop = ⊤
CanClaim d (msgs.Bool x) hop = ⊤
CanClaim d (msgs.Text x) hop = ⊤
CanClaim d (msgs.Label x) hop = ⊤
CanClaim d (msgs.More x) hop = ⊤

-- for what the end takes next
abbrev pub CanTake : Forwarder → EndId → Type 0
CanTake d e = (h : HeldAt) (m : SentAt) (rest : List SentAt) → held_in d.ends.items e ≡ Some h → h.untaken ≡ m ∷ rest → CanClaim d m.msg m.hop

abbrev pub HasRoom : (party : ℕ) → Want → Forwarder → Type 0
HasRoom p (wants.Send e m) d = CanSend d e
HasRoom p (wants.Delegate e y) d = CanSend d e
HasRoom p (wants.Take e a) d = CanTake d e
HasRoom p (wants.Request q to) d = CanPost d to × HasPlace d.ends.items (requested_end (opened_number p d.requests)) 0
HasRoom p wants.Local d = ⊤
HasRoom p (wants.Close e) d = ⊤
HasRoom p (wants.Accept q from) d = ⊤
HasRoom p wants.Ended d = ⊤
