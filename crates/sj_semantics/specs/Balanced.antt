-- Balanced sessions: one direction at most holds untaken messages, and they lead its taker to a
-- place that meets the other one.
use Rattle.std.specs.Prelude.{◌≡◌, ◌≢◌, ℕ, ◌⊎◌, List, [], ◌∷◌, Some, ⊤}
use Rattle.sj_base.specs.declared.EndId.{EndId}
use Rattle.sj_base.specs.declared.Msg.{Msg}
use Rattle.sj_base.specs.declared.Msg.TheVariants as msgs
use Rattle.sj_lang.specs.declared.proto.Way.TheVariants.{Into}
use Rattle.sj_lang.specs.Place.{Place, Carried, done, message, int, boolean, text, session}
use Rattle.sj_lang.specs.Meet.{Meets, StandsFor}
use Rattle.sj_lang.specs.After.{after_place}
use Rattle.sj_semantics.specs.Ends.{Session, end_at, other_end, untaken_for}

-- the message fits the kind; a session message where the place of the end that it
-- names stands for the kind's
abbrev pub Fits : List Session → Carried → Msg → Type 0
Fits zs int (msgs.Int n) = ⊤
Fits zs boolean (msgs.Bool b) = ⊤
Fits zs text (msgs.Text n) = ⊤
Fits zs (session place) (msgs.Sess s d k) = (place ≢ done) × StandsFor (end_at zs (record { sess = s; side = d })).place place
Fits _ _ _ = ⊥

-- a message that is next at the place fits its kind; labels, more and stop carry nothing
abbrev pub FitsNext : List Session → Place → Msg → Type 0
FitsNext zs (message way kind rest) m = Fits zs kind m
FitsNext zs _ m = ⊤

-- a taker at the first place that takes the messages in order comes to one that meets the
-- last place, and each fits
abbrev pub LeadsTaker : List Session → Place → List Msg → Place → Type 0
LeadsTaker zs place [] last = Meets place last
LeadsTaker zs place (m ∷ ms) last = (next : Place) × FitsNext zs place m × (after_place place Into m ≡ Some next) × LeadsTaker zs next ms last

-- nothing is on its way to the one end, and what is on its way to the other leads that one to a
-- place that meets the one's
pub record IsAhead (zs : List Session) (taker : EndId) : Type 0 where
  pub nothing_back : untaken_for zs (other_end taker) ≡ []
  pub leads : LeadsTaker zs (end_at zs taker).place (untaken_for zs taker) (end_at zs (other_end taker)).place

-- the session with that number is balanced
abbrev pub IsBalanced : List Session → ℕ → Type 0
IsBalanced zs s = IsAhead zs (record { sess = s; side = 0 }) ⊎ IsAhead zs (record { sess = s; side = 1 })
