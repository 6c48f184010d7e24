-- A line that fits the places of the ends that it uses.
use Rattle.std.specs.Prelude.{◌≡◌, ◌≢◌, ⊤, List, [], ◌∷◌, Some, option_map}
use Rattle.sj_base.specs.declared.EndId.{EndId}
use Rattle.sj_base.specs.declared.Msg.{Msg}
use Rattle.sj_lang.specs.declared.proto.Way.{Way}
use Rattle.sj_lang.specs.declared.proto.Way.TheVariants.{Into, Out}
use Rattle.sj_lang.specs.After.{after_place}
use Rattle.sj_lang.specs.Meet.{StandsFor}
use Rattle.sj_lang.specs.Place.{Place, done}
use Rattle.sj_semantics.specs.Balanced.{FitsNext}
use Rattle.sj_semantics.specs.Ends.{Session, end_at, next_for}
use Rattle.sj_semantics.specs.Uses.{Use, begins, delegates, sends, takes}
use Rattle.sj_talk.specs.Doing.{uses_of}
use Rattle.sj_talk.specs.Forms as forms
use Rattle.sj_talk.specs.Forms.{FormAt}
use Rattle.sj_talk.specs.Rules.{place_under}
use Rattle.sj_talk.specs.TalkWorld.{TalkWorld}

-- the end's place begins with such a message in that direction, and a place follows
pub record FitsMessage (zs : List Session) (e : EndId) (way : Way) (m : Msg) : Type 0 where
  pub next : Place
  pub after : after_place (end_at zs e).place way m ≡ Some next
  pub fits : FitsNext zs (end_at zs e).place m

-- a message that is taken is there, an end that is delegated has a place, and one that begins somewhere stands for that
abbrev pub FitsUse : List Session → EndId → Use → Type 0
FitsUse zs e (sends m) = FitsMessage zs e Out m
FitsUse zs e (takes m) = (option_map (λ x. x.msg) (next_for zs e) ≡ Some m) × FitsMessage zs e Into m
FitsUse zs e delegates = (end_at zs e).place ≢ done
FitsUse zs e (begins place) = StandsFor (end_at zs e).place place

-- each of these uses fits, by the places before them
abbrev pub FitEach : List Session → List (EndId × Use) → Type 0
FitEach zs [] = ⊤
FitEach zs (u ∷ us) = FitsUse zs u.0 u.1 × FitEach zs us

-- what a line says fits; an end that it closes has nothing ahead
abbrev pub FitsForm : TalkWorld → FormAt → Type 0
FitsForm t (forms.close x) = place_under t x ≡ done
FitsForm t f = FitEach t.world.sessions (uses_of t f)
