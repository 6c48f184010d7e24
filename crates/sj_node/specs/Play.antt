-- What places and programs do, as the rules of the core ask.
use Rattle.std.specs.Prelude.{◌≡◌, ℕ, List, ◌∷◌, nat_lt, Bool, true, not, ◌&&◌, ◌||◌, Option, Some, None, unwrap_or}
use Rattle.sj_base.specs.declared.Msg.{Msg}
use Rattle.sj_base.specs.declared.Msg.TheVariants as msgs
use Rattle.sj_lang.specs.Place.{Place, done}
use Rattle.sj_lang.specs.After.{after_place}
use Rattle.sj_lang.specs.Dual.{dual_of}
use Rattle.sj_lang.specs.ItemCount.{is_done}
use Rattle.sj_semantics.specs.declared.Want.{Want}
use Rattle.sj_semantics.specs.declared.Want.TheVariants as wants
use Rattle.sj_semantics.specs.declared.Awaits.{Awaits}
use Rattle.sj_semantics.specs.declared.Awaits.TheVariants as awaits
use Rattle.sj_semantics.specs.Program.{Program}
use Rattle.sj_semantics.specs.Steps.{closed_of, local_of, opened_of, sent_of, took_of}
use Rattle.sj_semantics.specs.Wants.{want_of}
use Rattle.sj_semantics.specs.Fitting.{fits}
use Rattle.sj_rules.specs.Limits.{limit_of_steps}
use Rattle.sj_rules.specs.Opened.{is_openable}
use Rattle.sj_rules.specs.Node as rules
use Rattle.sj_rules.specs.Node.{NodeAt, Play}
use Rattle.sj_rules.specs.Record.{HeldAt, Held}
use Rattle.sj_base.specs.declared.EndId.{EndId}

-- the place that an end gets which is taken there
abbrev pub awaited_place : (starts : ℕ → Place) → Awaits → Place
awaited_place starts (awaits.Session p) = starts p
awaited_place starts _ = done

-- the next step; `starts` has the bodies of protocols by their names
abbrev pub want_with : (starts : ℕ → Place) → Want → rules.Want Place
want_with starts wants.Local = rules.local
want_with starts (wants.Send e m) = rules.sends e m
want_with starts (wants.Delegate e y) = rules.delegates e y
want_with starts (wants.Take e a) = rules.takes e (awaited_place starts a)
want_with starts (wants.Close e) = rules.closes e
want_with starts (wants.Request p to) = rules.requests (starts p) to
want_with starts (wants.Accept p from) = rules.accepts (starts p) from
want_with starts wants.Ended = rules.ended

-- a program that is stuck does nothing more
abbrev pub next_want : Program → Want
next_want g = unwrap_or (want_of g) wants.Ended

-- the program after that step, one that takes and opens nothing
abbrev pub done_by : Want → Program → Program
done_by wants.Local g = local_of g
done_by (wants.Send e m) g = sent_of g
done_by (wants.Delegate e y) g = sent_of g
done_by (wants.Close e) g = closed_of g
done_by _ g = g

-- the program after its next step
abbrev pub goes_on : Program → Option Msg → Program
goes_on g (Some m) = took_of g m
goes_on g None = done_by (next_want g) g

-- a session of a connection, or one that a party can open
abbrev pub is_number : (connects parties sess : ℕ) → Bool
is_number connects parties s = nat_lt s connects || is_openable parties s

-- what a session message names is there: an end of a session, and a party
abbrev pub names_known : (connects parties : ℕ) → Msg → Bool
names_known connects parties (msgs.Sess sess side keeper) = is_number connects parties sess && nat_lt side 2 && nat_lt keeper parties
names_known connects parties _ = true

-- the places and programs of a file with so many connections and parties
abbrev pub play_with : (starts : ℕ → Place) → (connects parties : ℕ) → Play Place Program
play_with starts connects parties = record {
  next = after_place;
  is_over = is_done;
  blank = done;
  dual = dual_of;
  wants = λ g. want_with starts (next_want g);
  goes = goes_on;
  opened = opened_of;
  fits = λ g m. fits g m && names_known connects parties m;
  is_worn = λ g. not (nat_lt g.steps limit_of_steps);
  parties = parties;
}

-- a play that takes only messages of that kind
abbrev pub asking : {P Q : Type 0} → (Msg → Bool) → Play P Q → Play P Q
asking known play = record play { fits = λ g m. play.fits g m && known m }

-- the next message of each Held end is of that kind
abbrev pub HeadsAre : {P Q : Type 0} → (Msg → Bool) → NodeAt P Q → Type 0
HeadsAre {P} known n = (e : EndId) (h : HeldAt P) (m : Msg) (rest : List Msg) → n.main e ≡ Some (Held h) → h.untaken ≡ m ∷ rest → known m ≡ true
