-- Worlds of nodes that go on by the events of a drain.
use Rattle.std.proofs.Common.{◌≡◌, ℕ, ◌+◌, ◌<◌, max, List, [], ◌∷◌, ◌++◌, map, length, Option, Some, None, option_map, refl, ap, sym, ◌∙◌, subst, append-nil, append_assoc, length-append, arith}
use Rattle.std.proofs.lemmas.List.{map-append}
use Rattle.sj_lang.specs.Place.{Place}
use Rattle.sj_semantics.specs.Program.{Program}
use Rattle.sj_end.specs.declared.note.Event.{Event}
use Rattle.sj_end.specs.declared.note.Event.TheVariants as events
use Rattle.sj_rules.specs.History.{turn_of}
use Rattle.sj_rules.specs.Log.{LineAt}
use Rattle.sj_rules.specs.Node.{acts}
use Rattle.sj_rules.specs.Party.{play_of}
use Rattle.sj_rules.specs.World as rules
use Rattle.sj_rules.specs.World.{Turn, WorldAt, after_event, happens}
use Rattle.sj_core.specs.declared.node_world.NodeWorld.{NodeWorld}
use Rattle.sj_core.specs.NodeWorld.{IsReached, StaysIn, file_in, history_in, world_in}
use Rattle.sj_core.specs.Draining.{ActsOut, Ahead, Empties, GoesBy, Leads, Tried, events_left}
use Rattle.sj_core.proofs.LawLemmas.{empty_there, short}
use Rattle.sj_core.proofs.ReachedLemmas.{led}

-- nothing is done yet
pub ahead_none : (R : Leads) (c : NodeWorld) → Ahead R c c
ahead_none R c = record { lines = []; listed = sym (append-nil (history_in c)); on = λ ts v r. r }

turns_more : (lines : List LineAt) (l : LineAt) (ts : List Turn) → map turn_of (lines ++ l ∷ []) ++ ts ≡ map turn_of lines ++ turn_of l ∷ ts
turns_more lines l ts = ap (λ t. t ++ ts) (map-append turn_of lines (l ∷ [])) ∙ append_assoc (map turn_of lines) (turn_of l ∷ []) ts

-- one event more
pub ahead_more : (R : Leads) (c d e : NodeWorld) (l : LineAt) → Ahead R c d → history_in e ≡ history_in d ++ l ∷ [] → ((ts : List Turn) (v : WorldAt Place Program) → R (world_in e) ts v → R (world_in d) (turn_of l ∷ ts) v)
    → Ahead R c e
ahead_more R c d e l a listed on = record {
  lines = a.lines ++ l ∷ [];
  listed = listed ∙ ap (λ t. t ++ l ∷ []) a.listed ∙ append_assoc (history_in c) a.lines (l ∷ []);
  on = λ ts v r. subst (λ (us : List Turn). R (world_in c) us v) (sym (turns_more a.lines l ts)) (a.on (turn_of l ∷ ts) v (on ts v r));
}

-- the last of them was the last
pub goes_by : (R : Leads) (c d e : NodeWorld) → Ahead R c d → StaysIn d e → R (world_in d) [] (world_in d) → GoesBy R c e
goes_by R c d e a stays end = record {
  lines = a.lines;
  listed = stays.history ∙ a.listed;
  by =
      subst (λ (v : WorldAt Place Program). R (world_in c) (map turn_of a.lines) v) (sym stays.world)
      (subst (λ (us : List Turn). R (world_in c) us (world_in d)) (append-nil (map turn_of a.lines)) (a.on [] (world_in d) end));
}

-- each event leaves fewer
pub fewer_left : (d e : NodeWorld) (l : LineAt) → IsReached e → history_in e ≡ history_in d ++ l ∷ [] → events_left e < events_left d
fewer_left d e l reached listed =
    let low = short e (led e reached) in
    let more : length (history_in e) ≡ length (history_in d) + 1 = ap length listed ∙ length-append (history_in d) (l ∷ []) in
    omega (arith, low, more)

-- the step of an event that was tried, for the file of the beginning
pub step_of : (c d e : NodeWorld) (p : ℕ) (event : Event) → file_in d ≡ file_in c → (t : Tried d p event e)
    → happens (play_of (file_in c)) max (world_in d) p (Rattle.sj_core.specs.Views.event_at event) ≡ Some (world_in e)
step_of c d e p event file t = (λ i. happens (play_of (sym file i)) max (world_in d) (sym t.turn i).party (sym t.turn i).event) ∙ t.steps.step

pub took_one : (c d e : NodeWorld) (p q : ℕ) → file_in d ≡ file_in c → Ahead (Empties c p q) c d → Tried d p (events.Deliver q) e → Ahead (Empties c p q) c e
took_one c d e p q file a t = ahead_more (Empties c p q) c d e t.line a t.steps.listed (λ ts v r. (t.turn, (world_in e, (step_of c d e p (events.Deliver q) file t, r))))

pub took_all : (c d e : NodeWorld) (p q : ℕ) → IsReached d → Ahead (Empties c p q) c d → StaysIn d e → happens (play_of (file_in d)) max (world_in d) p (rules.Deliver q) ≡ None → GoesBy (Empties c p q) c e
took_all c d e p q reached a stays none = goes_by (Empties c p q) c d e a stays (empty_there d (led d reached) p q none, refl)

pub acted_one : (c d e : NodeWorld) (p : ℕ) → file_in d ≡ file_in c → Ahead (ActsOut c p) c d → Tried d p events.Act e → Ahead (ActsOut c p) c e
acted_one c d e p file a t = ahead_more (ActsOut c p) c d e t.line a t.steps.listed (λ ts v r. (t.turn, (world_in e, (step_of c d e p events.Act file t, r))))

none_before : {A B : Type 0} → (f : A → B) (o : Option A) → option_map f o ≡ None → o ≡ None
none_before f None h = refl
none_before f (Some x) h = absurd (cc h)

pub acted_out : (c d e : NodeWorld) (p : ℕ) → file_in d ≡ file_in c → Ahead (ActsOut c p) c d → StaysIn d e → happens (play_of (file_in d)) max (world_in d) p rules.Act ≡ None → GoesBy (ActsOut c p) c e
acted_out c d e p file a stays none =
    let w = world_in d in
    let still : acts (play_of (file_in d)) p (w.nodes p) ≡ None = none_before (after_event w p ((w.nodes p).clock + 1) w.lanes) (acts (play_of (file_in d)) p (w.nodes p)) none in
    goes_by (ActsOut c p) c d e a stays ((λ i. acts (play_of (sym file i)) p (w.nodes p)) ∙ still, refl)
