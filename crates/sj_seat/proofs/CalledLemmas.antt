-- A call that a node does is a step of the play in which the party is played by code of its own.
use Rattle.std.proofs.Common.{◌≡◌, ◌∙◌, ℕ, ◌+◌, max, nat_lt, not, if◌then◌else◌, Bool, true, false, List, ◌∷◌, length, Option, Some, None, option_map, refl, ap, sym}
use Rattle.sj_base.specs.declared.EndId.{EndId}
use Rattle.sj_base.specs.declared.Msg.{Msg}
use Rattle.sj_lang.specs.FileAt.{FileAt}
use Rattle.sj_lang.specs.Place.{Place}
use Rattle.sj_rules.specs.Limits.{limit_of_steps}
use Rattle.sj_rules.specs.Log.{NoteAt, act_note}
use Rattle.sj_rules.specs.Node as wanted
use Rattle.sj_rules.specs.Node.{NodeAt, Want, act_by}
use Rattle.sj_rules.specs.NodeRun.{Acted, StepAt, Steps}
use Rattle.sj_rules.specs.Record.{Held, HeldAt, Mail}
use Rattle.sj_rules.specs.Rows.{Worked}
use Rattle.sj_rules.specs.World.{Act}
use Rattle.sj_seat_laws.specs.Calls.{SeatedAt}
use Rattle.sj_seat_laws.specs.Guards.{called, seated_want}
use Rattle.sj_seat_laws.specs.SeatedPlay.{seated, seated_play}
use Rattle.sj_seat_laws.specs.SeatRows.{silent, with_player, worked_player}
use Rattle.sj_seat_laws.proofs.PlayedLemmas.{call_played, taking_played}

-- an end that a step takes from has that message first
pub record IsNext {Q : Type 0} (n : NodeAt Place Q) (e : EndId) (m : Msg) : Type 0 where
  pub held : HeldAt Place
  pub rest : List Msg
  pub there : n.main e ≡ Some (Held held)
  pub first : held.untaken ≡ m ∷ rest

-- what the step takes
abbrev pub Takes : {Q : Type 0} → NodeAt Place Q → Want Place → Option Msg → Type 0
Takes n (wanted.sends e m) taken = taken ≡ None
Takes n (wanted.delegates c e) taken = taken ≡ None
Takes n (wanted.closes e) taken = taken ≡ None
Takes n (wanted.takes e place) None = ⊥
Takes n (wanted.takes e place) (Some m) = IsNext n e m
Takes n wanted.ended taken = ⊥
Takes n wanted.local taken = ⊥
Takes n (wanted.requests place to) taken = ⊥
Takes n (wanted.accepts place from) taken = ⊥

-- the step of an act
abbrev pub act_step : ℕ → NoteAt → List (Mail Place) → StepAt Place
act_step clock note posts = record { deed = Acted; entry = record { clock = clock; event = Act; note = note }; posts = posts }

module _ {Q : Type 0} (file : FileAt) (party : ℕ) (s : SeatedAt) (n : NodeAt Place Q) where
  abbrev Row : Want Place → Option Msg → Worked Place (NodeAt Place Q) → Type 0
  Row want taken left = act_by (seated_play file) party (with_player (seated s) n) want ≡ Some (worked_player (seated (called s taken)) left)

  none_taken : (want : Want Place) (taken : Option Msg) (left : Worked Place (NodeAt Place Q)) → taken ≡ None → Row want None left → Row want taken left
  none_taken want taken left is row = row ∙ ap (λ (o : Option Msg). Some (worked_player (seated (called s o)) left)) (sym is)

  -- its row
  seated_row : (want : Want Place) (taken : Option Msg) (left : Worked Place (NodeAt Place Q)) → Takes n want taken → act_by (silent (length file.parties)) party n want ≡ Some left → Row want taken left
  seated_row (wanted.sends e m) taken left t row =
      none_taken (wanted.sends e m) taken left t
      (call_played file party s n (wanted.sends e m) (λ d p h. absurd (cc h)) (λ p q h. absurd (cc h)) (λ p q h. absurd (cc h)) ∙ ap (option_map (worked_player (seated (called s None)))) row)
  seated_row (wanted.delegates c e) taken left t row =
      none_taken (wanted.delegates c e) taken left t
      (call_played file party s n (wanted.delegates c e) (λ d p h. absurd (cc h)) (λ p q h. absurd (cc h)) (λ p q h. absurd (cc h)) ∙ ap (option_map (worked_player (seated (called s None)))) row)
  seated_row (wanted.closes e) taken left t row =
      none_taken (wanted.closes e) taken left t
      (call_played file party s n (wanted.closes e) (λ d p h. absurd (cc h)) (λ p q h. absurd (cc h)) (λ p q h. absurd (cc h)) ∙ ap (option_map (worked_player (seated (called s None)))) row)
  seated_row (wanted.takes e place) None left t row = absurd t
  seated_row (wanted.takes e place) (Some m) left t row =
      taking_played file party s n e place t.held m t.rest t.there t.first ∙ ap (option_map (worked_player (seated (called s (Some m))))) row
  seated_row wanted.ended taken left t row = absurd t
  seated_row wanted.local taken left t row = absurd t
  seated_row (wanted.requests place to) taken left t row = absurd t
  seated_row (wanted.accepts place from) taken left t row = absurd t

  -- its note
  seated_note : (want : Want Place) → act_note party (with_player (seated s) n) want ≡ act_note party n want
  seated_note wanted.ended = refl
  seated_note wanted.local = refl
  seated_note (wanted.sends e m) = refl
  seated_note (wanted.delegates c e) = refl
  seated_note (wanted.takes e place) = refl
  seated_note (wanted.closes e) = refl
  seated_note (wanted.requests place to) = refl
  seated_note (wanted.accepts place from) = refl

  not_worn : {X : Type 0} (b : Bool) (o : Option X) → b ≡ true → (if not b then None else o) ≡ o
  not_worn true o h = refl
  not_worn false o h = absurd (cc h)

  -- a step that leaves the code such a party
  pub stepped : (want : Want Place) (t : SeatedAt) (left : Worked Place (NodeAt Place Q)) (note : NoteAt) → seated_want s ≡ want → nat_lt s.steps limit_of_steps ≡ true
      → act_by (seated_play file) party (with_player (seated s) n) want ≡ Some (worked_player (seated t) left) → act_note party n want ≡ Some note
      → Steps (seated_play file) max party (with_player (seated s) n) (act_step (n.clock + 1) note left.posts) (with_player (seated t) (record left.state { clock = n.clock + 1 }))
  stepped want t left note wants few row noted = record {
    done = worked_player (seated t) left;
    row = not_worn (nat_lt s.steps limit_of_steps) (act_by (seated_play file) party (with_player (seated s) n) (seated_want s)) few
        ∙ ap (act_by (seated_play file) party (with_player (seated s) n)) wants ∙ row;
    posts = refl;
    clock = refl;
    event = refl;
    note = ap (act_note party (with_player (seated s) n)) wants ∙ seated_note want ∙ noted;
    after = refl;
  }

  -- its step
  pub seated_step : (want : Want Place) (taken : Option Msg) (left : Worked Place (NodeAt Place Q)) (note : NoteAt) → seated_want s ≡ want → nat_lt s.steps limit_of_steps ≡ true → Takes n want taken
      → act_by (silent (length file.parties)) party n want ≡ Some left → act_note party n want ≡ Some note
      → Steps (seated_play file) max party (with_player (seated s) n) (act_step (n.clock + 1) note left.posts) (with_player (seated (called s taken)) (record left.state { clock = n.clock + 1 }))
  seated_step want taken left note wants few t row noted = stepped want (called s taken) left note wants few (seated_row want taken left t row) noted
