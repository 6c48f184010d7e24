-- The rules by which a line is refused, and the first that applies.
use Rattle.std.specs.Prelude.{ℕ, Bool, true, false, not, ◌||◌, nat_le, is_some, is_none, List, [], ◌∷◌, Option, Some, None, option_map, unwrap_or, if◌then◌else◌}
use Rattle.std.specs.Str.{bytes_eq}
use Rattle.sj_base.specs.declared.EndId.{EndId}
use Rattle.sj_base.specs.declared.Msg.{Msg}
use Rattle.sj_lang.specs.After.{at_label}
use Rattle.sj_lang.specs.MeetTests.{stands_for}
use Rattle.sj_lang.specs.Place.{Carried, Place, boolean, choice, done, int, message, repeat, session, text}
use Rattle.sj_lang.specs.declared.proto.Way.TheVariants.{Into, Out}
use Rattle.sj_semantics.specs.Ends.{end_at, limit_of_hops, next_for}
use Rattle.sj_talk.specs.Forms as forms
use Rattle.sj_talk.specs.Forms.{FormAt, ValueAt}
use Rattle.sj_talk.specs.Names.{end_named, label_number}
use Rattle.sj_talk.specs.TalkWorld.{TalkWorld}

-- so many lines are accepted at most
abbrev pub limit_of_lines : ℕ
limit_of_lines = 10000

-- ---- places

-- no session is carried
abbrev pub is_scalar : Carried → Bool
is_scalar (session s) = false
is_scalar _ = true

-- it begins with the sending of a value
abbrev pub sends_value : Place → Bool
sends_value (message Out k next) = is_scalar k
sends_value _ = false

-- it begins with the sending of an end
abbrev pub sends_end : Place → Bool
sends_end (message Out (session s) next) = true
sends_end _ = false

-- it begins with a selection
abbrev pub selects : Place → Bool
selects (choice Out arms next) = true
selects _ = false

-- it begins with an outward loop
abbrev pub turns : Place → Bool
turns (repeat Out body next) = true
turns _ = false

-- it begins with the taking of a value, a branching or an inward loop
abbrev pub takes_no_end : Place → Bool
takes_no_end (message Into k next) = is_scalar k
takes_no_end (choice Into arms next) = true
takes_no_end (repeat Into body next) = true
takes_no_end _ = false

-- it begins with the taking of an end
abbrev pub takes_end : Place → Bool
takes_end (message Into (session s) next) = true
takes_end _ = false

-- it is empty
abbrev pub is_done : Place → Bool
is_done done = true
is_done _ = false

-- the value is of the kind that is next
abbrev pub is_next : Place → ValueAt → Bool
is_next (message w int next) (forms.number n) = true
is_next (message w boolean next) (forms.truth b) = true
is_next (message w text next) (forms.text t) = true
is_next _ _ = false

-- the label is one of the choice that is next
abbrev pub offers : Place → Option ℕ → Bool
offers (choice w arms next) (Some l) = is_some (at_label l arms)
offers _ _ = false

-- the place of the ends that are carried next
abbrev pub carried_next : Place → Place
carried_next (message w (session s) next) = s
carried_next _ = done

-- the first item alone
abbrev pub front_of : Place → Place
front_of done = done
front_of (message w k next) = message w k done
front_of (choice w arms next) = choice w arms done
front_of (repeat w body next) = repeat w body done

-- ---- of a talk world

-- no end is under the name
abbrev pub is_free : TalkWorld → List ℕ → Bool
is_free t x = is_none (end_named t.ends x)

-- the end under the name, where there is one
abbrev pub end_under : TalkWorld → List ℕ → EndId
end_under t x = unwrap_or (end_named t.ends x) (record { sess = 0; side = 0 })

-- its place
abbrev pub place_under : TalkWorld → List ℕ → Place
place_under t x = (end_at t.world.sessions (end_under t x)).place

-- the message that it can take next
abbrev pub head_under : TalkWorld → List ℕ → Option Msg
head_under t x = option_map (λ m. m.msg) (next_for t.world.sessions (end_under t x))

-- no further line is accepted
abbrev pub is_full : TalkWorld → Bool
is_full t = nat_le limit_of_lines t.lines

-- the end was delegated as often as it may be
abbrev pub is_worn : TalkWorld → List ℕ → Bool
is_worn t x = nat_le limit_of_hops (end_at t.world.sessions (end_under t x)).hops

-- ---- the rules, in their order, each with whether it applies

-- it has none of the forms
abbrev pub no_form : ℕ
no_form = 1

-- an end isn't bound
abbrev pub not_bound : ℕ
not_bound = 2

-- the place begins otherwise
abbrev pub begins_otherwise : ℕ
begins_otherwise = 3

-- the two names of `delegate` are one, the sent end's place is empty, or the new name is bound
abbrev pub wrong_end : ℕ
wrong_end = 4

-- another kind, a label outside the choice, or a place that doesn't stand for the carried one
abbrev pub wrong_kind : ℕ
wrong_kind = 5

-- so many lines were accepted, or the sent end was delegated so often
abbrev pub at_limit : ℕ
at_limit = 6

-- nothing is there to take
abbrev pub nothing_there : ℕ
nothing_there = 7

abbrev pub tests_of : TalkWorld → FormAt → List (ℕ × Bool)
tests_of t (forms.send x v) =
    (not_bound, is_free t x) ∷ (begins_otherwise, not (sends_value (place_under t x))) ∷ (wrong_kind, not (is_next (place_under t x) v)) ∷ (at_limit, is_full t) ∷ []
tests_of t (forms.select x l) =
    (not_bound, is_free t x) ∷ (begins_otherwise, not (selects (place_under t x)))
    ∷ (wrong_kind, not (offers (place_under t x) (label_number t.file l))) ∷ (at_limit, is_full t) ∷ []
tests_of t (forms.turn x more) = (not_bound, is_free t x) ∷ (begins_otherwise, not (turns (place_under t x))) ∷ (at_limit, is_full t) ∷ []
tests_of t (forms.delegate x y) =
    (not_bound, is_free t x || is_free t y) ∷ (begins_otherwise, not (sends_end (place_under t x))) ∷ (wrong_end, bytes_eq x y || is_done (place_under t y))
    ∷ (wrong_kind, not (stands_for (place_under t y) (carried_next (place_under t x)))) ∷ (at_limit, is_full t || is_worn t y) ∷ []
tests_of t (forms.take x) =
    (not_bound, is_free t x) ∷ (begins_otherwise, not (takes_no_end (place_under t x))) ∷ (at_limit, is_full t) ∷ (nothing_there, is_none (head_under t x)) ∷ []
tests_of t (forms.take_end x y) =
    (not_bound, is_free t x) ∷ (begins_otherwise, not (takes_end (place_under t x))) ∷ (wrong_end, not (is_free t y)) ∷ (at_limit, is_full t)
    ∷ (nothing_there, is_none (head_under t x)) ∷ []
tests_of t (forms.close x) = (not_bound, is_free t x) ∷ (begins_otherwise, not (is_done (place_under t x))) ∷ (at_limit, is_full t) ∷ []

-- the first rule that applies
abbrev pub first_rule : List (ℕ × Bool) → Option ℕ
first_rule [] = None
first_rule (r ∷ rs) = if r.1 then Some r.0 else first_rule rs

-- the first rule that refuses what a line says; where it has none of the forms, that is the first of all
abbrev pub refusal_of : TalkWorld → Option FormAt → Option ℕ
refusal_of t None = Some no_form
refusal_of t (Some f) = first_rule (tests_of t f)
