-- The last act of a log that went on.
use Rattle.std.proofs.Common.{◌≡◌, ◌∙◌, List, [], ◌∷◌, ◌++◌, Option, Some, None, refl, ap}
use Rattle.sj_rules.specs.Log.{EntryAt, NoteAt}
use Rattle.sj_seat.specs.Logged.{last_act, later_of, note_if_act}

later_twice : (a b c : Option NoteAt) → later_of (later_of a b) c ≡ later_of a (later_of b c)
later_twice None b c = refl
later_twice (Some n) b c = refl

-- the last act of two logs
pub last_later : (xs ys : List EntryAt) → last_act (xs ++ ys) ≡ later_of (last_act ys) (last_act xs)
last_later [] ys = none_later (last_act ys)
  where
    none_later : (o : Option NoteAt) → o ≡ later_of o None
    none_later None = refl
    none_later (Some n) = refl
last_later (x ∷ xs) ys = ap (λ o. later_of o (note_if_act x.event x.note)) (last_later xs ys) ∙ later_twice (last_act ys) (last_act xs) (note_if_act x.event x.note)
