-- The note of a party's next step in the plain world, as the rules see that world.
use Rattle.std.specs.Prelude.{ℕ, slice_get, Option, Some, None, option_map}
use Rattle.sj_rules.specs.Linked.{waiting_at}
use Rattle.sj_rules.specs.Log as notes
use Rattle.sj_rules.specs.Log.{NoteAt}
use Rattle.sj_rules.specs.Node as wanted
use Rattle.sj_rules.specs.Node.{Play, Want}
use Rattle.sj_rules.specs.Opened.{opened_number}
use Rattle.sj_rules.specs.PlainSide.{PlainAt}
use Rattle.sj_semantics.specs.World.{session_message}

-- of that step: a take's is of the message that waits, an accept's of the first session that was
-- opened from there
abbrev pub plain_note : {P Q : Type 0} → PlainAt P Q → ℕ → Want P → Option NoteAt
plain_note plain p wanted.ended = None
plain_note plain p wanted.local = Some notes.Local
plain_note plain p (wanted.sends e m) = Some (notes.Sent e m)
plain_note plain p (wanted.delegates c e) = Some (notes.Sent c (session_message e p))
plain_note plain p (wanted.takes e place) = option_map (λ m. notes.Took e m) (waiting_at plain e 0)
plain_note plain p (wanted.closes e) = Some (notes.Shut e)
plain_note plain p (wanted.requests place to) = Some (notes.Request (opened_number p (plain.requests p)) to)
plain_note plain p (wanted.accepts place from) = option_map (λ sess. notes.Accept sess from) (slice_get (plain.offers from p) 0)

-- of its program's next step
abbrev pub step_note : {P Q : Type 0} → Play P Q → PlainAt P Q → ℕ → Option NoteAt
step_note play plain p = plain_note plain p (play.wants (plain.programs p))
