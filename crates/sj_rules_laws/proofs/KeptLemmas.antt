-- What the invariant of the core says of a Held record: what it stands for.
use Rattle.std.proofs.Common.{◌≡◌, ℕ, ◌<◌, refl}
use Rattle.std.specs.Prelude.{Bool, true, false, if◌then◌else◌, Some, None}
use Rattle.sj_base.specs.declared.EndId.{EndId}
use Rattle.sj_rules.specs.Record.{HeldAt, Held, other_end}
use Rattle.sj_rules.specs.Opened.{opener_of, new_held}
use Rattle.sj_rules.specs.World.{WorldAt}
use Rattle.sj_rules.specs.PlainSide.{PlainAt, IsFront, untaken_of}
use Rattle.sj_rules.specs.Linked.{IsKept}
use Rattle.sj_rules.specs.Reading.{is_opening, reading, IsOpenKept}
use Rattle.sj_rules.specs.HeldStands.{HeldStands}
use Rattle.sj_world_lemmas.proofs.FlowLemmas.{untaken_front}
use Rattle.sj_world_lemmas.proofs.SeenLemmas.{here_held}

-- a Held record of an accepted end stands for its end in the plain world
pub kept_stands : {P Q : Type 0} → (IsOver : P → Type 0) (binds : Q → EndId → Bool) (w : WorldAt P Q) (plain : PlainAt P Q) → IsKept IsOver binds w plain
    → (p : ℕ) (e : EndId) (h : HeldAt P) → e.side < 2 → (plain.sides e).offered ≡ false → (w.nodes p).main e ≡ Some (Held h) → HeldStands plain e h
kept_stands IsOver binds w plain kept p e h lt accepted there =
    let here = here_held IsOver w plain.sides kept.sessions e lt p h there in
    let front = untaken_front here.pace e (plain.sides (other_end e)) (plain.sides e) (kept.sessions.sides (other_end e)).seat p h (kept.sessions.sides e).live here.sound.numbers here.sound.there.comes in
    record { place = here.sound.there.fits.1 accepted; hops = here.sound.there.fits.0.hops; rest = front.rest; waits = front.all }

-- a Held record is there in the reading too
pub held_read : {P Q : Type 0} → (IsOver : P → Type 0) (binds : Q → EndId → Bool) (blank : P) (w : WorldAt P Q) (plain : PlainAt P Q) → IsOpenKept IsOver binds blank w plain
    → (p : ℕ) (e : EndId) (h : HeldAt P) → (w.nodes p).main e ≡ Some (Held h) → ((reading blank w).nodes p).main e ≡ Some (Held h)
held_read {P} IsOver binds blank w plain kept p e h there = by (is_opening w p e) refl
  where
    by : (b : Bool) → is_opening w p e ≡ b → (if b then Some (Held (new_held e blank (opener_of e.sess))) else (w.nodes p).main e) ≡ Some (Held h)
    by true o = let none : (w.nodes p).main e ≡ None = kept.bare p e o in absurd (cc (none, there))
    by false o = there

pub open_kept_stands : {P Q : Type 0} → (IsOver : P → Type 0) (binds : Q → EndId → Bool) (blank : P) (w : WorldAt P Q) (plain : PlainAt P Q) → IsOpenKept IsOver binds blank w plain
    → (p : ℕ) (e : EndId) (h : HeldAt P) → e.side < 2 → (plain.sides e).offered ≡ false → (w.nodes p).main e ≡ Some (Held h) → HeldStands plain e h
open_kept_stands IsOver binds blank w plain kept p e h lt accepted there =
    kept_stands IsOver binds (reading blank w) plain kept.kept p e h lt accepted (held_read IsOver binds blank w plain kept p e h there)

-- what is untaken at a Held record, offered or not, is a prefix of what waits
pub open_untaken : {P Q : Type 0} → (IsOver : P → Type 0) (binds : Q → EndId → Bool) (blank : P) (w : WorldAt P Q) (plain : PlainAt P Q) → IsOpenKept IsOver binds blank w plain
    → (p : ℕ) (e : EndId) (h : HeldAt P) → e.side < 2 → (w.nodes p).main e ≡ Some (Held h) → IsFront h.untaken (untaken_of (plain.sides (other_end e)) (plain.sides e))
open_untaken IsOver binds blank w plain kept p e h lt there =
    let sessions = kept.kept.sessions in
    let here = here_held IsOver (reading blank w) plain.sides sessions e lt p h (held_read IsOver binds blank w plain kept p e h there) in
    untaken_front here.pace e (plain.sides (other_end e)) (plain.sides e) (sessions.sides (other_end e)).seat p h (sessions.sides e).live here.sound.numbers here.sound.there.comes
