-- What the cache of an end has, wherever the end lies.
use Rattle.std.specs.Prelude.{◌≡◌, ℕ, ◌≤◌, true, drop, length, Contains, Option, Some, None}
use Rattle.sj_base.specs.declared.EndId.{EndId}
use Rattle.sj_rules.specs.Record.{EndAt, Give, MainAt, Held, Closed, Expected, OldAt, Parked, Signalled}
use Rattle.sj_rules.specs.World.{WorldAt}
use Rattle.sj_rules.specs.PlainSide.{PlainSide}
use Rattle.sj_rules.specs.Shown.{bodies, is_give}
use Rattle.sj_rules.specs.Spots.{Spot, at_main, at_old, on_way, in_open}

-- the end in a main record; an Expected one has none
abbrev pub main_end : {P : Type 0} → Option (MainAt P) → Option (EndAt P)
main_end (Some (Held h)) = Some h.end
main_end (Some (Closed e)) = Some e
main_end (Some (Expected keeper place deferred)) = None
main_end None = None

-- the end in an old record
abbrev pub old_end : {P : Type 0} → Option (OldAt P) → Option (EndAt P)
old_end (Some (Parked e)) = Some e
old_end (Some (Signalled e to)) = Some e
old_end None = None

-- the world has this of the end at that spot
abbrev pub HasEnd : {P Q : Type 0} → WorldAt P Q → EndId → Spot → EndAt P → Type 0
HasEnd w id (at_main p) e = main_end ((w.nodes p).main id) ≡ Some e
HasEnd w id (at_old p) e = old_end ((w.nodes p).old id) ≡ Some e
HasEnd w id (on_way from to) e = (resend : Option ℕ) × Contains (bodies (w.lanes from to)) (Give e resend) × (is_give id (Give e resend) ≡ true)
HasEnd w id (in_open from to) e = ⊥

-- x is what the plain world knows of the other end, y of this one. What was taken there was sent
-- here. The cache has all that was sent from a base on, up to which everything was taken
pub record CacheFits {P : Type 0} (x y : PlainSide P) (e : EndAt P) : Type 0 where
  pub base : e.base ≤ x.taken
  pub fewer : x.taken ≤ e.sent
  pub sent : e.sent ≡ length y.sent
  pub taken : e.taken ≡ y.taken
  pub cache : e.cache ≡ drop e.base y.sent
