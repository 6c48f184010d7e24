-- What a kept world promises of each end.
use Rattle.std.proofs.Common.{◌<◌, subst, arith}
use Rattle.std.specs.Prelude.{Bool, ◌⊎◌}
use Rattle.sj_base.specs.declared.EndId.{EndId}
use Rattle.sj_rules.specs.Record.{other_end}
use Rattle.sj_rules.specs.World.{WorldAt}
use Rattle.sj_rules.specs.Seat.{Side}
use Rattle.sj_rules.specs.Shown.{Shows}
use Rattle.sj_rules.specs.PlainSide.{PlainAt, untaken_of}
use Rattle.sj_rules.specs.Flowing.{IsFlowing, IsOwed}
use Rattle.sj_rules.specs.Numbers.{Pace}
use Rattle.sj_rules.specs.Invariant.{IsSound}
use Rattle.sj_rules.specs.Linked.{IsKept}
use Rattle.sj_world_lemmas.proofs.SwapLemmas.{other_other}
use Rattle.sj_world_lemmas.proofs.OutcomeLemmas.{sound_at}
use Rattle.sj_world_lemmas.proofs.StandsLemmas.{stands}

module _ {P Q : Type 0} (IsOver : P → Type 0) (binds : Q → EndId → Bool) (w : WorldAt P Q) (plain : PlainAt P Q) (kept : IsKept IsOver binds w plain) where
  -- an end
  abbrev side : EndId → Side P
  side e = kept.sessions.sides e

  -- each direction is flowing or owed
  pub flowing_or_owed : (e : EndId) → e.side < 2 → IsFlowing w (side (other_end e)) (side e) (untaken_of (plain.sides (other_end e)) (plain.sides e)) ⊎ IsOwed w (side (other_end e)) (side e) (plain.sides e).taken
  flowing_or_owed e low =
      let s : Side P = side (other_end e) in
      let r : Side P = side e in
      let sound : (pace : Pace) × IsSound IsOver pace (plain.sides (other_end e)) (plain.sides e) s r = sound_at IsOver w plain.sides kept.sessions e low in
      let shown : Shows w r.seat s = subst (λ d. Shows w (side d).seat s) (other_other e low) (kept.sessions.shows (other_end e) (omega arith)) in
      stands w s.id r.id s.place r.place s.old s.live r.old r.live (plain.sides (other_end e)) (plain.sides e) IsOver sound.0 s.seat r.seat sound.1 (kept.sessions.shows e low) shown
