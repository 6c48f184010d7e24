-- Every event of a core run keeps the invariant; and so does a whole run, beside a plain one.
use Rattle.std.proofs.Common.{◌≡◌, ℕ, ◌<◌, List, ◌∷◌, subst, arith}
use Rattle.std.specs.Prelude.{Bool, true, false, Some}
use Rattle.sj_base.specs.declared.EndId.{EndId}
use Rattle.sj_rules.specs.PlainChanges.{CountsHold}
use Rattle.sj_rules.specs.Record.{other_end}
use Rattle.sj_rules.specs.Rows.{IsPick}
use Rattle.sj_rules.specs.Opened.{is_open}
use Rattle.sj_rules.specs.Node.{Play}
use Rattle.sj_rules.specs.Frames.{FrameAt, is_proper}
use Rattle.sj_rules.specs.World.{WorldAt, Deliver, happens}
use Rattle.sj_rules.specs.PlainSide.{PlainAt, CountsFit}
use Rattle.sj_rules.specs.Linked.{IsKept}
use Rattle.sj_world_lemmas.proofs.SwapLemmas.{other_other}
use Rattle.sj_world_lemmas.proofs.HandoverLaws.{DeliveryLaws}
use Rattle.sj_world_lemmas.proofs.KeptLemmas.{delivery_keeps}
use Rattle.sj_world_lemmas.proofs.HandoverLawsProved.{delivery_laws}

-- the counts of the two ends of a session
counts_back : {P Q : Type 0} → (plain : PlainAt P Q) → CountsHold plain → (e : EndId) → e.side < 2 → CountsFit (plain.sides e) (plain.sides (other_end e))
counts_back plain counts e low = subst (λ d. CountsFit (plain.sides d) (plain.sides (other_end e))) (other_other e low) (counts (other_end e) (omega arith))

-- the laws of deliveries hold of each end
laws_hold : {P Q : Type 0} → (IsOver : P → Type 0) (plain : PlainAt P Q) → CountsHold plain → (pick : ℕ → ℕ → ℕ) → IsPick pick → (e : EndId) → e.side < 2 → DeliveryLaws IsOver pick (plain.sides (other_end e)) (plain.sides e)
laws_hold IsOver plain counts pick picks e low = delivery_laws IsOver pick picks (plain.sides (other_end e)) (plain.sides e) (counts e low) (counts_back plain counts e low)

module _ {P Q : Type 0} (IsOver : P → Type 0) (binds : Q → EndId → Bool) (play : Play P Q) where
  -- the front frame of each lane fits a row where it is within the limits, with each choice of
  -- bases, and the world stays kept
  pub front_always_fits : (pick : ℕ → ℕ → ℕ) → IsPick pick → (w : WorldAt P Q) (plain : PlainAt P Q) → IsKept IsOver binds w plain → CountsHold plain →
      (q at : ℕ) (f : FrameAt P) (rest : List (FrameAt P)) → w.lanes q at ≡ f ∷ rest → is_open f.body ≡ false → is_proper play.parties f ≡ true →
      (v : WorldAt P Q) × (happens play pick w at (Deliver q) ≡ Some v) × IsKept IsOver binds v plain
  front_always_fits pick picks w plain kept counts q at f rest front unopened proper = delivery_keeps IsOver binds play pick w plain kept (laws_hold IsOver plain counts pick picks) q at f rest front unopened proper
