-- What a lane reports of a frame fixes whether it is within the limits; and clocks of runs.
use Rattle.std.proofs.Common.{◌≡◌, ℕ, ◌+◌, List, [], ◌∷◌, length, refl, sym, ap, subst, ◌∙◌, arith}
use Rattle.std.specs.Prelude.{◌&&◌, nat_lt, if◌then◌else◌, None}
use Rattle.sj_rules.specs.Limits.{clock_end}
use Rattle.sj_rules.specs.Record.{BodyAt, Carry, Fin, Claim, Signal, Ack, Give, Open}
use Rattle.sj_rules.specs.Frames.{FrameAt, is_within, is_proper}
use Rattle.sj_rules.specs.Node.{Play, NodeAt, comes_or_opens, arrives}
use Rattle.sj_rules.specs.World.{WorldAt, Turn, Run}
use Rattle.sj_rules.specs.Within.{ClocksWithin}
use Rattle.sj_rules.specs.NodeRun.{frame_told, told_body}
use Rattle.sj_joined_lemmas.proofs.ToldLemmas.{same_comes}
use Rattle.sj_joined_lemmas.proofs.ClockLemmas.{step_within}

-- a reported frame has the same numbers
told_within : {P : Type 0} → (n : ℕ) (blank : P) (b : BodyAt P) → is_within n (told_body blank b) ≡ is_within n b
told_within n blank (Carry to c number taken msg) = refl
told_within n blank (Fin to c number) = refl
told_within n blank (Claim of) = refl
told_within n blank (Signal to c party taken) = refl
told_within n blank (Ack of c) = refl
told_within n blank (Give e resend) = refl
told_within n blank (Open sess) = refl

-- so it keeps the limits where the frame does
pub told_proper : {P : Type 0} → (n : ℕ) (blank : P) (f : FrameAt P) → is_proper n (frame_told blank f) ≡ is_proper n f
told_proper n blank f = ap (λ b. nat_lt f.clock clock_end && b) (told_within n blank f.body)

-- frames that are reported alike keep them both or neither
pub same_proper : {P : Type 0} → (n : ℕ) (blank : P) (f g : FrameAt P) → frame_told blank f ≡ frame_told blank g → is_proper n f ≡ is_proper n g
same_proper n blank f g e = sym (told_proper n blank f) ∙ ap (is_proper n) e ∙ told_proper n blank g

-- and do the same at a node, limits and all
pub same_arrives : {P Q : Type 0} → (fresh : P) (n : ℕ) (pick : ℕ → ℕ → ℕ) (blank : P) (m : NodeAt P Q) (origin : ℕ) (f g : FrameAt P) → frame_told blank f ≡ frame_told blank g →
    arrives fresh n pick m origin f ≡ arrives fresh n pick m origin g
same_arrives {P} fresh n pick blank m origin f g e =
    ap (λ b. if b then comes_or_opens fresh pick m origin f.body else None) (same_proper n blank f g e)
    ∙ ap (λ o. if is_proper n g then o else None) (same_comes fresh pick blank m origin f.body g.body (ap (λ (h : FrameAt P). h.body) e))

-- in a run clocks rise by one at most with each event
pub run_clocks : {P Q : Type 0} → (play : Play P Q) (turns : List Turn) (c : ℕ) (w v : WorldAt P Q) → ClocksWithin c w → Run play w turns v → ClocksWithin (c + length turns) v
run_clocks {P} {Q} play [] c w v within run =
    subst (λ (u : WorldAt P Q). ClocksWithin (c + 0) u) run (let same : c + 0 ≡ c = omega arith in rw same within)
run_clocks play (t ∷ ts) c w v within run =
    let step = run.1 in
    let rest : ClocksWithin (c + 1 + length ts) v = run_clocks play ts (c + 1) run.0 v (step_within play step.0 c w run.0 t.party t.event within step.2) run.2 in
    let same : c + 1 + length ts ≡ c + length (t ∷ ts) = omega arith in
    subst (λ k. ClocksWithin k v) same rest
