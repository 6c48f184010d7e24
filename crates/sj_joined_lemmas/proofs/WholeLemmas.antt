-- Which world it is to which the joined logs of parties lead, where none lost a frame and no Give
-- is on its way. It has each worker's node, and in each lane what waits and then the outbox.
use Rattle.std.proofs.Common.{◌≡◌, ℕ, ◌<◌, ◌≤◌, Bool, true, false, List, [], ◌∷◌, ◌++◌, refl, sym, ap, ◌∙◌, arith}
use Rattle.std.specs.Prelude.{nat_lt}
use Rattle.std.specs.List.{AllByRecursion}
use Rattle.std.proofs.lemmas.Bool.Decides.{nat_tests}
use Rattle.std.proofs.lemmas.List.{append_cancel_left}
use mathlib.Core.Path.{fun_ext}
use Rattle.sj_rules.specs.Node.{Play, NodeAt}
use Rattle.sj_rules.specs.Frames.{FrameAt, IsNoGive}
use Rattle.sj_rules.specs.World.{WorldAt}
use Rattle.sj_rules.specs.Record.{BodyAt, Carry, Fin, Claim, Signal, Ack, Give, Open}
use Rattle.sj_rules.specs.Log.{LineAt, IsJoined, logs_below}
use Rattle.sj_rules.specs.NodeRun.{frame_told, told_body, told_frames}
use Rattle.sj_rules.specs.Joined.{PartiesWork, WorkerAt}
use Rattle.sj_joined_lemmas.specs.Whole.{IsLeft}
use Rattle.sj_joined_lemmas.proofs.BeyondLemmas.{all_to_beyond, node_beyond, none_from_beyond}
use Rattle.sj_joined_lemmas.proofs.JoinedRunLemmas.{joined_run, last_world}

-- lanes report all of a frame that is no Give
same_body : {P : Type 0} (blank : P) (a b : BodyAt P) → IsNoGive b → told_body blank a ≡ told_body blank b → a ≡ b
same_body blank (Give e r) (Carry to conn number taken msg) free is = absurd (cc is)
same_body blank (Give e r) (Fin to conn number) free is = absurd (cc is)
same_body blank (Give e r) (Claim of) free is = absurd (cc is)
same_body blank (Give e r) (Signal to conn party taken) free is = absurd (cc is)
same_body blank (Give e r) (Ack of conn) free is = absurd (cc is)
same_body blank (Give e r) (Open sess) free is = absurd (cc is)
same_body blank (Carry to conn number taken msg) (Give e r) free is = absurd free
same_body blank (Fin to conn number) (Give e r) free is = absurd free
same_body blank (Claim of) (Give e r) free is = absurd free
same_body blank (Signal to conn party taken) (Give e r) free is = absurd free
same_body blank (Ack of conn) (Give e r) free is = absurd free
same_body blank (Open sess) (Give e r) free is = absurd free
same_body blank (Give e r) (Give f s) free is = absurd free
same_body blank (Carry to conn number taken msg) (Carry to' conn' number' taken' msg') free is = is
same_body blank (Carry to conn number taken msg) (Fin to' conn' number') free is = is
same_body blank (Carry to conn number taken msg) (Claim of) free is = is
same_body blank (Carry to conn number taken msg) (Signal to' conn' party' taken') free is = is
same_body blank (Carry to conn number taken msg) (Ack of conn') free is = is
same_body blank (Carry to conn number taken msg) (Open sess) free is = is
same_body blank (Fin to conn number) (Carry to' conn' number' taken' msg') free is = is
same_body blank (Fin to conn number) (Fin to' conn' number') free is = is
same_body blank (Fin to conn number) (Claim of) free is = is
same_body blank (Fin to conn number) (Signal to' conn' party' taken') free is = is
same_body blank (Fin to conn number) (Ack of conn') free is = is
same_body blank (Fin to conn number) (Open sess) free is = is
same_body blank (Claim of) (Carry to' conn' number' taken' msg') free is = is
same_body blank (Claim of) (Fin to' conn' number') free is = is
same_body blank (Claim of) (Claim of') free is = is
same_body blank (Claim of) (Signal to' conn' party' taken') free is = is
same_body blank (Claim of) (Ack of' conn') free is = is
same_body blank (Claim of) (Open sess) free is = is
same_body blank (Signal to conn party taken) (Carry to' conn' number' taken' msg') free is = is
same_body blank (Signal to conn party taken) (Fin to' conn' number') free is = is
same_body blank (Signal to conn party taken) (Claim of) free is = is
same_body blank (Signal to conn party taken) (Signal to' conn' party' taken') free is = is
same_body blank (Signal to conn party taken) (Ack of conn') free is = is
same_body blank (Signal to conn party taken) (Open sess) free is = is
same_body blank (Ack of conn) (Carry to' conn' number' taken' msg') free is = is
same_body blank (Ack of conn) (Fin to' conn' number') free is = is
same_body blank (Ack of conn) (Claim of') free is = is
same_body blank (Ack of conn) (Signal to' conn' party' taken') free is = is
same_body blank (Ack of conn) (Ack of' conn') free is = is
same_body blank (Ack of conn) (Open sess) free is = is
same_body blank (Open sess) (Carry to' conn' number' taken' msg') free is = is
same_body blank (Open sess) (Fin to' conn' number') free is = is
same_body blank (Open sess) (Claim of) free is = is
same_body blank (Open sess) (Signal to' conn' party' taken') free is = is
same_body blank (Open sess) (Ack of conn) free is = is
same_body blank (Open sess) (Open sess') free is = is

same_frame : {P : Type 0} (blank : P) (a b : FrameAt P) → IsNoGive b.body → frame_told blank a ≡ frame_told blank b → a ≡ b
same_frame blank a b free is =
    let clock : a.clock ≡ b.clock = ap (λ f. f.clock) is in
    let body : a.body ≡ b.body = same_body blank a.body b.body free (ap (λ f. f.body) is) in
    λ i. record { clock = clock i; body = body i }

pub same_lane : {P : Type 0} (blank : P) (xs ys : List (FrameAt P)) → AllByRecursion (λ f. IsNoGive f.body) ys → told_frames blank xs ≡ told_frames blank ys → xs ≡ ys
same_lane blank [] [] free is = refl
same_lane blank [] (b ∷ ys) free is = absurd (cc is)
same_lane blank (a ∷ xs) [] free is = absurd (cc is)
same_lane blank (a ∷ xs) (b ∷ ys) free is =
    let first : frame_told blank a ≡ frame_told blank b = cc is in
    let rest : told_frames blank xs ≡ told_frames blank ys = cc is in
    let one : a ≡ b = same_frame blank a b free.0 first in
    let more : xs ≡ ys = same_lane blank xs ys free.1 rest in
    λ i. one i ∷ more i

module _ {P Q : Type 0} (play : Play P Q) (pick : ℕ → ℕ → ℕ) (blank : P) (n : ℕ) (start : WorldAt P Q) (workers : ℕ → WorkerAt P Q)
    (lost : ℕ → ℕ → List (FrameAt P)) (all : PartiesWork play pick blank n start workers lost)
    (lines : List LineAt) (joined : IsJoined (logs_below (λ q. (workers q).log) n) lines)
    (v : WorldAt P Q) (left : IsLeft blank n start workers lost v) where
  abbrev last : WorldAt P Q
  last = last_world play pick blank n start workers lost all lines joined

  node_same : (p : ℕ) → last.nodes p ≡ v.nodes p
  node_same p = by (nat_lt p n) refl
    where
      by : (b : Bool) → nat_lt p n ≡ b → last.nodes p ≡ v.nodes p
      by true e =
          let lt : p < n = grind (arith, nat_tests) in
          (joined_run play pick blank n start workers lost all lines joined).nodes p lt ∙ sym (left.nodes p lt)
      by false e =
          let le : n ≤ p = grind (arith, nat_tests) in
          node_beyond play pick blank n start workers lost all lines joined p le ∙ sym (left.others p le)

  -- what waits is what was handed over
  lane_between : (p q : ℕ) → p < n → q < n → told_frames blank (last.lanes p q) ≡ told_frames blank (v.lanes p q)
  lane_between p q lt mt =
      let l = (joined_run play pick blank n start workers lost all lines joined).lanes p q lt mt in
      let b = left.between p q lt mt in
      let waits : l.waits ≡ b.rest = append_cancel_left ((workers q).popped p) l.waits b.rest (sym l.pushed ∙ b.pushed) in
      l.lane ∙ ap (λ fs. (fs ++ l.waits) ++ (workers p).box q) (left.none p q lt mt) ∙ ap (λ fs. fs ++ (workers p).box q) waits ∙ sym b.lane

  lane_same : (p q : ℕ) → last.lanes p q ≡ v.lanes p q
  lane_same p q = by (nat_lt p n) (nat_lt q n) refl refl
    where
      by : (b c : Bool) → nat_lt p n ≡ b → nat_lt q n ≡ c → last.lanes p q ≡ v.lanes p q
      by true true i j =
          let lt : p < n = grind (arith, nat_tests) in
          let mt : q < n = grind (arith, nat_tests) in
          same_lane blank (last.lanes p q) (v.lanes p q) (left.no_give p q lt) (lane_between p q lt mt)
      by true false i j =
          let lt : p < n = grind (arith, nat_tests) in
          let le : n ≤ q = grind (arith, nat_tests) in
          same_lane blank (last.lanes p q) (v.lanes p q) (left.no_give p q lt) (all_to_beyond play pick blank n start workers lost all lines joined p q lt le ∙ sym (left.beyond p q lt le))
      by false c i j =
          let le : n ≤ p = grind (arith, nat_tests) in
          none_from_beyond play pick blank n start workers lost all lines joined p q le ∙ sym (left.empty p q le)

  -- the joined logs lead to that world
  pub is_whole : last ≡ v
  is_whole =
      let nodes : last.nodes ≡ v.nodes = fun_ext node_same in
      let lanes : last.lanes ≡ v.lanes = fun_ext (λ p. fun_ext (lane_same p)) in
      λ i. record { nodes = nodes i; lanes = lanes i }
