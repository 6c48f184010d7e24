-- How many parties and sessions there are in a run.
use Rattle.std.proofs.Common.{◌≡◌, ℕ, ◌≤◌, List, [], ◌∷◌, length, Some, refl, ◌∙◌, subst, arith}
use Rattle.std.proofs.lemmas.List.{length-map}
use Rattle.sj_base.specs.declared.EndId.{EndId}
use Rattle.sj_lang.specs.FileAt.{FileAt}
use Rattle.sj_semantics.specs.Ends.{Session}
use Rattle.sj_semantics.specs.Run.{IsRun, after_acts}
use Rattle.sj_semantics.specs.World.{session_of, start_of, World, act_of}
use Rattle.sj_semantics.specs.Uses.{Use, after_uses, altered_session, on_side, end_after}
use Rattle.sj_semantics_laws.proofs.AlteredLemmas.{length-altered, length-altered_session_le}
use Rattle.sj_semantics_laws.proofs.CommuteLemmas.{doing_of}
use Rattle.sj_semantics_laws.proofs.RunLemmas.{between}
use Rattle.sj_plain.proofs.BeginLemmas.{length-start}

length-uses : (p : ℕ) (us : List (EndId × Use)) (zs : List Session) → length zs ≤ length (after_uses p us zs)
length-uses p [] zs = omega arith
length-uses p (u ∷ us) zs = omega (arith, length-uses p us (altered_session zs u.0.sess (on_side u.0.side (end_after p u.1))), length-altered_session_le zs u.0.sess (on_side u.0.side (end_after p u.1)))

-- as many parties, and as many sessions or more
abbrev SameCounts : World → World → Type 0
SameCounts w v = (length v.parties ≡ length w.parties) × (length w.sessions ≤ length v.sessions)

counts-act : (w v : World) (p : ℕ) → act_of w p ≡ Some v → SameCounts w v
counts-act w v p h = let a = doing_of w p v h in subst (SameCounts w) a.result (length-altered w.parties p (λ g. a.change.program), length-uses p a.change.uses w.sessions)

counts-acts : (w v : World) (ps : List ℕ) → after_acts w ps ≡ Some v → SameCounts w v
counts-acts w v [] h = subst (SameCounts w) (let it : w ≡ v = cc in it) (refl, omega arith)
counts-acts w v (p ∷ ps) h =
    let m = between (λ x. after_acts x ps) (act_of w p) v h in
    let last = counts-acts m.world v ps m.afterwards in
    let first = counts-act w m.world p m.before in (last.0 ∙ first.0, omega (arith, first.1, last.1))

-- in a run of a file there are its parties, and a session for each connection at least
pub counts : (file : FileAt) (ps : List ℕ) (w : World) → IsRun file ps w → (length w.parties ≡ length file.parties) × (length file.connects ≤ length w.sessions)
counts file ps w run = let same = counts-acts (start_of file) w ps run in (same.0 ∙ length-start file, omega (arith, same.1, length-map file.connects (session_of file)))
