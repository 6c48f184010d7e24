-- Talk worlds that are guarded: the others' programs fit, sessions are balanced, and the ends that the played party holds are claimed by nobody else.
use Rattle.std.proofs.Common.{◌≡◌, ℕ, zero, suc, ◌+◌, ◌≤◌, Some, sum_by, refl, arith}
use Rattle.sj_base.specs.declared.EndId.{EndId}
use Rattle.sj_lang.specs.FileAt.{FileAt}
use Rattle.sj_semantics.specs.Program.{Program}
use Rattle.sj_semantics.specs.World.{World, act_of}
use Rattle.sj_semantics_laws.specs.Unshared.{IsToCome, bindings_of, claims_on}
use Rattle.sj_semantics_laws.proofs.KeepLemmas.{claims_on-act, come_before}
use Rattle.sj_headline_laws.proofs.SoundLemmas.{act_keeps_sound}
use Rattle.sj_headline_laws.proofs.WorldLemmas.{Sound}
use Rattle.sj_talk.specs.TalkWorld.{TalkWorld, with_world}
use Rattle.sj_talk.proofs.HeldLemmas.{holds}

-- in how many ways an end is bound at the others
abbrev pub bound_in : EndId → World → ℕ
bound_in f w = sum_by (λ (g : Program). bindings_of f g.ends) w.parties

pub record Guarded (file : FileAt) (t : TalkWorld) : Type 0 where
  pub sound : Sound file t.world
  pub once : (e : EndId) → claims_on e t.world + holds e t.ends ≤ 1
  pub apart : (e : EndId) → IsToCome t.world e → holds e t.ends ≡ 0

-- ---- acts of the others

once_by : (n a b : ℕ) → (n ≡ 0 → a ≤ 1) → (1 ≤ n → a ≤ b) → b + n ≤ 1 → a + n ≤ 1
once_by zero a b none some le = omega (arith, none refl)
once_by (suc n) a b none some le = omega (arith, some (omega arith), le)

pub act_keeps_guarded : (file : FileAt) (t : TalkWorld) (v : World) (q : ℕ) → Guarded file t → act_of t.world q ≡ Some v → Guarded file (with_world t v)
act_keeps_guarded file t v q g h =
    let sound = act_keeps_sound file t.world v q g.sound h in
    record {
      sound = sound;
      once = λ e. once_by (holds e t.ends) (claims_on e v) (claims_on e t.world) (λ none. sound.unshared.once e)
          (λ some. claims_on-act t.world v q e (λ come. absurd (omega (arith, some, g.apart e come))) h) (g.once e);
      apart = λ e come. g.apart e (come_before t.world v q e g.sound.unshared h come);
    }
