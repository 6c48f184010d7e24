-- A party that isn't ready has no act.
use Rattle.std.proofs.Common.{◌≡◌, ℕ, true, None, ap, sym, ◌∙◌}
use Rattle.std.proofs.lemmas.Bool.{false≢true}
use Rattle.sj_semantics.specs.declared.State.TheVariants as states
use Rattle.sj_semantics.specs.State.{is_at_limit, state_of}
use Rattle.sj_semantics.specs.World.{World, act_of}
use Rattle.sj_semantics_laws.proofs.RoundLemmas.{no_act, an_act, outcome_of}
use Rattle.sj_semantics_laws.proofs.StateLemmas.{act_is_ready}
use Rattle.sj_plain.specs.Rounds.{is_waiting}

idle_unready : (w : World) (p : ℕ) → (state_of w p ≡ states.Ready → ⊥) → act_of w p ≡ None
idle_unready w p unready = elim (outcome_of w p) [ no_act h ↦ h | an_act u h ↦ absurd (unready (act_is_ready w u p h)) ]

pub waiting_is_idle : (w : World) (p : ℕ) → is_waiting (state_of w p) ≡ true → act_of w p ≡ None
waiting_is_idle w p waits = idle_unready w p (λ ready. false≢true (sym (ap is_waiting ready) ∙ waits))

pub limit_is_idle : (w : World) (p : ℕ) → is_at_limit (state_of w p) ≡ true → act_of w p ≡ None
limit_is_idle w p limit = idle_unready w p (λ ready. false≢true (sym (ap is_at_limit ready) ∙ limit))

pub ended_is_idle : (w : World) (p : ℕ) → state_of w p ≡ states.Ended → act_of w p ≡ None
ended_is_idle w p ended = idle_unready w p (λ ready. let both : states.Ended ≡ states.Ready = sym ended ∙ ready in cc)

pub ruleset idle = (ended_is_idle, limit_is_idle, waiting_is_idle)
