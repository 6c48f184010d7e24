-- What a line does, by what was found of it.
use Rattle.std.proofs.Common.{◌≡◌, ℕ, List, Option, Some, None, refl, ap, sym, ◌∙◌, subst, inl, inr}
use Rattle.sj_talk.specs.Doing.{IsUnsaid, after_by_rule, after_form, after_line, answer_to, said_by_rule, said_of}
use Rattle.sj_talk.specs.Forms.{FormAt, form_of}
use Rattle.sj_talk.specs.Rules.{refusal_of}
use Rattle.sj_talk.specs.TalkWorld.{OnlyOthers, OnlyTexts, TalkWorld, others_acted}
use Rattle.sj_talk.specs.declared.said.Said.TheVariants as said
use Rattle.sj_talk.proofs.SettledLemmas.{settled_leads}

-- a line that a rule refuses
pub line_refused : (t : TalkWorld) (line : List ℕ) (o : Option FormAt) (n : ℕ) → o ≡ form_of line → Some n ≡ refusal_of t o
    → (said.Refused n ≡ said_of t line) × (t ≡ after_line t line)
line_refused t line o n is refused = (
  sym (ap (λ x. said_by_rule t x (refusal_of t x)) (sym is) ∙ ap (said_by_rule t o) (sym refused)),
  sym (ap (λ x. after_by_rule t x (refusal_of t x)) (sym is) ∙ ap (after_by_rule t o) (sym refused)),
)

-- a line that no rule refuses
pub line_done : (t : TalkWorld) (line : List ℕ) (f : FormAt) → Some f ≡ form_of line → None ≡ refusal_of t (Some f)
    → (answer_to t f ≡ said_of t line) × (after_form t f ≡ after_line t line)
line_done t line f is allowed = (
  sym (ap (λ x. said_by_rule t x (refusal_of t x)) (sym is) ∙ ap (said_by_rule t (Some f)) (sym allowed)),
  sym (ap (λ x. after_by_rule t x (refusal_of t x)) (sym is) ∙ ap (after_by_rule t (Some f)) (sym allowed)),
)

-- the others acted until none can
pub all_others : (t : TalkWorld) → OnlyOthers t (others_acted t)
all_others t = let l = settled_leads t.world in record { acts = l.acts; leads = l.leads; rest = refl }

unsaid_then : (t v : TalkWorld) (line : List ℕ) → OnlyTexts (others_acted t) (after_line (others_acted t) line).file.texts v → IsUnsaid t line v
unsaid_then t v line (inl same) = inl (subst (OnlyOthers t) (sym same) (all_others t))
unsaid_then t v line (inr noted) = inr noted

-- in the world that the others' acts left
pub unsaid_by : (t u v : TalkWorld) (line : List ℕ) → u ≡ others_acted t → OnlyTexts u (after_line u line).file.texts v → IsUnsaid t line v
unsaid_by t u v line now h = unsaid_then t v line (subst (λ (x : TalkWorld). OnlyTexts x (after_line x line).file.texts v) now h)
