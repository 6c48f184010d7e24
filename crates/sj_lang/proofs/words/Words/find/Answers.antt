use Rattle.std.proofs.Common.{◌≡◌, ℕ, List, Option, Some, None, IfSome, IfNone, ap, sym, ◌∙◌, subst}
use Rattle.sj_lang.specs.Words.{IsFirstIndex, IsAbsent, first_index}
use Rattle.sj_lang.proofs.WordLemmas.{indexed, IsIndexed}
use Rattle.sj_lang.proofs.words.Words.find.Goals as goal

found : (word : List ℕ) (words : List (List ℕ)) (o : Option ℕ) → IsIndexed word words o → IfSome o (IsFirstIndex word words)
found word words (Some n) h = h
found word words None h = tt

missed : (word : List ℕ) (words : List (List ℕ)) (o : Option ℕ) → IsIndexed word words o → IfNone o (IsAbsent word words)
missed word words (Some n) h = tt
missed word words None h = h

-- what the index answers, in the words that callers see
answered : (word : List ℕ) (inner words : List (List ℕ)) (o : Option ℕ) → o ≡ first_index word inner → inner ≡ words → IsIndexed word words o
answered word inner words o e f = subst (IsIndexed word words) (sym (e ∙ ap (first_index word) f)) (indexed word words)

pub returns-clause-found : goal.returns-clause-found
returns-clause-found c = found _ _ c.copied.result (answered _ _ _ _ (c.copied.ensures ∙ c.get.ensures.value ∙ c.self.invariant c.args.word.now) c.self.view_is)

pub returns-clause-none : goal.returns-clause-none
returns-clause-none c = missed _ _ c.copied.result (answered _ _ _ _ (c.copied.ensures ∙ c.get.ensures.value ∙ c.self.invariant c.args.word.now) c.self.view_is)
