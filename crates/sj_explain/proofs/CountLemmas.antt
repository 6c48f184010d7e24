-- What is known by later entries is known by all.
use Rattle.std.proofs.Common.{◌≡◌, suc, List, ◌∷◌, Option, Some, None, IfSome, subst, sym, arith}
use Rattle.sj_lang.specs.Term.{Term}
use Rattle.sj_explain.specs.declared.counts.Count.{Count}
use Rattle.sj_explain.specs.declared.counts.Entry.{Entry}
use Rattle.sj_explain.specs.Counts.{IsWorth}

pub later : (entries rest : List Entry) (entry : Entry) (term : Term) (found : Option Count) → entries ≡ entry ∷ rest → IfSome found (λ c. IsWorth rest term c.value) → IfSome found (λ c. IsWorth entries term c.value)
later entries rest entry term None is known = known
later entries rest entry term (Some c) is known = subst (λ (es : List Entry). IsWorth es term c.value) (sym is) (λ vars all. known vars (λ k d few. all (suc k) d (omega (arith, few))))
