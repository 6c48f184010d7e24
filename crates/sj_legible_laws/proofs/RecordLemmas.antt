-- A node's records and what is offered to it stay legible where what is put there is.
use Rattle.std.proofs.Common.{◌≡◌, ℕ, ◌==◌, Bool, true, false, cond, List, Option, Some, None, refl, sym, subst}
use Rattle.std.specs.List.{AllByRecursion}
use Rattle.std.proofs.lemmas.Bool.{eqb-true}
use Rattle.sj_base.specs.declared.EndId.{EndId}
use Rattle.sj_lang.specs.FileAt.{FileAt}
use Rattle.sj_rules.specs.Record.{MainAt, OldAt, is_same_end}
use Rattle.sj_rules.specs.Node.{NodeAt, with_main, with_old, with_offers}
use Rattle.sj_rules_laws.proofs.WithinRowLemmas.{by_some}
use Rattle.sj_legible_laws.proofs.LegibleParts.{MainTold, OldTold, OfferTold, NodeTold}

module _ {P Q : Type 0} (file : FileAt) (Knows : Q → Type 0) where
  put_main : (m : NodeAt P Q) (e : EndId) (r : Option (MainAt P)) → NodeTold file Knows m → ((x : MainAt P) → r ≡ Some x → MainTold file x) → NodeTold file Knows (with_main e r m)
  put_main m e r all new = record { program = all.program; mains = λ d x h. by d x (is_same_end d e) h; olds = all.olds; offers = all.offers }
    where
      by : (d : EndId) (x : MainAt P) (b : Bool) → cond b r (m.main d) ≡ Some x → MainTold file x
      by d x true h = new x h
      by d x false h = all.mains d x h

  put_old : (m : NodeAt P Q) (e : EndId) (r : Option (OldAt P)) → NodeTold file Knows m → ((x : OldAt P) → r ≡ Some x → OldTold file x) → NodeTold file Knows (with_old e r m)
  put_old m e r all new = record { program = all.program; mains = all.mains; olds = λ d x h. by d x (is_same_end d e) h; offers = all.offers }
    where
      by : (d : EndId) (x : OldAt P) (b : Bool) → cond b r (m.old d) ≡ Some x → OldTold file x
      by d x true h = new x h
      by d x false h = all.olds d x h

  pub put_offers : (m : NodeAt P Q) (q : ℕ) (sessions : List ℕ) → NodeTold file Knows m → AllByRecursion (OfferTold file q) sessions → NodeTold file Knows (with_offers q sessions m)
  put_offers m q sessions all new = record { program = all.program; mains = all.mains; olds = all.olds; offers = λ from. by from (from == q) refl }
    where
      by : (from : ℕ) (b : Bool) → (from == q) ≡ b → AllByRecursion (OfferTold file from) (cond b sessions (m.offers from))
      by from true is = subst (λ (p : ℕ). AllByRecursion (OfferTold file p) sessions) (sym (eqb-true from q is)) new
      by from false is = all.offers from

  pub main_of : (m : NodeAt P Q) (e : EndId) (r : MainAt P) → NodeTold file Knows m → MainTold file r → NodeTold file Knows (with_main e (Some r) m)
  main_of m e r all new = put_main m e (Some r) all (λ x h. by_some (MainTold file) r x h new)

  pub no_main : (m : NodeAt P Q) (e : EndId) → NodeTold file Knows m → NodeTold file Knows (with_main e None m)
  no_main m e all = put_main m e None all (λ x h. cc)

  pub old_of : (m : NodeAt P Q) (e : EndId) (r : OldAt P) → NodeTold file Knows m → OldTold file r → NodeTold file Knows (with_old e (Some r) m)
  old_of m e r all new = put_old m e (Some r) all (λ x h. by_some (OldTold file) r x h new)

  pub no_old : (m : NodeAt P Q) (e : EndId) → NodeTold file Knows m → NodeTold file Knows (with_old e None m)
  no_old m e all = put_old m e None all (λ x h. cc)
