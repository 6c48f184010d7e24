-- The nodes of workers, taken out of them in order, without their logs.
use Rattle.std.proofs.Common.{◌≡◌, ◌∙◌, ℕ, zero, suc, ◌+◌, List, [], ◌∷◌, ◌++◌, length, Some, inl, inr, refl, sym, ap, subst, length-append}
use Rattle.std.specs.Prelude.{slice_get}
use Rattle.sj_core.proofs.FirstLemmas.{behind}
use Rattle.sj_node.specs.declared.node.Node.{Node}
use Rattle.sj_node.specs.Node.{log_of}
use Rattle.sj_node.specs.Reading.{TakesEntry}
use Rattle.sj_work.specs.declared.worker.Worker.{Worker}
use Rattle.sj_work.specs.Views.{node_of}
use Rattle.sj_run.specs.Handed.{AreLogless}

ahead : {X : Type 0} (xs : List X) (x : X) (p : ℕ) (y : X) → slice_get xs p ≡ Some y → slice_get (xs ++ x ∷ []) p ≡ Some y
ahead [] x p y is = absurd (cc is)
ahead (z ∷ xs) x zero y is = is
ahead (z ∷ xs) x (suc p) y is = ahead xs x p y is

last_is : {X : Type 0} (xs : List X) (x : X) → slice_get (xs ++ x ∷ []) (length xs) ≡ Some x
last_is [] x = refl
last_is (z ∷ xs) x = last_is xs x

-- with the next worker's
pub one_logless : {O I : Type 0} (ws : List (Worker O I)) (ns : List Node) (w : Worker O I) (n : Node) → AreLogless ws ns → TakesEntry (node_of w) n → log_of n ≡ []
    → AreLogless (ws ++ w ∷ []) (ns ++ n ∷ [])
one_logless ws ns w n so taken empty = record {
  count = length-append ns (n ∷ []) ∙ ap (λ k. k + 1) so.count ∙ sym (length-append ws (w ∷ []));
  each = λ p m is.
      elim (behind ns n p m is) [
        | inl there ↦ let x = so.each p m there in (x.0, ahead ws w p x.0 x.1, x.2, x.3)
        | inr last ↦ (
          w,
          subst (λ q. slice_get (ws ++ w ∷ []) q ≡ Some w) (sym (last.0 ∙ so.count)) (last_is ws w),
          subst (λ (z : Node). TakesEntry (node_of w) z) (sym last.1) taken,
          ap log_of last.1 ∙ empty,
        )
      ];
}

pub none_logless : {O I : Type 0} → AreLogless {O = O} {I = I} [] []
none_logless = record { count = refl; each = λ p n is. absurd (cc is) }
