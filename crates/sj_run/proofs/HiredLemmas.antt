-- Nodes and lanes that are taken from the fronts of their lists, and hired one after the other.
use Rattle.std.proofs.Common.{◌≡◌, ◌∙◌, ℕ, zero, suc, ◌+◌, ◌<◌, List, [], ◌∷◌, ◌++◌, Some, None, drop, length, slice_index_or, inl, inr, refl, sym, ap, subst, arith, length-append}
use Rattle.std.specs.Prelude.{slice_get}
use Rattle.std.specs.List.{remove}
use Rattle.sj_core.proofs.FirstLemmas.{behind}
use Rattle.sj_lane.specs.declared.lane.Lanes.{Lanes}
use Rattle.sj_node.specs.declared.node.Node.{Node}
use Rattle.sj_work.specs.declared.worker.Worker.{Worker}
use Rattle.sj_work.specs.Views.{lanes_of, node_of, stop_of}
use Rattle.sj_run.specs.Workers.{AreHired}

-- the first of what is left is the next one
pub front_is : {X : Type 0} (xs : List X) (k : ℕ) (x : X) → k < length xs → x ≡ slice_index_or (drop k xs) 0 x → slice_get xs k ≡ Some x
front_is [] k x lt is = absurd (omega (arith, lt))
front_is (y ∷ ys) zero x lt is = ap Some (sym is)
front_is (y ∷ ys) (suc k) x lt is = front_is ys k x (omega (arith, lt)) is

rest_of : {X : Type 0} (xs : List X) (k : ℕ) → k < length xs → remove (drop k xs) 0 ≡ drop (suc k) xs
rest_of [] k lt = absurd (omega (arith, lt))
rest_of (y ∷ ys) zero lt = refl
rest_of (y ∷ ys) (suc k) lt = rest_of ys k (omega (arith, lt))

-- without it the rest is left
pub rest_is : {X : Type 0} (xs : List X) (k : ℕ) → k < length xs → remove (drop k xs) 0 ≡ drop (k + 1) xs
rest_is xs k lt = let e : suc k ≡ k + 1 = omega arith in rest_of xs k lt ∙ ap (λ n. drop n xs) e

-- something is left
pub some_left : {X : Type 0} (xs ys : List X) (k : ℕ) → ys ≡ drop k xs → k < length xs → 0 < length ys
some_left [] ys k is lt = absurd (omega (arith, lt))
some_left (x ∷ xs) ys zero is lt = let n : length ys ≡ suc (length xs) = ap length is in omega (arith, n)
some_left (x ∷ xs) ys (suc k) is lt = some_left xs ys k is (omega (arith, lt))

module _ {O I : Type 0} (nodes : List Node) (lanes : List (Lanes O I)) where
  pub none_hired : AreHired nodes lanes 0 []
  none_hired = record { count = refl; nodes_are = λ p w is. absurd (cc is); lanes_are = λ p w is. absurd (cc is); idle = λ p w is. absurd (cc is) }

  -- with the next party's
  pub one_hired : (k : ℕ) (ws : List (Worker O I)) (w : Worker O I) → AreHired nodes lanes k ws → slice_get nodes k ≡ Some (node_of w) → slice_get lanes k ≡ Some (lanes_of w) → stop_of w ≡ None
      → AreHired nodes lanes (k + 1) (ws ++ w ∷ [])
  one_hired k ws w so a b idle = record {
    count = length-append ws (w ∷ []) ∙ ap (λ n. n + 1) so.count;
    nodes_are = λ p v is.
        elim (behind ws w p v is) [
          | inl there ↦ so.nodes_are p v there
          | inr last ↦ subst (λ (q : ℕ). slice_get nodes q ≡ Some (node_of v)) (sym (last.0 ∙ so.count)) (a ∙ ap (λ (u : Worker O I). Some (node_of u)) (sym last.1))
        ];
    lanes_are = λ p v is.
        elim (behind ws w p v is) [
          | inl there ↦ so.lanes_are p v there
          | inr last ↦ subst (λ (q : ℕ). slice_get lanes q ≡ Some (lanes_of v)) (sym (last.0 ∙ so.count)) (b ∙ ap (λ (u : Worker O I). Some (lanes_of u)) (sym last.1))
        ];
    idle = λ p v is. elim (behind ws w p v is) [ inl there ↦ so.idle p v there | inr last ↦ ap stop_of last.1 ∙ idle ];
  }
