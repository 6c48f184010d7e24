-- The logs of workers, taken out of them in order.
use Rattle.std.proofs.Common.{◌≡◌, ◌∙◌, ℕ, zero, suc, List, [], ◌∷◌, map, length, get_or, Option, Some, None, refl, sym, ap, subst}
use Rattle.std.specs.Prelude.{slice_get}
use Rattle.std.specs.Global.{Vec}
use Rattle.std.proofs.lemmas.List.{length-map}
use Rattle.sj_end.specs.declared.note.Entry.{Entry}
use Rattle.sj_end.specs.Lines.{entry_at}
use Rattle.sj_rules.specs.Log.{EntryAt, IsInOrder, IsJoined, LineAt}
use Rattle.sj_joined_lemmas.proofs.MergingLemmas.{merging_begins}
use Rattle.sj_joined_lemmas.proofs.OrderLemmas.{rests_same}
use Rattle.sj_node.specs.Node.{log_of}
use Rattle.sj_core.specs.Given.{AreInOrder, given_log, line_by}
use Rattle.sj_work.specs.declared.worker.Worker.{Worker}
use Rattle.sj_work.specs.Views.{node_of}
use Rattle.sj_run.specs.Workers.{AllRising, AreLogs, log_or, logs_in}

-- a party's log is its worker's
same_log : {O I : Type 0} (workers : List (Worker O I)) (logs : List (Vec Entry)) → AreLogs workers logs → (p : ℕ) → given_log logs p ≡ logs_in workers p
same_log [] [] are p = refl
same_log [] (v ∷ logs) are p = absurd (cc are)
same_log (w ∷ workers) [] are p = absurd (cc are)
same_log (w ∷ workers) (v ∷ logs) are zero = ap (λ (all : List (List Entry)). map entry_at (get_or all 0 [])) are
same_log (w ∷ workers) (v ∷ logs) are (suc p) = same_log workers logs (rests_same v.items (log_of (node_of w)) (map (λ (u : Vec Entry). u.items) logs) (map (λ u. log_of (node_of u)) workers) are) p

module _ {O I : Type 0} (workers : List (Worker O I)) (logs : List (Vec Entry)) (are : AreLogs workers logs) where
  pub as_many : length logs ≡ length workers
  as_many = sym (length-map logs (λ (v : Vec Entry). v.items)) ∙ ap (λ (es : List (List Entry)). length es) are ∙ length-map workers (λ w. log_of (node_of w))

  -- they are in order where each worker's clocks rise
  pub logs_ordered : AllRising workers → AreInOrder (given_log logs)
  logs_ordered rising p = subst (λ (es : List EntryAt). IsInOrder (map (line_by p) es)) (sym (same_log workers logs are p)) (by (slice_get workers p) refl)
    where
      by : (o : Option (Worker O I)) → slice_get workers p ≡ o → IsInOrder (map (line_by p) (log_or o))
      by None at = tt
      by (Some w) at = (merging_begins 0 [] p (log_or (Some w)) tt refl (rising p w at)).entries_order

  -- lines that are those logs are the workers' logs
  pub logs_joined : (lines : List LineAt) → IsJoined (given_log logs) lines → IsJoined (logs_in workers) lines
  logs_joined lines j = record { order = j.order; parts = λ p. j.parts p ∙ same_log workers logs are p }
