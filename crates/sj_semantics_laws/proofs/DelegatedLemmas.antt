-- A delegated end is bound nowhere until it is taken.
use Rattle.std.proofs.Common.{◌≡◌, ℕ, ◌≤◌, List, [], ◌∷◌, ◌++◌, length, slice_get, Some}
use Rattle.sj_base.specs.declared.EndId.{EndId}
use Rattle.sj_lang.specs.FileAt.{FileAt}
use Rattle.sj_lang.specs.Limits.{limits}
use Rattle.sj_semantics.specs.declared.Passed.{Passed}
use Rattle.sj_semantics.specs.declared.Want.TheVariants as wants
use Rattle.sj_semantics.specs.Ends.{end_at}
use Rattle.sj_semantics.specs.Program.{Program}
use Rattle.sj_semantics.specs.Run.{IsRun, after_acts}
use Rattle.sj_semantics.specs.World.{start_of, World, act_of, session_message}
use Rattle.sj_semantics.specs.Wants.{want_of}
use Rattle.sj_semantics_laws.specs.Runs.{IsBoundNowhere, IsUntaken}
use Rattle.sj_semantics_laws.proofs.BoundLemmas.{is_end-self}
use Rattle.sj_semantics_laws.proofs.MomentLemmas.{run_is_unshared, acts_on_acts, one_more}
use Rattle.sj_semantics_laws.proofs.OnItsWayLemmas.{on_its_way, delegating_sends, acts_extend}

pub delegated_nowhere : (file : FileAt) (ps qs : List ℕ) (w v u : World) (p : ℕ) (g : Program) (e y : EndId) → length file.connects ≤ limits.connects → IsRun file ps w → slice_get w.parties p ≡ Some g → want_of g ≡ Some (wants.Delegate e y)
    → act_of w p ≡ Some v → after_acts v qs ≡ Some u → IsUntaken u e (length (end_at w.sessions e).sent) → IsBoundNowhere u y
delegated_nowhere file ps qs w v u p g e y few run there want h k untaken =
    let n = length (end_at w.sessions e).sent in
    let x : Passed = record { msg = session_message y p; by = p } in
    on_its_way u y e n x
    (run_is_unshared file ((ps ++ p ∷ []) ++ qs) u few (acts_on_acts (start_of file) v u (ps ++ p ∷ []) qs (one_more file ps w v p run h) k))
    untaken (acts_extend v u qs e k n x (delegating_sends w v p g e y there want h)) (is_end-self y)
