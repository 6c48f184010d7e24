-- Each settled run of an accepted file has the headline.
use Rattle.std.proofs.Common.{◌≡◌, ℕ, ◌≤◌, length, List, ◌∷◌, ◌++◌, slice_get, Option, Some, None, option_and_then, append-nil, refl, ap, sym, ◌∙◌, subst}
use Rattle.sj_lang.specs.Limits.{limits}
use Rattle.sj_lang.specs.FileAt.{FileAt}
use Rattle.sj_acceptance.specs.Accepted.{IsAccepted}
use Rattle.sj_semantics.specs.declared.Verdict.TheVariants.{Done}
use Rattle.sj_semantics.specs.declared.Want.{Want}
use Rattle.sj_semantics.specs.declared.Want.TheVariants as wants
use Rattle.sj_semantics.specs.Acts.{acts_from, taken_on}
use Rattle.sj_semantics.specs.Ends.{untaken_for}
use Rattle.sj_semantics.specs.Program.{Program}
use Rattle.sj_semantics.specs.Run.{IsRun, after_acts}
use Rattle.sj_semantics.specs.World.{start_of, World, act_of}
use Rattle.sj_semantics.specs.State.{IsSettled, verdict_of}
use Rattle.sj_semantics.specs.Wants.{want_of}
use Rattle.sj_semantics_laws.specs.Unshared.{IsUnshared}
use Rattle.sj_semantics_laws.proofs.BoundLemmas.{want_bound}
use Rattle.sj_semantics_laws.proofs.DelegatedLemmas.{delegated_nowhere}
use Rattle.sj_semantics_laws.proofs.HolderLemmas.{act_uses_bound}
use Rattle.sj_semantics_laws.proofs.MomentLemmas.{run_is_unshared, front_of_acts, holder_is_one, unclaimed_nowhere, closed_stays}
use Rattle.sj_semantics_laws.proofs.RunLemmas.{between}
use Rattle.sj_semantics_laws.proofs.TakenLemmas.{run_untaken}
use Rattle.sj_headline_laws.specs.Headline.{messages, IsFront, OfEachEnd, FitsTaker, TakesWhatFits, UsesItsOwn, ClosesForGood, DelegatesAtOnce, IsHeadline}
use Rattle.sj_headline_laws.proofs.AcceptedLemmas.{run_is_sound}
use Rattle.sj_headline_laws.proofs.FittingLemmas.{next_has_a_place}
use Rattle.sj_headline_laws.proofs.FreeLemmas.{begins_free}
use Rattle.sj_headline_laws.proofs.PlacedLemmas.{done_runs_take_all}
use Rattle.sj_headline_laws.proofs.TakingLemmas.{change_takes_next}

-- ---- what an act takes

takes_what_fits : (file : FileAt) (acts : List ℕ) (w : World) (p : ℕ) → IsAccepted file → IsRun file acts w → TakesWhatFits w p
takes_what_fits file acts w p accepted run =
    λ c n e m h there.
    let t = change_takes_next w p c (slice_get w.parties p) h n e m there in
    subst (FitsTaker w.sessions e) t.2 (next_has_a_place file w (run_is_sound file acts w accepted run) e t.0 t.1)

-- ---- what was sent and taken

takes_in_order : (file : FileAt) (acts : List ℕ) (w : World) → IsRun file acts w → OfEachEnd file acts IsFront
takes_in_order file acts w run = λ e. (untaken_for w.sessions e, sym (run_untaken file acts w e run))

pub takes_all : (file : FileAt) (acts : List ℕ) (w : World) → IsAccepted file → IsRun file acts w → verdict_of w ≡ Done → OfEachEnd file acts (λ taken sent. taken ≡ sent)
takes_all file acts w accepted run done =
    λ e.
    let taken = messages (taken_on e (acts_from (start_of file) acts)) in
    sym (append-nil taken) ∙ ap (λ ms. taken ++ ms) (sym (done_runs_take_all file acts w accepted run done e)) ∙ run_untaken file acts w e run

-- ---- from an act on

-- the acts from a world on, where the acts up to there and all of them are runs
pub acts_between : (file : FileAt) (front between' : List ℕ) (w v : World) → IsRun file front w → IsRun file (front ++ between') v → after_acts w between' ≡ Some v
acts_between file front between' w v run all =
    let f = front_of_acts (start_of file) v front between' all in
    let it : f.0 ≡ w = (let both : Some f.0 ≡ Some w = sym f.1 ∙ run in cc) in
    subst (λ (t : World). after_acts t between' ≡ Some v) it f.2

-- a step is one of a program that is there
step_there : (o : Option Program) (want : Want) → option_and_then want_of o ≡ Some want → (g : Program) × (o ≡ Some g) × (want_of g ≡ Some want)
step_there None want h = cc
step_there (Some g) want h = (g, refl, h)

closes_for_good : (file : FileAt) (front rest : List ℕ) (p : ℕ) (w v : World) → length file.connects ≤ limits.connects → IsRun file front w → IsRun file (front ++ p ∷ rest) v → ClosesForGood w p v
closes_for_good file front rest p w v few run all =
    λ e step.
    let g = step_there (slice_get w.parties p) (wants.Close e) step in
    let m = between (λ x. after_acts x rest) (act_of w p) v (acts_between file front (p ∷ rest) w v run all) in
    unclaimed_nowhere v e (closed_stays file front rest w m.world v p g.0 e few run g.1 g.2 m.before m.afterwards)

delegates_at_once : (file : FileAt) (front rest : List ℕ) (p : ℕ) (w v : World) → length file.connects ≤ limits.connects → IsRun file front w → IsRun file (front ++ p ∷ rest) v → DelegatesAtOnce w p v
delegates_at_once file front rest p w v few run all =
    λ e y step untaken.
    let g = step_there (slice_get w.parties p) (wants.Delegate e y) step in
    let m = between (λ x. after_acts x rest) (act_of w p) v (acts_between file front (p ∷ rest) w v run all) in
    delegated_nowhere file front rest w m.world v p g.0 e y few run g.1 g.2 m.before m.afterwards untaken

-- ---- the headline

uses_its_own : (w : World) (p : ℕ) → IsUnshared w → UsesItsOwn w p
uses_its_own w p one = record {
  names = λ g want there h. want_bound g want h;
  uses = λ g c there h. act_uses_bound w p g c there h;
  begun = λ c h. begins_free w p c one h;
}

pub settled_run_has_it : (file : FileAt) (acts : List ℕ) (w : World) → IsAccepted file → IsRun file acts w → IsSettled w → IsHeadline file acts w
settled_run_has_it file acts w accepted run settled = record {
  run = run;
  settled = settled;
  in_order = takes_in_order file acts w run;
  whole = takes_all file acts w accepted run;
  fitting = λ front rest p v parted leads. takes_what_fits file front v p accepted leads;
  one_holder = λ front rest v parted leads e p q. holder_is_one v p q e (run_is_unshared file front v accepted.within.connects leads);
  by_holder = λ front rest p v parted leads. uses_its_own v p (run_is_unshared file front v accepted.within.connects leads);
  gone_once_closed = λ front rest last p v u parted leads all. closes_for_good file front rest p v u accepted.within.connects leads all;
  nowhere_on_its_way = λ front rest last p v u parted leads all. delegates_at_once file front rest p v u accepted.within.connects leads all;
}
