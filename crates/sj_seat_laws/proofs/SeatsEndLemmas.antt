-- Each run with several seats to where nobody can go on has the headline.
use Rattle.std.proofs.Common.{◌≡◌, ℕ, true, List, length, slice_get, Option, Some, None, option_map, refl, ap, sym, ◌∙◌}
use Rattle.sj_lang.specs.FileAt.{FileAt}
use Rattle.sj_acceptance.specs.Accepted.{IsAccepted}
use Rattle.sj_base.specs.declared.EndId.{EndId}
use Rattle.sj_semantics.specs.declared.Awaits.{Awaits}
use Rattle.sj_semantics.specs.declared.Passed.{Passed}
use Rattle.sj_semantics.specs.declared.Want.TheVariants.{Take}
use Rattle.sj_semantics.specs.Balanced.{IsBalanced}
use Rattle.sj_semantics.specs.Ends.{next_for}
use Rattle.sj_semantics.specs.Fitting.{fits}
use Rattle.sj_semantics.specs.Program.{Program}
use Rattle.sj_semantics.specs.Wants.{want_of}
use Rattle.sj_semantics.specs.World.{World, act_of}
use Rattle.sj_headline_laws.proofs.AcceptedLemmas.{next_fits, sound_is_balanced}
use Rattle.sj_seat_laws.specs.SeatedWorld.{Doing, after_doing, beside, doing_of}
use Rattle.sj_seat_laws.specs.SeatsHeadline.{IsSeatsHeadline}
use Rattle.sj_seat_laws.specs.SeatsStart.{Callers, IsSeatsRun}
use Rattle.sj_seat_laws.specs.SeatsWorld.{Seats, SeatsWorld, all_beside, seats_act, seats_act_by, with_seat}
use Rattle.sj_seat_laws.proofs.SeatsClosingLemmas.{gone_once_closed, nowhere_on_its_way}
use Rattle.sj_seat_laws.proofs.SeatsHeadlineLemmas.{one_holder_each, seats_take_what_fits, seats_use_their_own, takes_all, takes_in_order}
use Rattle.sj_seat_laws.proofs.SeatsRunLemmas.{seats_run}
use Rattle.sj_seat_laws.proofs.UsingLemmas.{rests}

no_doing : (f : Doing → SeatsWorld) (o : Option Doing) → ◌≡◌ {A = Option SeatsWorld} (option_map f o) None → o ≡ None
no_doing f None h = refl
no_doing f (Some d) h = cc

no_world : (seats : Seats) (o : Option World) → ◌≡◌ {A = Option SeatsWorld} (option_map (all_beside seats) o) None → o ≡ None
no_world seats None h = refl
no_world seats (Some v) h = cc

pub settled_run_has_it : (file : FileAt) (calls : Callers) (acts : List ℕ) (t : SeatsWorld) → IsAccepted file → IsSeatsRun file calls acts t → ((q : ℕ) → seats_act t q ≡ None) → IsSeatsHeadline file calls acts t
settled_run_has_it file calls acts t accepted run none = record {
  run = run;
  settled = λ q at. no_world t.seats (act_of t.world q) (sym (ap (seats_act_by t q) at) ∙ none q);
  resting = λ q s at.
      rests q (beside s t.world) (no_doing (λ d. with_seat q t.seats (after_doing q (beside s t.world) d)) (doing_of q (beside s t.world)) (sym (ap (seats_act_by t q) at) ∙ none q));
  in_order = takes_in_order file calls acts t run;
  whole = takes_all file calls acts t run (length acts) (seats_run file calls accepted acts t run);
  fitting = λ front rest q u parted leads. seats_take_what_fits file (length front) u (seats_run file calls accepted front u leads) q;
  one_holder = λ front rest u parted leads. one_holder_each file (length front) u (seats_run file calls accepted front u leads);
  by_holder = λ front rest q u parted leads. seats_use_their_own file (length front) u (seats_run file calls accepted front u leads) q;
  gone_once_closed = gone_once_closed file calls acts accepted;
  nowhere_on_its_way = nowhere_on_its_way file calls acts accepted;
}

-- ---- in every run

pub run_balanced : (file : FileAt) (calls : Callers) (acts : List ℕ) (t : SeatsWorld) → IsAccepted file → IsSeatsRun file calls acts t → (s : ℕ) → IsBalanced t.world.sessions s
run_balanced file calls acts t accepted run s = sound_is_balanced file t.world s (seats_run file calls accepted acts t run).sound

pub run_serves : (file : FileAt) (calls : Callers) (acts : List ℕ) (t : SeatsWorld) (q : ℕ) (g : Program) (e : EndId) (a : Awaits) (x : Passed) → IsAccepted file → IsSeatsRun file calls acts t
    → slice_get t.world.parties q ≡ Some g → want_of g ≡ Some (Take e a) → next_for t.world.sessions e ≡ Some x → fits g x.msg ≡ true
run_serves file calls acts t q g e a x accepted run at want next = next_fits file t.world q g e a x (seats_run file calls accepted acts t run).sound at want next
