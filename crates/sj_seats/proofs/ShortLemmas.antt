-- Core runs with seats are short, and their clocks low.
use Rattle.std.proofs.Common.{◌≡◌, ℕ, ◌+◌, ◌<◌, ◌≤◌, List, [], ◌∷◌, ◌++◌, length, Option, Some, None, option_map, refl, ap, sym, ◌∙◌, subst, arith}
use Rattle.sj_lang.specs.FileAt.{FileAt}
use Rattle.sj_lang.specs.Place.{Place}
use Rattle.sj_acceptance.specs.Accepted.{IsAccepted}
use Rattle.sj_joined_lemmas.proofs.LimitLemmas.{run_clocks}
use Rattle.sj_rules.specs.Moves.{plain_act}
use Rattle.sj_rules.specs.Party.{IsDone}
use Rattle.sj_rules.specs.PlainSide.{PlainAt}
use Rattle.sj_rules.specs.Premises.{IsLawful}
use Rattle.sj_rules.specs.Within.{ClocksWithin}
use Rattle.sj_rules.specs.World.{Turn, WorldAt}
use Rattle.sj_seat_laws.specs.SeatedPlay.{Player, player_binds, seated_play}
use Rattle.sj_seat_laws.specs.SeatsStart.{Callers, IsSeatsCoreRun, IsSeatsRun, seats_core, seats_start}
use Rattle.sj_seat_laws.specs.SeatsWorld.{SeatsWorld, seats_act, seats_seen}
use Rattle.sj_seat_laws.proofs.CourseLemmas.{CourseStands, IsCourse, runs_are_short}
use Rattle.sj_seat_laws.proofs.SeatsLawfulLemmas.{few_acts, few_sent, seats_are_lawful}
use Rattle.sj_seat_laws.proofs.SeatsRunLemmas.{Reached, one_more, seats_run}
use Rattle.sj_seat_laws.proofs.SeatsSeenLemmas.{seats_act_is_seen}
use Rattle.sj_seat_laws.proofs.SeatsStartLemmas.{start_is_fresh, start_is_kept, start_is_seats, start_within}

record Acted (t : SeatsWorld) (q : ℕ) (next : PlainAt Place Player) : Type 0 where
  after : SeatsWorld
  is : seats_act t q ≡ Some after
  seen : next ≡ seats_seen after

acted_by : (t : SeatsWorld) (q : ℕ) (next : PlainAt Place Player) (o : Option SeatsWorld) → seats_act t q ≡ o → option_map (seats_seen) o ≡ Some next → Acted t q next
acted_by t q next None is h = cc
acted_by t q next (Some u) is h = record { after = u; is = is; seen = let it : seats_seen u ≡ next = cc in sym it }

module _ (file : FileAt) (calls : Callers) (accepted : IsAccepted file) where
  abbrev reached : List ℕ → PlainAt Place Player → Type 0
  reached = Reached file calls

  goes : (ps : List ℕ) (plain next : PlainAt Place Player) (q : ℕ) → reached ps plain → plain_act (seated_play file) plain q ≡ Some next → reached (ps ++ q ∷ []) next
  goes ps plain next q r h =
      let a = acted_by r.world q next (seats_act r.world q) refl
      (sym (seats_act_is_seen file (length ps) r.world r.seats q) ∙ ap (λ (x : PlainAt Place Player). plain_act (seated_play file) x q) (sym r.seen) ∙ h) in
      let run : IsSeatsRun file calls (ps ++ q ∷ []) a.after = one_more (seats_start file calls) r.world a.after ps q r.run a.is in
      record { world = a.after; run = run; seats = seats_run file calls accepted (ps ++ q ∷ []) a.after run; seen = a.seen }

  course : IsCourse IsDone (seated_play file) player_binds reached
  course = record {
    lawful = λ ps plain r. subst (IsLawful IsDone (seated_play file) player_binds (length file.parties)) (sym r.seen) (seats_are_lawful file (length ps) r.world r.seats accepted.within.parties);
    goes = goes;
    few_sent = λ ps plain r e lt. subst (λ (x : PlainAt Place Player). length (x.sides e).sent ≤ 170000) (sym r.seen) (few_sent file (length ps) r.world r.seats accepted.within.parties e lt);
    few_acts = λ ps plain r. few_acts file (length ps) r.world r.seats accepted.within.parties;
  }

  begun : CourseStands IsDone (seated_play file) player_binds reached [] (seats_core file calls)
  begun = record {
    plain = seats_seen (seats_start file calls);
    at = record { world = seats_start file calls; run = refl; seats = start_is_seats file calls accepted; seen = refl };
    kept = start_is_kept file calls accepted;
    within = start_within file calls accepted;
  }

  module _ (turns : List Turn) (core : WorldAt Place Player) (run : IsSeatsCoreRun file calls turns core) where
    pub seats_run_is_short : length turns ≤ 57801020000
    seats_run_is_short = runs_are_short IsDone (seated_play file) player_binds reached course (seats_core file calls) begun (start_is_fresh file calls accepted) turns core run

    pub seats_run_clocks : ClocksWithin (length turns) core
    seats_run_clocks =
        let fresh = start_is_fresh file calls accepted in
        let same : 0 + length turns ≡ length turns = omega arith in
        subst (λ k. ClocksWithin k core) same (run_clocks (seated_play file) turns 0 (seats_core file calls) core fresh.clocks run)

    pub seats_run_low : (q : ℕ) → (core.nodes q).clock < 4611686018427387904
    seats_run_low q = let low = seats_run_clocks.nodes q in omega (arith, low, seats_run_is_short)
