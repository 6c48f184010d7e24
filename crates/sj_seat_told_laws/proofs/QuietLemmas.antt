-- Where a run with seats leaves nothing to do, no frame is on its way, and a code's node has what the
-- code holds.
use Rattle.std.proofs.Common.{◌≡◌, ℕ, ◌<◌, ◌≤◌, Bool, true, false, ◌&&◌, List, [], ◌∷◌, ◌++◌, length, Option, Some, None, option_map, refl, ap, sym, ◌∙◌, subst, arith}
use Rattle.std.specs.Prelude.{is_some, nat_le, ◌==◌}
use Rattle.std.proofs.lemmas.Bool.{both_ways, false_from_ne_true, leb-true}
use Rattle.sj_base.specs.declared.EndId.{EndId}
use Rattle.sj_lang.specs.FileAt.{FileAt}
use Rattle.sj_lang.specs.Place.{Place, done}
use Rattle.sj_acceptance.specs.Accepted.{IsAccepted}
use Rattle.sj_rules.specs.History.{IsQuietAmong}
use Rattle.sj_rules.specs.Limits.{first_opened}
use Rattle.sj_rules.specs.Linked.{user_of}
use Rattle.sj_rules.specs.Moves.{plain_act}
use Rattle.sj_rules.specs.Party.{IsDone}
use Rattle.sj_rules.specs.Plain.{is_unaccepted, plain_at, request_of}
use Rattle.sj_rules.specs.PlainSide.{PlainAt, PlainSide}
use Rattle.sj_rules.specs.Premises.{IsLawful}
use Rattle.sj_rules.specs.Reading.{IsOpenKept, reading}
use Rattle.sj_rules.specs.Record.{Held, HeldAt, MainAt}
use Rattle.sj_rules.specs.Seat.{Seat}
use Rattle.sj_rules.specs.World.{Turn, WorldAt}
use Rattle.sj_rules_laws.proofs.KeptLemmas.{held_read}
use Rattle.sj_rules_laws.proofs.QuietWorldLemmas.{open_bound_is_whole}
use Rattle.sj_rules_laws.proofs.SideLemmas.{side_below}
use Rattle.sj_world_lemmas.proofs.SeenLemmas.{here_held}
use Rattle.sj_seat_laws.specs.Calls.{SeatedAt, place_held}
use Rattle.sj_seat_laws.specs.SeatedPlay.{Player, player_binds, seated_play}
use Rattle.sj_seat_laws.specs.SeatsStart.{Callers, IsSeatsCoreRun, IsSeatsRun, seats_core, seats_start}
use Rattle.sj_seat_laws.specs.SeatsWorld.{SeatsWorld, player_by, seat_of, seats_act, seats_seen}
use Rattle.sj_seat_laws.proofs.CourseLemmas.{CourseStands, IsCourse, quiet_is_quiescent}
use Rattle.sj_seat_laws.proofs.SeatsLawfulLemmas.{few_acts, few_sent, seats_are_lawful}
use Rattle.sj_seat_laws.proofs.SeatsRunLemmas.{one_more, seats_run}
use Rattle.sj_seat_laws.proofs.SeatsSeenLemmas.{seats_act_is_seen}
use Rattle.sj_seat_laws.proofs.SeatsStartLemmas.{start_is_fresh, start_is_kept, start_within}
use Rattle.sj_seat_told_laws.specs.SeatsEnd.{IsHeldAt}

-- ---- no frame is on its way

-- a plain world of a run, as the rules see it
record Seen (file : FileAt) (calls : Callers) (acts : List ℕ) (plain : PlainAt Place Player) : Type 0 where
  world : SeatsWorld
  run : IsSeatsRun file calls acts world
  seen : plain ≡ seats_seen world

module _ (file : FileAt) (calls : Callers) (accepted : IsAccepted file) where
  abbrev reached : List ℕ → PlainAt Place Player → Type 0
  reached = Seen file calls

  acts_on : (ps : List ℕ) (r : SeatsWorld) (run : IsSeatsRun file calls ps r) (next : PlainAt Place Player) (q : ℕ) (o : Option SeatsWorld) → seats_act r q ≡ o → option_map seats_seen o ≡ Some next → reached (ps ++ q ∷ []) next
  acts_on ps r run next q None is h = cc
  acts_on ps r run next q (Some u) is h = record { world = u; run = one_more (seats_start file calls) r u ps q run is; seen = let it : seats_seen u ≡ next = cc in sym it }

  course : IsCourse IsDone (seated_play file) player_binds reached
  course = record {
    lawful = λ ps plain r.
        subst (IsLawful IsDone (seated_play file) player_binds (length file.parties)) (sym r.seen)
        (seats_are_lawful file (length ps) r.world (seats_run file calls accepted ps r.world r.run) accepted.within.parties);
    goes = λ ps plain next q r h.
        acts_on ps r.world r.run next q (seats_act r.world q) refl
        (sym (seats_act_is_seen file (length ps) r.world (seats_run file calls accepted ps r.world r.run) q) ∙ ap (λ (x : PlainAt Place Player). plain_act (seated_play file) x q) (sym r.seen) ∙ h);
    few_sent = λ ps plain r e lt.
        subst (λ (x : PlainAt Place Player). length (x.sides e).sent ≤ 170000) (sym r.seen) (few_sent file (length ps) r.world (seats_run file calls accepted ps r.world r.run) accepted.within.parties e lt);
    few_acts = λ ps plain r. few_acts file (length ps) r.world (seats_run file calls accepted ps r.world r.run) accepted.within.parties;
  }

  begun : CourseStands IsDone (seated_play file) player_binds reached [] (seats_core file calls)
  begun = record {
    plain = seats_seen (seats_start file calls);
    at = record { world = seats_start file calls; run = refl; seen = refl };
    kept = start_is_kept file calls accepted;
    within = start_within file calls accepted;
  }

  pub quiet_lanes : (turns : List Turn) (core : WorldAt Place Player) → IsSeatsCoreRun file calls turns core → IsQuietAmong (seated_play file) (length file.parties) core → (from to : ℕ) → core.lanes from to ≡ []
  quiet_lanes turns core run quiet =
      (quiet_is_quiescent IsDone (seated_play file) player_binds reached course (seats_core file calls) begun (start_is_fresh file calls accepted) turns core run quiet).empty

  -- ---- what a node has

  module _ (core : WorldAt Place Player) (acts : List ℕ) (t : SeatsWorld) (run : IsSeatsRun file calls acts t) (kept : IsOpenKept IsDone player_binds done core (seats_seen t)) (empty : (from to : ℕ) → core.lanes from to ≡ []) where
    abbrev plain : PlainAt Place Player
    plain = seats_seen t

    lawful : IsLawful IsDone (seated_play file) player_binds (length file.parties) plain
    lawful = seats_are_lawful file (length acts) t (seats_run file calls accepted acts t run) accepted.within.parties

    module _ (p : ℕ) (s : SeatedAt) (at : seat_of t.seats p ≡ Some s) where
      binds_is : (e : EndId) → player_binds (plain.programs p) e ≡ is_some (place_held s.ends e)
      binds_is e = ap (λ o. player_binds (player_by o ((plain_at t.world).programs p)) e) at

      -- what the code holds, at its place
      pub code_held : (e : EndId) (place : Place) → place_held s.ends e ≡ Some place → IsHeldAt (core.nodes p) e place
      code_held e place h =
          let b : player_binds (plain.programs p) e ≡ true = binds_is e ∙ ap is_some h in
          let low = (lawful.proper p e b).0 in
          let u = open_bound_is_whole IsDone player_binds done core plain kept empty p e low (false_from_ne_true (plain.sides e).offered (λ o. both_ways (player_binds (plain.programs p) e) (lawful.unbound p e o) b)) b in (
            u.record_of,
            u.there,
            u.place ∙ ap (λ (x : PlainSide Place). x.place) (side_below t.world.requests t.world.sessions e low) ∙ (seats_run file calls accepted acts t run).places p s at e place h,
          )

      not_offered : (e : EndId) → e.side < 2 → e.sess < first_opened → (plain.sides e).offered ≡ false
      not_offered e low below =
          let none : nat_le first_opened e.sess ≡ false = false_from_ne_true (nat_le first_opened e.sess) (λ le. absurd (omega (arith, leb-true first_opened e.sess le, below))) in
          ap (λ (x : PlainSide Place). x.offered) (side_below t.world.requests t.world.sessions e low)
          ∙ ap (λ (b : Bool). b && (e.side == 1) && is_unaccepted (request_of t.world.requests e.sess)) none

      some_place : (o : Option Place) → is_some o ≡ true → (q : Place) × (o ≡ Some q)
      some_place None h = cc
      some_place (Some q) h = (q, refl)

      one_held : (k h : HeldAt Place) → ◌≡◌ {A = Option (MainAt Place)} (Some (Held k)) (Some (Held h)) → k ≡ h
      one_held k h is = cc

      -- and the code holds what is Held there, of the file's sessions
      pub node_held : (e : EndId) (h : HeldAt Place) → e.side < 2 → e.sess < first_opened → (core.nodes p).main e ≡ Some (Held h) → place_held s.ends e ≡ Some h.end.place
      node_held e h low below there =
          let here = here_held IsDone (reading done core) plain.sides kept.kept.sessions e low p h (held_read IsDone player_binds done core plain kept p e h there) in
          let b = (kept.kept.bound p e low (not_offered e low below)).1 (ap (λ (x : Seat Place). user_of x) here.seat_is) in
          let q = some_place (place_held s.ends e) (sym (binds_is e) ∙ b) in
          let k = code_held e q.0 q.1 in
          q.1 ∙ ap Some (sym k.2 ∙ ap (λ (x : HeldAt Place). x.end.place) (one_held k.0 h (sym k.1 ∙ there)))
