-- Each world of a run in which several parties are played by code of their own is lawful, as the
-- lemmas on events ask for.
use Rattle.std.proofs.Common.{◌≡◌, ℕ, ◌+◌, ◌*◌, ◌<◌, ◌≤◌, true, false, length, slice_get, Option, Some, None, sum_by, refl, ap, sym, ◌∙◌, arith}
use Rattle.std.specs.Prelude.{is_some}
use Rattle.std.proofs.lemmas.Bool.{false_from_ne_true}
use Rattle.std.proofs.lemmas.Option.{slice_get_within}
use Rattle.sj_base.specs.declared.EndId.{EndId}
use Rattle.sj_lang.specs.FileAt.{FileAt}
use Rattle.sj_lang.specs.Place.{Place}
use Rattle.sj_semantics.specs.Program.{Program}
use Rattle.sj_semantics.specs.World.{World}
use Rattle.sj_rules.specs.Node.{Play, ended}
use Rattle.sj_rules.specs.Party.{IsDone, play_of}
use Rattle.sj_rules.specs.Plain.{plain_at}
use Rattle.sj_rules.specs.PlainSide.{PlainAt}
use Rattle.sj_rules.specs.Premises.{FitsStep, IsLawful}
use Rattle.sj_rules_laws.proofs.CountLemmas.{sent_by_option, steps_of}
use Rattle.sj_rules_laws.proofs.LawfulLemmas.{bound_below, idle_above, keeper_below, offered_comes, sent_is, steps_are_lawful, unbound_by}
use Rattle.sj_rules_laws.proofs.ProperLemmas.{Size}
use Rattle.sj_rules_laws.proofs.ProperRunLemmas.{size_of}
use Rattle.sj_seat_laws.specs.Calls.{SeatedAt, place_held}
use Rattle.sj_seat_laws.specs.SeatedPlay.{Player, player_binds, seated_play}
use Rattle.sj_seat_laws.specs.SeatedStart.{no_program}
use Rattle.sj_seat_laws.specs.SeatedWorld.{beside}
use Rattle.sj_seat_laws.specs.SeatsWorld.{SeatsWorld, player_by, seat_of, seats_seen}
use Rattle.sj_seat_laws.proofs.HeldLemmas.{held_by_place}
use Rattle.sj_seat_laws.proofs.LawfulLemmas.{counts_by, seat_fits, written_fits}
use Rattle.sj_seat_laws.proofs.SeatsLemmas.{IsSeats, all_calls, few_calls, one_holds, seat_in}

module _ (file : FileAt) (n : ℕ) (t : SeatsWorld) (i : IsSeats file n t) where
  abbrev w : World
  w = t.world

  abbrev play : Play Place Player
  play = seated_play file

  abbrev plain : PlainAt Place Player
  plain = seats_seen t

  abbrev z : Size
  z = size_of file

  abbrev own : ℕ → Program
  own q = (plain_at w).programs q

  steps_fit : (q : ℕ) (o : Option SeatedAt) → seat_of t.seats q ≡ o → FitsStep IsDone play player_binds plain q (player_by o (own q)) (play.wants (player_by o (own q)))
  steps_fit q None at = written_fits file plain.programs (plain_at w) q (own q) ((play_of file).wants (own q)) (steps_are_lawful file z w i.sound i.proper q)
  steps_fit q (Some s) at = seat_fits file q (beside s w) (seat_in file n t i q s at) plain.programs q s.calls refl

  below : (q : ℕ) (s : SeatedAt) → seat_of t.seats q ≡ Some s → q < length file.parties
  below q s at = omega (arith, slice_get_within w.parties q (no_program file) (i.idle q s at), i.proper.many)

  some_place : (o : Option Place) → is_some o ≡ true → (r : Place) × (o ≡ Some r)
  some_place None h = cc
  some_place (Some r) h = (r, refl)

  bound_is_proper : (q : ℕ) (e : EndId) (o : Option SeatedAt) → seat_of t.seats q ≡ o → player_binds (player_by o (own q)) e ≡ true → (e.side < 2) × (q < length file.parties)
  bound_is_proper q e None at h = bound_below file z w i.sound i.proper q (slice_get w.parties q) refl e h
  bound_is_proper q e (Some s) at h = let k = some_place (place_held s.ends e) h in ((i.known q s at e k.0 k.1).0, below q s at)

  offered_unbound : (q : ℕ) (e : EndId) (o : Option SeatedAt) → seat_of t.seats q ≡ o → (plain.sides e).offered ≡ true → player_binds (player_by o (own q)) e ≡ false
  offered_unbound q e None at offered = unbound_by file z w i.sound i.proper q e (slice_get w.parties q) refl offered
  offered_unbound q e (Some s) at offered =
      false_from_ne_true (is_some (place_held s.ends e)) (λ h.
      let k = some_place (place_held s.ends e) h in
      absurd (omega (arith, i.apart e (offered_comes file z w i.sound i.proper e offered), held_by_place s.ends e k.0 k.1, one_holds t.seats q s at e)))

  above_idle : (q : ℕ) (o : Option SeatedAt) → seat_of t.seats q ≡ o → length file.parties ≤ q → play.wants (player_by o (own q)) ≡ ended
  above_idle q None at le = idle_above file z w i.sound i.proper q (slice_get w.parties q) refl le
  above_idle q (Some s) at le = absurd (omega (arith, le, below q s at))

  -- ---- how much there is of each

  no_steps : (q : ℕ) (s : SeatedAt) (g : Program) → seat_of t.seats q ≡ Some s → slice_get w.parties q ≡ Some g → g.steps ≡ 0
  no_steps q s g at there =
      let both : Some (no_program file) ≡ Some g = sym (i.idle q s at) ∙ there in
      let it : no_program file ≡ g = cc in
      ap (λ (h : Program). h.steps) (sym it)

  all_few : sum_by steps_of w.parties + all_calls t.seats ≤ length w.parties * 10000
  all_few = few_calls w.parties t.seats i.many i.steps i.calls no_steps

  module _ (few : length file.parties ≤ 16) where
    pub few_sent : (e : EndId) → e.side < 2 → length ((plain_at w).sides e).sent ≤ 170000
    few_sent e lt = omega (arith, few, sent_is file z w i.sound i.proper e lt, sent_by_option w.sessions e (slice_get w.sessions e.sess) refl, i.messages, all_few, i.proper.many)

    pub few_acts : n ≤ 170000
    few_acts = omega (arith, few, i.count, all_few, i.proper.many)

    pub seats_are_lawful : IsLawful IsDone play player_binds play.parties plain
    seats_are_lawful = record {
      counts = counts_by file w i.sound i.proper i.hops few_sent;
      steps = λ q. steps_fit q (seat_of t.seats q) refl;
      proper = λ q e b. bound_is_proper q e (seat_of t.seats q) refl b;
      unbound = λ q e o. offered_unbound q e (seat_of t.seats q) refl o;
      idle = λ q le. above_idle q (seat_of t.seats q) refl le;
      keepers = λ e j sess d k lt h. keeper_below file z w i.sound i.proper e j sess d k lt h;
    }
