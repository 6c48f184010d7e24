-- What a history that leaves nothing to do, and its core world, report of the end of a run with
-- seats.
use Rattle.std.proofs.Common.{◌≡◌, ℕ, ◌<◌, ◌≤◌, List, [], ◌∷◌, map, length, slice_get, unwrap_or, Option, Some, None, ap, sym, ◌∙◌, subst, arith}
use Rattle.std.proofs.lemmas.List.{length-map}
use Rattle.sj_base.specs.declared.EndId.{EndId}
use Rattle.sj_lang.specs.FileAt.{FileAt}
use Rattle.sj_lang.specs.Place.{Place, done}
use Rattle.sj_acceptance.specs.Accepted.{IsAccepted}
use Rattle.sj_semantics.specs.Ends.{Session, end_at, other_end}
use Rattle.sj_semantics.specs.Program.{Program}
use Rattle.sj_semantics.specs.World.{World, session_of}
use Rattle.sj_semantics_laws.proofs.RoomLemmas.{length-uses_le}
use Rattle.sj_rules.specs.History.{IsQuietAmong, turn_of}
use Rattle.sj_rules.specs.Log.{LineAt}
use Rattle.sj_rules.specs.Party.{IsDone, nobody}
use Rattle.sj_rules.specs.Reading.{IsOpenKept}
use Rattle.sj_rules.specs.Rows.{IsPick}
use Rattle.sj_rules.specs.World.{WorldAt}
use Rattle.sj_joined_lemmas.proofs.HistoryLemmas.{log_runs}
use Rattle.sj_opened_lemmas.proofs.OpenStandsLemmas.{open_kept_stands_for}
use Rattle.sj_rules_laws.specs.TiedNotes.{sent_told, taken_told, told_in}
use Rattle.sj_told.specs.declared.told.Stand.{Stand}
use Rattle.sj_told.specs.declared.told.ToldEnd.{ToldEnd}
use Rattle.sj_told.specs.Lines.{AreToldBy}
use Rattle.sj_told.specs.Told.{AreEnds}
use Rattle.sj_seat_laws.specs.SeatedPlay.{Player, player_binds, seated_play}
use Rattle.sj_seat_laws.specs.SeatsStart.{Callers, IsSeatsCoreRun, IsSeatsRun, seats_core, seats_start}
use Rattle.sj_seat_laws.specs.SeatsActs.{uses_of}
use Rattle.sj_seat_laws.specs.SeatsWorld.{SeatsWorld, after_seats, player_by, seat_of, seats_act, seats_seen}
use Rattle.sj_seat_laws.proofs.SeatsEndLemmas.{settled_run_has_it}
use Rattle.sj_seat_laws.proofs.SeatsHeadlineLemmas.{step_facts}
use Rattle.sj_seat_laws.proofs.SeatsRunLemmas.{between, quiet_ends, seats_run}
use Rattle.sj_seat_told_laws.specs.SeatsEnd.{IsSeatsEnd}
use Rattle.sj_seat_told_laws.specs.SeatsHistory.{IsSeatsHistory, acts_of}
use Rattle.sj_seat_told_laws.specs.SeatsStands.{AreSeatsStands}
use Rattle.sj_seat_told_laws.specs.StillSeats.{IsStandOf}
use Rattle.sj_seat_told_laws.proofs.HistoryLemmas.{history_count, history_opened, history_sent, history_takers}
use Rattle.sj_seat_told_laws.proofs.QuietLemmas.{code_held, node_held, quiet_lanes}
use Rattle.sj_seat_told_laws.proofs.RestLemmas.{none_ready}
use Rattle.sj_seat_told_laws.proofs.StandLemmas.{stands_are}

module _ (file : FileAt) (calls : Callers) (accepted : IsAccepted file) (core : WorldAt Place Player) (acts : List ℕ) (t : SeatsWorld) (run : IsSeatsRun file calls acts t) (kept : IsOpenKept IsDone player_binds done core (seats_seen t)) where
  players : (p : ℕ) → (core.nodes p).program ≡ player_by (seat_of t.seats p) (unwrap_or (slice_get t.world.parties p) nobody)
  players p = (open_kept_stands_for IsDone player_binds done core (seats_seen t) kept).programs p

  parties : length t.world.parties ≡ length file.parties
  parties = (seats_run file calls accepted acts t run).proper.many

  all_stand : ((p : ℕ) → seats_act t p ≡ None) → (stands : List Stand) → length stands ≡ length file.parties → ((p : ℕ) (s : Stand) → slice_get stands p ≡ Some s → IsStandOf (core.nodes p).program s) → AreSeatsStands t stands
  all_stand none stands many each =
      stands_are t stands (many ∙ sym parties) none (λ p g s at there.
      subst (λ (h : Player). IsStandOf h s) (players p ∙ ap (λ (o : Option Program). player_by (seat_of t.seats p) (unwrap_or o nobody)) at) (each p s there))

-- no act takes a session away
sessions_stay : (t u : SeatsWorld) (qs : List ℕ) → after_seats t qs ≡ Some u → length t.world.sessions ≤ length u.world.sessions
sessions_stay t u [] run = let it : t ≡ u = cc in omega (arith, ap (λ (x : SeatsWorld). length x.world.sessions) it)
sessions_stay t u (q ∷ qs) run =
    let m = between t u q qs run in
    let f = step_facts t q m.world m.before in
    omega (arith, length-uses_le q (uses_of t q) t.world.sessions, ap (λ (zs : List Session). length zs) f.sessions, sessions_stay m.world u qs m.afterwards)

-- what lines report of ends, as lists
ends_are : (file : FileAt) (lines : List LineAt) (w : World) → ((e : EndId) → (end_at w.sessions e).sent ≡ told_in (sent_told e) lines) → ((e : EndId) → (end_at w.sessions e).takers ≡ map (λ x. x.by) (told_in (taken_told e) lines))
    → (ends : List ToldEnd) → AreToldBy lines (length file.connects) ends → AreEnds file w ends
ends_are file lines w sent takers ends told = record {
  count = told.count;
  each = λ e x there. record { sent = (told.each e x there).sent ∙ sym (sent e); takers = (told.each e x there).takers ∙ sym (takers (other_end e)) };
}

pub quiet_end : (file : FileAt) (calls : Callers) (pick : ℕ → ℕ → ℕ) (lines : List LineAt) (core : WorldAt Place Player) → IsAccepted file → IsPick pick → IsSeatsHistory pick file calls lines core
    → IsQuietAmong (seated_play file) (length file.parties) core → (t : SeatsWorld) × IsSeatsEnd file calls lines core t
quiet_end file calls pick lines core accepted picks history quiet =
    let runs : IsSeatsCoreRun file calls (map turn_of lines) core = log_runs (seated_play file) pick picks lines (seats_core file calls) core history in
    let empty = quiet_lanes file calls accepted (map turn_of lines) core runs quiet in
    let e = quiet_ends file calls accepted (map turn_of lines) core runs quiet in (
      e.0,
      record {
        headline = settled_run_has_it file calls (acts_of lines) e.0 accepted e.1 e.3;
        sent = λ f. history_sent file calls accepted pick picks lines core history e.0 e.1 f;
        takers = λ f. history_takers file calls accepted pick picks lines core history e.0 e.1 f;
        ends = ends_are file lines e.0.world (λ f. history_sent file calls accepted pick picks lines core history e.0 e.1 f) (λ f. history_takers file calls accepted pick picks lines core history e.0 e.1 f);
        sessions = omega (arith, sessions_stay (seats_start file calls) e.0 (acts_of lines) e.1, length-map file.connects (session_of file));
        resting = λ p g there. none_ready e.0 p g there (e.3 p);
        code_held = λ p s at f place h. code_held file calls accepted core (acts_of lines) e.0 e.1 e.2 empty p s at f place h;
        node_held = λ p s at f h low below there. node_held file calls accepted core (acts_of lines) e.0 e.1 e.2 empty p s at f h low below there;
        count = history_count file calls accepted pick picks lines core history e.0 e.1;
        players = players file calls accepted core (acts_of lines) e.0 e.1 e.2;
        stands = all_stand file calls accepted core (acts_of lines) e.0 e.1 e.2 e.3;
        opened = history_opened file calls accepted pick picks lines core history e.0 e.1;
      },
    )
