-- What a history that leaves nothing to do, and its core world, report of the end of the file.
use Rattle.std.proofs.Common.{◌≡◌, ℕ, zero, suc, ◌+◌, ◌<◌, ◌≤◌, List, [], ◌∷◌, Some, map, length, slice_get, unwrap_or, sum_by, refl, ap, sym, ◌∙◌, arith}
use Rattle.sj_base.specs.declared.EndId.{EndId}
use Rattle.sj_lang.specs.FileAt.{FileAt, PartyAt}
use Rattle.sj_lang.specs.Place.{Place, done}
use Rattle.sj_acceptance.specs.Accepted.{IsAccepted}
use Rattle.sj_semantics.specs.Ends.{end_at}
use Rattle.sj_semantics.specs.Program.{Program}
use Rattle.sj_semantics.specs.Run.{IsRun, after_acts, end_of}
use Rattle.sj_semantics.specs.State.{opened_in}
use Rattle.sj_semantics.specs.World.{World, act_of, programs_from, start_of}
use Rattle.sj_semantics_laws.proofs.RoundLemmas.{length-act}
use Rattle.sj_semantics_laws.proofs.RunLemmas.{between}
use Rattle.sj_semantics_laws.proofs.TakenLemmas.{run_sent, run_takers}
use Rattle.sj_rules.specs.Events.{acts_in}
use Rattle.sj_rules.specs.History.{IsCoreRun, IsHistory, IsQuietAmong, turn_of}
use Rattle.sj_rules.specs.Log.{LineAt}
use Rattle.sj_rules.specs.Party.{IsDone, binds, nobody, play_of}
use Rattle.sj_rules.specs.Plain.{plain_at}
use Rattle.sj_rules.specs.Reading.{IsOpenKept}
use Rattle.sj_rules.specs.Rows.{IsPick}
use Rattle.sj_rules.specs.Start.{core_start}
use Rattle.sj_rules.specs.World.{WorldAt}
use Rattle.sj_joined_lemmas.proofs.HistoryLemmas.{log_runs}
use Rattle.sj_opened_lemmas.proofs.OpenStandsLemmas.{open_kept_stands_for}
use Rattle.sj_rules_laws.specs.TiedNotes.{AreTied, sent_told, taken_told, told_in}
use Rattle.sj_rules_laws.proofs.RunLawsLemmas.{quiet_run_ends}
use Rattle.sj_rules_laws.proofs.SentToldLemmas.{tied_sent}
use Rattle.sj_rules_laws.proofs.TakenToldLemmas.{tied_taken}
use Rattle.sj_rules_laws.proofs.TiedLemmas.{history_is_tied}
use Rattle.sj_told.specs.Counts.{messages_sent, sent_count}
use Rattle.sj_told_laws.proofs.CountLemmas.{lines_add, none_at_start}
use Rattle.sj_told_laws.proofs.OpenedLemmas.{none_opened}

length-programs_from : (file : FileAt) (p : ℕ) (qs : List PartyAt) → length (programs_from file p qs) ≡ length qs
length-programs_from file p [] = refl
length-programs_from file p (q ∷ qs) = ap suc (length-programs_from file (p + 1) qs)

parties_after : (w v : World) (ps : List ℕ) → after_acts w ps ≡ Some v → length v.parties ≡ length w.parties
parties_after w v [] h = let it : w ≡ v = cc in ap (λ (t : World). length t.parties) (sym it)
parties_after w v (p ∷ ps) h = let m = between (λ x. after_acts x ps) (act_of w p) v h in parties_after m.world v ps m.afterwards ∙ length-act w m.world p m.before

-- as many parties as the file has
pub parties_of_run : (file : FileAt) (ps : List ℕ) (w : World) → IsRun file ps w → length w.parties ≡ length file.parties
parties_of_run file ps w h = parties_after (start_of file) w ps h ∙ length-programs_from file 0 file.parties

module _ (file : FileAt) (accepted : IsAccepted file) (pick : ℕ → ℕ → ℕ) (picks : IsPick pick) (lines : List LineAt) (core : WorldAt Place Program) (history : IsHistory pick file lines core) where
  tied : AreTied (start_of file) lines
  tied = history_is_tied file accepted pick picks lines core history

  runs : IsCoreRun file (map turn_of lines) core
  runs = log_runs (play_of file) pick picks lines (core_start file) core history

  module _ (quiet : IsQuietAmong (play_of file) (length file.parties) core) where
    ends : IsRun file (acts_in (map turn_of lines)) (end_of file)
    ends = (quiet_run_ends file accepted (map turn_of lines) core runs quiet).0

    kept : IsOpenKept IsDone binds done core (plain_at (end_of file))
    kept = (quiet_run_ends file accepted (map turn_of lines) core runs quiet).1

    pub end_sent : (e : EndId) → (end_at (end_of file).sessions e).sent ≡ told_in (sent_told e) lines
    end_sent e = run_sent file (acts_in (map turn_of lines)) (end_of file) e ends ∙ sym (tied_sent e lines (start_of file) tied)

    pub end_takers : (e : EndId) → (end_at (end_of file).sessions e).takers ≡ map (λ x. x.by) (told_in (taken_told e) lines)
    end_takers e = run_takers file (acts_in (map turn_of lines)) (end_of file) e ends ∙ ap (map (λ x. x.by)) (sym (tied_taken e lines (start_of file) tied))

    pub end_count : messages_sent (end_of file) ≡ sent_count lines
    end_count = omega (arith, lines_add lines (start_of file) (end_of file) tied ends, none_at_start file file.connects)

    pub end_programs : (p : ℕ) → (core.nodes p).program ≡ unwrap_or (slice_get (end_of file).parties p) nobody
    end_programs p = (open_kept_stands_for IsDone binds done core (plain_at (end_of file)) kept).programs p

    pub none_requested : (n : ℕ) → ((p : ℕ) → p < n → (core.nodes p).requests ≡ 0) → (p : ℕ) → zero ≤ p → p < zero + n → length ((end_of file).requests p) ≡ 0
    none_requested n none p low high = sym (kept.requests p) ∙ none p (omega (arith, high))

    pub end_parties : length (end_of file).parties ≡ length file.parties
    end_parties = parties_of_run file (acts_in (map turn_of lines)) (end_of file) ends

    pub end_opened : ((p : ℕ) → p < length file.parties → (core.nodes p).requests ≡ 0) → opened_in (end_of file) ≡ []
    end_opened none = none_opened (end_of file).requests (length (end_of file).parties) 0 (λ p low high. none_requested (length file.parties) none p low (omega (arith, high, end_parties)))
