-- What the lines of a history that leaves nothing to do, and how its parties stand, report of the
-- end of the file.
use Rattle.std.proofs.Common.{◌≡◌, ◌∙◌, ◌+◌, ◌*◌, ◌<◌, ◌≤◌, ℕ, max, List, [], ◌∷◌, ◌++◌, drop, get_or, length, map, refl, ap, sym, arith}
use Rattle.std.specs.Prelude.{sum_by}
use Rattle.std.proofs.lemmas.List.{at_drop_more, drop_all, length-map}
use Rattle.std.proofs.lemmas.List.Sums.{sum_by-cons}
use Rattle.sj_acceptance.specs.Accepted.{IsAccepted}
use Rattle.sj_lang.specs.FileAt.{FileAt}
use Rattle.sj_lang.specs.Place.{Place}
use Rattle.sj_semantics.specs.Ends.{other_end}
use Rattle.sj_semantics.specs.Program.{Program}
use Rattle.sj_semantics.specs.Run.{end_of}
use Rattle.sj_semantics.specs.State.{opened_in, verdict_of}
use Rattle.sj_semantics.specs.Transcript.{line_of, verdict_word}
use Rattle.sj_semantics.specs.World.{World}
use Rattle.sj_semantics.specs.declared.Verdict.{Verdict}
use Rattle.sj_generator_laws.specs.Counts.{messages_in, steps_in}
use Rattle.sj_core.proofs.LawLemmas.{max_picks}
use Rattle.sj_rules.specs.History.{IsHistory, IsQuietAmong}
use Rattle.sj_rules.specs.Log.{LineAt}
use Rattle.sj_rules.specs.Party.{play_of}
use Rattle.sj_rules.specs.World.{WorldAt}
use Rattle.sj_told.specs.declared.told.Stand.{Stand}
use Rattle.sj_told.specs.declared.told.ToldEnd.{ToldEnd}
use Rattle.sj_told.specs.Lines.{AreToldBy}
use Rattle.sj_told.specs.Told.{AreEnds, AreStands}
use Rattle.sj_told_laws.proofs.EndLemmas.{end_count, end_parties, end_sent, end_takers}
use Rattle.sj_print.proofs.PartLemmas.{session_count-run}
use Rattle.sj_tool.specs.Runs.{actors}
use Rattle.sj_tool.specs.Sums.{summary, sums_line}
use Rattle.sj_tool.specs.Telling.{IsToldIn}
use Rattle.sj_core.proofs.EndLemmas.{quiet_ends}

-- there is one for each party
as_many : (w : World) (stands : List Stand) → AreStands w stands → length stands ≡ length w.parties
as_many w stands are =
    sym (length-map stands (λ (s : Stand). s.steps)) ∙ ap length are.steps ∙ length-map w.parties (λ (g : Program). g.steps)

module _ (file : FileAt) (accepted : IsAccepted file) (history : List LineAt) (core : WorldAt Place Program) (run : IsHistory max file history core) (quiet : IsQuietAmong (play_of file) (length file.parties) core) (stands : List Stand) (are : AreStands (end_of file) stands) where
  abbrev pub told_in_end : opened_in (end_of file) ≡ [] → IsToldIn file history stands (end_of file)
  told_in_end none = record {
    opened = none;
    sessions = session_count-run file (actors history) (end_of file) (quiet_ends file accepted history core run quiet);
    sent = λ e. end_sent file accepted max max_picks history core run quiet e;
    takers = λ e. end_takers file accepted max max_picks history core run quiet e;
    messages = end_count file accepted max max_picks history core run quiet;
    parties = are;
  }

  pub all_stand : length stands ≡ length file.parties
  all_stand = as_many (end_of file) stands are ∙ end_parties file accepted max max_picks history core run quiet

-- ends that the lines report are those of the world
pub ends_are : (file : FileAt) (lines : List LineAt) (stands : List Stand) (w : World) (ends : List ToldEnd) (n : ℕ) → n ≡ length file.connects → IsToldIn file lines stands w → AreToldBy lines n ends → AreEnds file w ends
ends_are file lines stands w ends n same told by = record {
  count = by.count ∙ ap (λ k. 2 * k) same;
  each = λ e x is. let own = by.each e x is in record { sent = own.sent ∙ sym (told.sent e); takers = own.takers ∙ sym (told.takers (other_end e)) };
}

-- ---- sums

pub stand_more : (stands : List Stand) (i count more : ℕ) (d : Stand) (all : ℕ) → i < length stands → count + sum_by (λ s. s.steps) (drop i stands) ≡ all → more ≡ count + (get_or stands i d).steps
    → more + sum_by (λ s. s.steps) (drop (i + 1) stands) ≡ all
stand_more stands i count more d all lt so_far added =
    let next = at_drop_more (sum_by (λ (s : Stand). s.steps)) stands i d lt ∙ sum_by-cons (λ (s : Stand). s.steps) (get_or stands i d) (drop (i + 1) stands) in
    omega (arith, next, so_far, added)

pub stand_over : (stands : List Stand) (i : ℕ) → length stands ≤ i → sum_by (λ s. s.steps) (drop i stands) ≡ 0
stand_over stands i over = ap (λ (xs : List Stand). sum_by (λ s. s.steps) xs) (drop_all i stands over)

abbrev sum_list : List ℕ → ℕ
sum_list xs = sum_by (λ x. x) xs

sum_map : {X : Type 0} (f : X → ℕ) (xs : List X) → sum_by f xs ≡ sum_list (map f xs)
sum_map f [] = refl
sum_map f (x ∷ xs) = sum_by-cons f x xs ∙ ap (λ n. f x + n) (sum_map f xs) ∙ sym (sum_by-cons (λ x. x) (f x) (map f xs))

pub steps_are : (w : World) (stands : List Stand) → AreStands w stands → sum_by (λ s. s.steps) stands ≡ steps_in w
steps_are w stands are = sum_map (λ (s : Stand). s.steps) stands ∙ ap sum_list are.steps ∙ sym (sum_map (λ (g : Program). g.steps) w.parties)

pub summary_is : (n : ℕ) (file : FileAt) (w : World) (messages steps : ℕ) (v : Verdict) → messages ≡ messages_in w → steps ≡ steps_in w → v ≡ verdict_of w
    → sums_line n file messages steps ++ line_of (verdict_word v ∷ []) ≡ summary n file w
summary_is n file w messages steps v m s e = λ i. sums_line n file (m i) (s i) ++ line_of (verdict_word (e i) ∷ [])
