-- A history that a drain made longer: its first events are those from before, the others the drain's.
use Rattle.std.proofs.Common.{◌≡◌, ◌∙◌, ◌≤◌, ℕ, List, ◌++◌, length, length-append, take, drop, ap, sym, subst, arith, map, max}
use Rattle.std.proofs.Math.Seq.{drop-append_seam, take-append_seam}
use Rattle.std.proofs.lemmas.List.{length-map}
use Rattle.sj_end.specs.Lines.{line_at}
use Rattle.sj_end.specs.declared.note.Line.{Line}
use Rattle.sj_lang.specs.FileAt.{FileAt}
use Rattle.sj_lang.specs.Place.{Place}
use Rattle.sj_plain.specs.SharedFile.{without_words}
use Rattle.sj_rules.specs.Drain.{IsDrained}
use Rattle.sj_rules.specs.History.{IsHistory, IsQuietAmong, turn_of}
use Rattle.sj_rules.specs.Log.{LineAt}
use Rattle.sj_rules.specs.Party.{play_of}
use Rattle.sj_rules.specs.World.{WorldAt}
use Rattle.sj_semantics.specs.Program.{Program}
use Rattle.uses.specs.Runs.{DrainsRest}
use Rattle.sj_core.proofs.EndLemmas.{kept_history}

-- as many lines are there as are seen
pub many_seen : (lines : List Line) (seen : List LineAt) → map line_at lines ≡ seen → length lines ≡ length seen
many_seen lines seen are = sym (length-map lines line_at) ∙ ap (λ (xs : List LineAt). length xs) are

module _ (before : List Line) (old new more : List LineAt) (seen : map line_at before ≡ old) (goes_on : new ≡ old ++ more) where
  many : length before ≡ length old
  many = many_seen before old seen

  pub first_are : take (length before) new ≡ old
  first_are = ap (λ (k : ℕ). take k new) many ∙ ap (λ (xs : List LineAt). take (length old) xs) goes_on ∙ take-append_seam old more

  rest_are : drop (length before) new ≡ more
  rest_are = ap (λ (k : ℕ). drop k new) many ∙ ap (λ (xs : List LineAt). drop (length old) xs) goes_on ∙ drop-append_seam old more

  pub few_are : length before ≤ length new
  few_are = omega (arith, many, ap (λ (xs : List LineAt). length xs) goes_on, length-append old more)

  -- what a drain did of a world of what is kept of the file
  pub drains : (file kept : FileAt) (parties : ℕ) (left core : WorldAt Place Program) → kept ≡ without_words file → parties ≡ length kept.parties → IsHistory max kept old left
      → IsDrained (play_of kept) max parties left (map turn_of more) core → DrainsRest file (length before) new core
  drains file kept parties left core without all led drained = record {
    left = left;
    leads = subst (λ (xs : List LineAt). IsHistory max file xs left) (sym first_are) (kept_history file kept old left without led);
    drained =
        subst (λ (xs : List LineAt). IsDrained (play_of file) max (length file.parties) left (map turn_of xs) core) (sym rest_are)
        (subst (λ (f : FileAt). IsDrained (play_of f) max (length f.parties) left (map turn_of more) core) without
        (subst (λ (k : ℕ). IsDrained (play_of kept) max k left (map turn_of more) core) all drained));
  }

-- a quiet world of what is kept of a file is one of the file
pub quiet_kept : (file kept : FileAt) (parties : ℕ) (core : WorldAt Place Program) → kept ≡ without_words file → parties ≡ length kept.parties
    → IsQuietAmong (play_of kept) parties core → IsQuietAmong (play_of file) (length file.parties) core
quiet_kept file kept parties core without all quiet =
    subst (λ (f : FileAt). IsQuietAmong (play_of f) (length f.parties) core) without
    (subst (λ (k : ℕ). IsQuietAmong (play_of kept) k core) all quiet)
