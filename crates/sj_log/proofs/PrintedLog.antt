-- A log that is printed is read as its lines.
use Rattle.std.proofs.Common.{◌≡◌, ℕ, ◌+◌, ◌≤◌, Bool, true, false, ◌||◌, List, [], ◌∷◌, ◌++◌, Ok, refl, ap, ◌∙◌, arith}
use Rattle.std.specs.Prelude.{◌==◌, decimal, if◌then◌else◌}
use Rattle.std.specs.List.{list_any}
use Rattle.std.proofs.lemmas.Bool.{lt-ltb}
use Rattle.sj_print.specs.Version.{is_opening, knows_openings, version_of}
use Rattle.std.specs.List.{slice_split, join_with_byte}
use Rattle.std.proofs.lemmas.List.{append_assoc}
use Rattle.sj_lang.specs.FileAt.{FileAt}
use Rattle.sj_semantics.specs.Lines.{name_of}
use Rattle.sj_rules.specs.Log.{LineAt}
use Rattle.sj_print.specs.LogLine.{log_line, log_text, origin_words, note_words}
use Rattle.sj_log.specs.LogText.{lines_read, before, SpellsLog}
use Rattle.sj_log.specs.Legible.{IsLegible, AreLegible}
use Rattle.sj_fields.proofs.WordLemmas.{some_part}
use Rattle.sj_log.proofs.LogLemmas.{read_first}
use Rattle.sj_log.proofs.PartedWords.{line_is, line_first}
use Rattle.sj_log.proofs.PrintedEvents.{whole_words, line_back}
use Rattle.sj_log.proofs.PrintedLines.{whole_line}

first_printed : (file : FileAt) (l : LineAt) (more : List ℕ) → IsLegible file l
    → slice_split (λ b. b == 10) (log_line file l ++ more) ≡ join_with_byte 32 (whole_words file l) ∷ slice_split (λ b. b == 10) more
first_printed file l more h =
    ap (λ t. slice_split (λ b. b == 10) (t ++ more)) (line_is (decimal l.entry.clock) (name_of file l.party ∷ (origin_words file l.entry.event ++ note_words file l.entry.note)))
    ∙ ap (slice_split (λ b. b == 10)) (append_assoc (join_with_byte 32 (whole_words file l)) (10 ∷ []) more)
    ∙ line_first (join_with_byte 32 (whole_words file l)) more (whole_line file l h)

at_least : (b r : Bool) (version : ℕ) → (if b || r then 2 else 1) ≤ version → (b ≡ true → knows_openings version ≡ true) × ((if r then 2 else 1) ≤ version)
at_least true true version h = (λ e. lt-ltb 1 version h, h)
at_least true false version h = (λ e. lt-ltb 1 version h, omega arith)
at_least false true version h = (λ e. lt-ltb 1 version h, h)
at_least false false version h = (λ e. cc, h)

lines_back : (version : ℕ) (file : FileAt) (n : ℕ) (ls : List LineAt) → version_of ls ≤ version → AreLegible file ls
    → lines_read version file n (slice_split (λ b. b == 10) (log_text file ls)) ≡ Ok ls
lines_back version file n [] v h = refl
lines_back version file n (l ∷ ls) v h =
    let k = at_least (is_opening l.entry.note) (list_any (λ x. is_opening x.entry.note) ls) version v in
    ap (lines_read version file n) (first_printed file l (log_text file ls) h.0)
    ∙ read_first version file n (join_with_byte 32 (whole_words file l)) (slice_split (λ b. b == 10) (log_text file ls)) (some_part (λ b. b == 10) (log_text file ls))
    ∙ (λ i. before n (line_back version file l k.0 h.0 i) (lines_back version file (n + 1) ls k.1 h.1 i))

pub printed_back : (version : ℕ) (file : FileAt) (ls : List LineAt) → version_of ls ≤ version → AreLegible file ls → SpellsLog version file (log_text file ls) ls
printed_back version file ls v h = lines_back version file 1 ls v h
