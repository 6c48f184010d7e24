-- What is answered to the bytes of a transcript or a log.
use Rattle.std.specs.Prelude.{◌≡◌, ℕ, ◌-◌, ◌==◌, List, length, take, slice_index, if◌then◌else◌, nat_eq, ⊤}
use Rattle.std.specs.List.{slice_split}
use Rattle.sj_draw.specs.declared.texts.DrawRefusal.{DrawRefusal}
use Rattle.sj_draw.specs.declared.texts.DrawRefusal.TheVariants as refusals
use Rattle.sj_draw.specs.Drawn.{picture}
use Rattle.sj_draw.specs.Chart.{Outcome, Gathered, Unread, Beyond, empty, gathered}

-- what stands before the newline at the end, if there is one
abbrev pub whole_lines : List ℕ → List ℕ
whole_lines bytes = if slice_index bytes (length bytes - 1) == 10 then take (length bytes - 1) bytes else bytes

-- what stands between the newlines of a text
abbrev pub parted : List ℕ → List (List ℕ)
parted bytes = slice_split (λ b. nat_eq b 10) bytes

-- the lines of a text; there is always a first one, which may be empty
abbrev pub lines_of : List ℕ → List (List ℕ)
lines_of bytes = parted (whole_lines bytes)

abbrev pub outcome_of : List ℕ → Outcome
outcome_of bytes = gathered empty 1 (lines_of bytes)

-- the picture of what was gathered
abbrev pub IsDrawn : Outcome → List ℕ → Type 0
IsDrawn (Gathered f) svg = svg ≡ picture f
IsDrawn _ svg = ⊥

-- the first line that is none, or that passes a limit; out of memory may come at any time
abbrev pub IsRefused : Outcome → DrawRefusal → Type 0
IsRefused o refusals.NoMemory = ⊤
IsRefused (Unread n) (refusals.Unread m) = m ≡ n
IsRefused (Beyond n) (refusals.Beyond m) = m ≡ n
IsRefused _ _ = ⊥
