-- How `big` reports how much was done in a plain world.
use Rattle.std.specs.Prelude.{ℕ, List, [], ◌∷◌, ◌++◌, codes, decimal, length}
use Rattle.sj_lang.specs.FileAt.{FileAt}
use Rattle.sj_generator_laws.specs.Counts.{messages_in, steps_in}
use Rattle.sj_semantics.specs.State.{verdict_of}
use Rattle.sj_semantics.specs.Transcript.{line_of, verdict_word}
use Rattle.sj_semantics.specs.World.{World}

-- the generated file's number, how many parties and sessions it has, and how much was done
abbrev pub sums_line : ℕ → FileAt → (messages steps : ℕ) → List ℕ
sums_line n file messages steps =
    line_of (
    codes "big" ∷ decimal n ∷ codes "parties" ∷ decimal (length file.parties) ∷ codes "sessions" ∷ decimal (length file.connects)
    ∷ codes "messages" ∷ decimal messages ∷ codes "steps" ∷ decimal steps ∷ [])

-- that line of a world, and below it the verdict
abbrev pub summary : ℕ → FileAt → World → List ℕ
summary n file w = sums_line n file (messages_in w) (steps_in w) ++ line_of (verdict_word (verdict_of w) ∷ [])
