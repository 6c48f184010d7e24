-- The lines of parties in a transcript, by how each stands.
use Rattle.std.specs.Prelude.{ℕ, List, [], ◌∷◌, ◌++◌, codes}
use Rattle.sj_lang.specs.FileAt.{FileAt, PartyAt}
use Rattle.sj_semantics.specs.declared.State.{State}
use Rattle.sj_semantics.specs.Transcript.{line_of, state_words, word_at}

-- of parties that stand so after so many steps
abbrev pub standing_lines : FileAt → List PartyAt → List ℕ → List State → List ℕ
standing_lines file (q ∷ qs) (n ∷ ns) (x ∷ xs) = line_of (codes "party" ∷ word_at file.words q.name ∷ state_words file n x) ++ standing_lines file qs ns xs
standing_lines file _ _ _ = []
