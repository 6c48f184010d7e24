-- A head and words are a command.
use Rattle.std.proofs.Common.{◌≡◌, ℕ, List, ◌++◌, length, ap, ◌∙◌, append_assoc}
use Rattle.std.specs.List.{flat_map}
use Rattle.sj_resp.specs.Spelling.{command_text, head_text, word_text}

pub command_parts : (out : List ℕ) (n : ℕ) (words : List (List ℕ)) → n ≡ length words → (out ++ head_text n) ++ flat_map word_text words ≡ out ++ command_text words
unfolding command_text
command_parts out n words e = append_assoc out (head_text n) (flat_map word_text words) ∙ ap (λ (k : ℕ). out ++ (head_text k ++ flat_map word_text words)) e
