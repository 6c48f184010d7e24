-- A forwarding world before any event needs no words of its file.
use Rattle.std.proofs.Common.{◌≡◌, ℕ, ◌*◌, [], length, slice_get, unwrap_or, ap}
use Rattle.sj_lang.specs.FileAt.{FileAt}
use Rattle.sj_plain.specs.SharedFile.{without_words}
use Rattle.sj_plain.proofs.BeginLemmas.{start_same}
use Rattle.sj_rules.specs.Party.{nobody}
use Rattle.sj_semantics.specs.Program.{limit_of_steps}
use Rattle.sj_semantics.specs.Run.{end_of, rounds}
use Rattle.sj_forward_rules.specs.Start.{first_node, forward_start}

pub first_same : (file : FileAt) (p : ℕ) → first_node (without_words file) p ≡ first_node file p
first_same file p = λ i. record {
  program = unwrap_or (slice_get (start_same file i).parties p) nobody;
  requests = 0;
  offers = λ from. [];
  uses = (first_node file p).uses;
  records = (first_node file p).records;
}

pub forward_start_same : (file : FileAt) → forward_start (without_words file) ≡ forward_start file
forward_start_same file = λ i. record { nodes = λ p. first_same file p i; lanes = λ from to. [] }

-- nor does the end of the file
pub end_same : (file : FileAt) → end_of (without_words file) ≡ end_of file
unfolding end_of
end_same file = ap (rounds (limit_of_steps * length file.parties)) (start_same file)
