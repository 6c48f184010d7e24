use Rattle.std.proofs.Common.{rules, ap, ◌∙◌, map}
use Rattle.std.specs.Prelude.{string_bytes}
use Rattle.clap.specs.Words.{App, found_of, first_of, is_simple, matches_of}
use Rattle.clap.proofs.WalkLemmas.{first_value-rows}
use Rattle.sj_command.proofs.LineLemmas.{broken_by}
use Rattle.sj_command.proofs.line.matches_in.Goals as goal

pub returns-in-Ok-clause-given : goal.returns-in-Ok-clause-given
returns-in-Ok-clause-given c id =
    let words = map string_bytes c.args.words.now in
    let rows = (c.in-Ok.ensures.matches (ap is_simple c.in_ok-line.ensures)).0 in
    first_value-rows (found_of c.in-Ok.matches) id ∙ ap (first_of id) (rows ∙ ap (λ (a : App). matches_of a words) c.in_ok-line.ensures)

pub returns-clause-refused : goal.returns-clause-refused
returns-clause-refused c e taken =
    broken_by _ (map string_bytes c.args.words.now) c.in-Err.error c.in_ok-line.ensures c.in-Err.ensures.kinds (λ memory. search rules) taken
