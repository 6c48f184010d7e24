use Rattle.std.proofs.Common.{◌≡◌, ℕ, List, ◌+◌, ◌++◌, length, ap, ◌∙◌, arith}
use Rattle.std.specs.List.{flat_map}
use Rattle.std.proofs.lemmas.List.{length-map}
use Rattle.std.proofs.lemmas.Result.{on_ok_weaker}
use Rattle.sj_resp.specs.Spelling.{word_text}
use Rattle.sj_streams.specs.Commands.{add_words}
use Rattle.sj_streams.specs.Words.{words_at}
use Rattle.sj_streams.proofs.CommandLemmas.{command_parts}
use Rattle.sj_streams.proofs.commands.put_add.Goals as goal

pub returns : goal.returns
returns c =
    let words = add_words c.args.key.now c.args.number (words_at c.args.words.now) in
    let count : length (words_at c.args.words.now) ≡ length c.args.words.now = length-map c.args.words.now (λ w. w.items) in
    let many : length c.args.words.now + 3 ≡ length words = omega (arith, count) in
    on_ok_weaker c.put_add_words.result
    (λ e. e ∙ ap (λ (t : List ℕ). t ++ flat_map word_text words) c.in_ok-put_command.ensures.ok ∙ command_parts c.args.out.now.items (length c.args.words.now + 3) words many)
    c.put_add_words.ensures
