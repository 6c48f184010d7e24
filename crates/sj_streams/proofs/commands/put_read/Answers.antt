use Rattle.std.proofs.Common.{◌≡◌, ℕ, List, ◌+◌, ◌∷◌, ◌++◌, length, map, ap, ◌∙◌, arith}
use Rattle.std.specs.Prelude.{codes}
use Rattle.std.specs.List.{flat_map}
use Rattle.std.proofs.lemmas.List.{length-map, length-append}
use Rattle.std.proofs.lemmas.Result.{on_ok_weaker}
use Rattle.sj_resp.specs.Spelling.{word_text}
use Rattle.sj_streams.specs.Commands.{block_words, read_words}
use Rattle.sj_streams.specs.Keys.{id_text}
use Rattle.sj_streams.specs.Words.{words_at}
use Rattle.sj_streams.proofs.CommandLemmas.{command_parts}
use Rattle.sj_streams.proofs.commands.put_read.Goals as goal

pub returns : goal.returns
returns c =
    let words = read_words c.args.most c.args.block (words_at c.args.keys.now) c.args.seen.now in
    let n = length c.args.keys.now + length c.args.seen.now + 4 + c.block_count.result in
    let keys : length (words_at c.args.keys.now) ≡ length c.args.keys.now = length-map c.args.keys.now (λ w. w.items) in
    let ids : length (map id_text c.args.seen.now) ≡ length c.args.seen.now = length-map c.args.seen.now id_text in
    let both : length (words_at c.args.keys.now ++ map id_text c.args.seen.now) ≡ length (words_at c.args.keys.now) + length (map id_text c.args.seen.now) = length-append (words_at c.args.keys.now) (map id_text c.args.seen.now) in
    let all : length (block_words c.args.block ++ (codes "STREAMS" ∷ (words_at c.args.keys.now ++ map id_text c.args.seen.now))) ≡ length (block_words c.args.block) + (1 + length (words_at c.args.keys.now ++ map id_text c.args.seen.now)) = length-append (block_words c.args.block) (codes "STREAMS" ∷ (words_at c.args.keys.now ++ map id_text c.args.seen.now)) ∙ ap (λ (k : ℕ). length (block_words c.args.block) + k) (omega arith) in
    let many : n ≡ length words = omega (arith, keys, ids, both, all, c.block_count.ensures) in
    on_ok_weaker c.put_read_words.result
    (λ e. e ∙ ap (λ (t : List ℕ). t ++ flat_map word_text words) c.in_ok-put_command.ensures.ok ∙ command_parts c.args.out.now.items n words many)
    c.put_read_words.ensures
