use Rattle.std.proofs.Common.{◌≡◌, ◌++◌, take, map}
use Rattle.std.specs.List.{flat_map}
use Rattle.sj_resp.specs.Spelling.{word_text}
use Rattle.sj_streams.specs.Keys.{id_text}
use Rattle.sj_streams.proofs.commands.put_ids.Given as goal

abbrev pub invariant-loop-number : goal.invariant-loop-number
invariant-loop-number l = l.out.items ≡ l.fn.out.items ++ flat_map word_text (map id_text (take l.number-index l.numbers))
