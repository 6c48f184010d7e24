use Rattle.std.proofs.Common.{◌≡◌, ◌++◌, take}
use Rattle.std.specs.List.{flat_map}
use Rattle.sj_resp.specs.Spelling.{word_text}
use Rattle.sj_streams.specs.Words.{words_at}
use Rattle.sj_join.proofs.talk.put_keys.Given as goal

abbrev pub invariant-loop-key : goal.invariant-loop-key
invariant-loop-key l = l.out.items ≡ l.fn.out.items ++ flat_map word_text (words_at (take l.key-index l.keys))
