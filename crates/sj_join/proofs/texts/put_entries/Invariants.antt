use Rattle.std.proofs.Common.{◌≡◌, ◌++◌, take, map}
use Rattle.std.specs.List.{flat_map}
use Rattle.sj_join.specs.Texts.{lines_at}
use Rattle.sj_streams.specs.Words.{words_at}
use Rattle.sj_join.proofs.texts.put_entries.Given as goal

abbrev pub invariant-loop-words : goal.invariant-loop-words
invariant-loop-words l = l.text.items ≡ l.fn.text.items ++ flat_map lines_at (map (λ e. words_at e.items) (take l.words-index l.entries))
