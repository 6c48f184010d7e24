use Rattle.std.proofs.Common.{◌≡◌, ◌++◌, drop, map}
use Rattle.sj_engine.specs.Lanes.{pushed_on}
use Rattle.sj_lang.specs.FileView.{file_of}
use Rattle.sj_streams.specs.Words.{words_at}
use Rattle.sj_remote_run.specs.Entries.{entry_words, frames_from}
use Rattle.sj_remote_run.proofs.entries.batch_words.Given as goal

-- all words are those that are there and those of the lanes that are left
abbrev pub invariant-loop-to : goal.invariant-loop-to
invariant-loop-to l = entry_words (file_of l.file) l.party l.entries (map pushed_on l.outs) ≡ words_at l.words.items ++ frames_from l.party l.to (map pushed_on (drop l.to l.outs))
