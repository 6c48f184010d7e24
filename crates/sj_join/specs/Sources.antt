-- A run as the source of a replay.
use Rattle.std.specs.Prelude.{ℕ, List, ◌++◌}
use Rattle.sj_lang.specs.FileAt.{FileAt}
use Rattle.sj_print.specs.LogLine.{log_text}
use Rattle.sj_print.specs.Version.{mark_of, version_of}
use Rattle.sj_rules.specs.Log.{LineAt}

-- the line before a log, and the log of these lines
abbrev pub log_part : FileAt → List LineAt → List ℕ
log_part file lines = mark_of (version_of lines) ++ log_text file lines

-- the text of the file, and then those
abbrev pub source_text : (text : List ℕ) → FileAt → List LineAt → List ℕ
source_text text file lines = text ++ log_part file lines
