-- A history as a log.
use Rattle.std.specs.Prelude.{ℕ, List, ◌++◌}
use Rattle.sj_lang.specs.FileAt.{FileAt}
use Rattle.sj_print.specs.LogLine.{log_text}
use Rattle.sj_print.specs.Version.{mark_of, version_of}
use Rattle.sj_rules.specs.Log.{LineAt}

-- the line of its version, and then its lines
abbrev pub history_text : FileAt → List LineAt → List ℕ
history_text file lines = mark_of (version_of lines) ++ log_text file lines
