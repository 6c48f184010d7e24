-- The file in an accepted one.
use Rattle.std.specs.Arc.{arc_value}
use Rattle.sj_lang.specs.declared.file.File.{File}
use Rattle.sj_check.specs.declared.accepted.Accepted.{Accepted}

-- the file
abbrev pub file_in : Accepted → File
file_in a = arc_value a.file
