-- What came of a file.
use Rattle.std.specs.Prelude.{◌≡◌, Some}
use Rattle.sj_lang.specs.declared.file.File.{File}
use Rattle.sj_lang.specs.FileView.{file_of}
use Rattle.sj_acceptance.specs.Accepted.{IsAccepted}
use Rattle.sj_acceptance.specs.Faults.{first_fault}
use Rattle.sj_acceptance.specs.FileTests.{tests_of}
use Rattle.sj_check.specs.Held.{file_in}
use Rattle.sj_tool.specs.declared.files.Judged.{Judged}
use Rattle.sj_tool.specs.declared.files.Judged.TheVariants.{Accepted, Fault}

-- it is accepted and held, or has that first fault
abbrev pub IsJudged : File → Judged → Type 0
IsJudged file (Accepted a) = (file_in a ≡ file) × IsAccepted (file_of file)
IsJudged file (Fault rule line) = first_fault (tests_of (file_of file)) ≡ Some (rule, line)
