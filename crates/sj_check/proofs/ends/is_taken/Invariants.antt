use Rattle.std.proofs.Common.{◌≡◌, drop}
use Rattle.sj_acceptance.specs.FileTests.{is_taken}
use Rattle.sj_lang.specs.FileView.{decl_of}
use Rattle.sj_check.specs.Views.{connects_of}
use Rattle.sj_check.proofs.ends.is_taken.Given as goal

abbrev pub invariant-loop-connect : goal.invariant-loop-connect
invariant-loop-connect l = is_taken (decl_of l.end) (connects_of (drop l.connect-index l.earlier)) ≡ is_taken (decl_of l.end) (connects_of l.earlier)
