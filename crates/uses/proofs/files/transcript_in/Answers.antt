use Rattle.sj_check.specs.Held.{file_in}
use Rattle.sj_lang.specs.FileView.{file_of}
use Rattle.uses.proofs.files.transcript_in.Goals as goal

pub returns-clause-ok : goal.returns-clause-ok
returns-clause-ok c = record {
  file = file_of (file_in c.in_ok-accepted.accepted);
  read = c.in_ok-accepted.ensures.ok;
  accepted = c.in_ok-accepted.ensures.accepted;
  is = c.in_ok-ending.ensures.transcript;
}
