use Rattle.std.proofs.Common.{refl}
use Rattle.sj_lang.specs.FileView.{file_of}
use Rattle.sj_forward.proofs.StartLemmas.{forwarder_first}
use Rattle.sj_forward.proofs.starts.first_forwarder.Goals as goal

pub returns : goal.returns
returns c = forwarder_first (file_of c.args.file.now) c.args.party _ c.in_ok-ends.ensures refl c.new.ensures.items c.new-2.ensures.items
