use Rattle.sj_lang.specs.FileView.{file_of}
use Rattle.sj_seat_end.proofs.NameLemmas.{quiet_under, told_under}
use Rattle.sj_seat_end.proofs.telling.told_with.Goals as goal

pub told_of-requires : goal.told_of-requires
told_of-requires c = record {
  quiet = quiet_under (file_of c.args.file.now) (file_of c.in-Ok.named) c.args.texts c.args.world.now c.in-Ok.ensures c.requires.quiet;
}

pub returns-in-Ok : goal.returns-in-Ok
returns-in-Ok c = told_under (file_of c.args.file.now) (file_of c.in-Ok.named) c.args.texts c.args.world.now c.told_of.result c.in-Ok.ensures c.told_of.ensures
