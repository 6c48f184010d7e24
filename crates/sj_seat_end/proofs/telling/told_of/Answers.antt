use Rattle.sj_lang.specs.FileView.{file_of}
use Rattle.sj_seat_end.proofs.EndLemmas.{told_by}
use Rattle.sj_seat_end.proofs.telling.told_of.Goals as goal

pub returns : goal.returns
returns c =
    told_by (file_of c.args.file.now) c.args.world.now c.new-text.result.items c.put_transcript.new.text.items c.in-Ok-stands.stands.items c.deref.result.now c.in-Ok-opened.opened.items c.deref-2.result.now c.verdict-verdict.result
    c.new-text.ensures.items c.requires.quiet c.in-Ok.ensures.ok c.in-Ok-stands.ensures.stands c.in-Ok-opened.ensures.end c.deref.ensures.value c.deref-2.ensures.value c.verdict-verdict.ensures.world
