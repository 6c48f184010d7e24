use Rattle.std.proofs.Common.{ap, arith, length}
use Rattle.sj_lang.specs.FileAt.{FileAt}
use Rattle.sj_plain.specs.Plain as plain
use Rattle.sj_print.proofs.PartLemmas.{party_count-run}
use Rattle.sj_tool.proofs.plays.text_for.Goals as goal

pub summary_text-requires : goal.summary_text-requires
summary_text-requires c =
    let p = c.args.plain.now in
    let count = party_count-run (plain.kept_file p) (plain.acts_of p) (plain.world_at p) c.requires.run in
    let same = ap (λ (f : FileAt). length f.parties) c.requires.kept in
    omega (arith, count, same, c.requires.parties)
