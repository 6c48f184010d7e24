use Rattle.std.proofs.Common.{◌≡◌, ◌∙◌, ap, sym, List}
use Rattle.std.proofs.Math.Seq.{drop-length}
use Rattle.sj_lang.specs.declared.file.Connect.{Connect}
use Rattle.sj_acceptance.specs.FileTests.{at_start}
use Rattle.sj_check.specs.Seen.{defs_in, env_in}
use Rattle.sj_check.specs.Views.{connects_of}
use Rattle.sj_check.proofs.SeenLemmas.{env_in-no_spots}
use Rattle.sj_check.proofs.ends.at_start.Goals as goal

pub loop-i-init : goal.loop-i-init
loop-i-init c =
    let ps = c.args.protocols.now in
    ap (env_in ps) c.new-env.ensures ∙ env_in-no_spots ps
    ∙ ap (λ (cs : List Connect). at_start (defs_in ps) (connects_of cs) c.args.party) (sym (drop-length c.args.connects.now))
