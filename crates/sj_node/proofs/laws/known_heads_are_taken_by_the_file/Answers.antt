use Rattle.std.proofs.Common.{ap, ◌∙◌}
use Rattle.sj_lang.specs.Place.{Place}
use Rattle.sj_semantics.specs.Program.{Program}
use Rattle.sj_rules.specs.Node.{Play, acts}
use Rattle.sj_rules.specs.Party.{play_for}
use Rattle.sj_node.specs.Play.{names_known}
use Rattle.sj_node.proofs.PlayLemmas.{acts_known, plays_file}
use Rattle.sj_node.proofs.laws.known_heads_are_taken_by_the_file.Goals as goal

pub returns : goal.returns
returns c = λ ps connects parties party n heads.
    ap (λ (play : Play Place Program). acts play party n) (plays_file ps connects parties) ∙ acts_known (play_for parties ps) (names_known connects parties) n party heads
