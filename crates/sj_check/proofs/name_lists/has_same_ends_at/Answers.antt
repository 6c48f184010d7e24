use Rattle.std.proofs.Common.{◌∙◌}
use Rattle.sj_check.specs.Seen.{env_in}
use Rattle.sj_check.proofs.NamedLemmas.{same-named}
use Rattle.sj_check.proofs.name_lists.has_same_ends_at.Goals as goal

pub returns : goal.returns
returns c = c.is_same_at.ensures ∙ same-named (env_in c.args.protocols.now c.args.a.now).ends (env_in c.args.protocols.now c.args.b.now).ends c.args.named.now c.requires
