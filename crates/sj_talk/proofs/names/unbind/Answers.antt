use Rattle.std.proofs.Common.{rules, not, ◌∙◌, ap}
use Rattle.std.specs.Str.{bytes_eq}
use Rattle.std.proofs.lemmas.Fn.{filter_same}
use Rattle.sj_talk.proofs.NameLemmas.{freed}
use Rattle.sj_talk.specs.Play.{ends_at}
use Rattle.sj_talk.proofs.names.unbind.Goals as goal

pub returns : goal.returns
returns c =
    ap ends_at (filter_same _ (λ b. not (bytes_eq b.name.items c.args.name.now)) _ (λ x r f' k. search rules) c.args.ends.now.items c.retain.new.self.items c.retain.ensures.filtered)
    ∙ freed c.args.ends.now.items c.args.name.now
