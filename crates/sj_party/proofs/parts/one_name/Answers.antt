use Rattle.std.proofs.Common.{ℕ, false, ◌∷◌}
use Rattle.sj_grammar.specs.FileDues.{name}
use Rattle.sj_grammar.specs.Refusals.{OnFault}
use Rattle.sj_grammar.specs.Asked.{Refuses, but_name}
use Rattle.sj_proto.specs.Parsed.{standing, Stops}
use Rattle.sj_proto.proofs.ExitLemmas.{if_err_map}
use Rattle.sj_party.proofs.PartLemmas.{name_stops}
use Rattle.sj_party.proofs.parts.one_name.Goals as goal

pub returns-clause-fault : goal.returns-clause-fault
returns-clause-fault c =
    if_err_map c.take_name.result (OnFault (Refuses (but_name false) c.args.tokens.now)) (λ e. (n : ℕ) → Stops (λ ds. name ∷ ds) n (standing c.args.tokens.now c.args.names.now) e)
    (λ e h. name_stops c.args.tokens.now c.args.names.now e h) c.take_name.ensures.fault
