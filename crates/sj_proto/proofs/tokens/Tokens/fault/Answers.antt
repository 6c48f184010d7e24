use Rattle.std.proofs.Common.{◌≡◌, ℕ, ◌∙◌, ap, subst}
use Rattle.sj_grammar.specs.Reading.{Reading}
use Rattle.sj_proto.specs.Found.{found_of, spot_of, IsPosition}
use Rattle.sj_grammar.specs.Lexis.{next_of}
use Rattle.sj_proto.proofs.PositionLemmas.{reading_at, fault_found}
use Rattle.sj_proto.proofs.tokens.Tokens.fault.Goals as goal

pub returns : goal.returns
returns c =
    let xs = c.self.inside.bytes.now in
    let at = c.self.inside.at in
    let found = c.find-found.result in
    let same : reading_at xs at ≡ c.args.self.now = c.self.view_is in
    let next : found_of xs found ≡ next_of c.args.self.now.ahead = c.find-found.ensures.found ∙ ap (λ (r : Reading). next_of r.ahead) same in
    let position : IsPosition xs (spot_of xs found) c.position-line.result.0 c.position-line.result.1 =
    subst (λ (to : ℕ). IsPosition xs to c.position-line.result.0 c.position-line.result.1) c.fault_in-first.ensures.spot c.position-line.ensures in
    let fault = fault_found xs at c.args.rule found (next_of c.args.self.now.ahead) c.args.self.now c.position-line.result.0 c.position-line.result.1 same next c.self.invariant.within c.find-found.ensures.ahead position in
    (λ i. record { rule = c.fault_in-first.ensures.rule i; line = c.position-line.result.0; column = c.position-line.result.1 }) ∙ fault
