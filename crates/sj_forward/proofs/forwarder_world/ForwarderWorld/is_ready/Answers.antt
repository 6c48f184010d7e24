use Rattle.std.proofs.Common.{◌∙◌, ◌&&◌, Bool, ap, length, lt-ltb, refl, sym}
use Rattle.std.proofs.lemmas.Option.{slice_get_read}
use Rattle.sj_forward.specs.ForwarderWorld.{forwarders_in}
use Rattle.sj_forward.proofs.ReadyLemmas.{ready_told}
use Rattle.sj_forward.proofs.TurnLemmas.{plain_party}
use Rattle.sj_forward.proofs.forwarder_world.ForwarderWorld.is_ready.Goals as goal

pub steps-requires : goal.steps-requires
steps-requires c = plain_party c.args.self.now c.requires.reached c.args.party c.requires.there

pub returns-then-steps-lt-MAX_STEPS : goal.returns-then-steps-lt-MAX_STEPS
returns-then-steps-lt-MAX_STEPS c =
    let forwarders = forwarders_in c.args.self.now in
    let forwarder = c.index-forwarder.result.now in
    sym
    (ready_told c.args.self.now c.requires.reached c.args.party forwarder c.args.want
    (slice_get_read forwarders (length forwarders) c.args.party forwarder refl c.requires.there c.index-forwarder.ensures) c.requires.wants c.steps.result c.ready.result c.steps.ensures c.ready.ensures
    ∙ ap (λ (b : Bool). b && c.ready.result) (lt-ltb c.steps.result 10000 c.if-steps-lt-MAX_STEPS.true))
