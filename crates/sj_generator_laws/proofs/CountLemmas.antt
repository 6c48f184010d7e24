-- What the parties and sessions of a group add to what is counted.
use Rattle.std.proofs.Common.{◌≡◌, ℕ, ◌+◌, List, ◌∷◌, sum_by, arith}
use Rattle.std.proofs.lemmas.List.Sums.{sum_by-cons}
use Rattle.sj_semantics.specs.Ends.{Session}
use Rattle.sj_semantics.specs.Program.{Program}
use Rattle.sj_semantics.specs.Value.{no_vars}
use Rattle.sj_generator_laws.proofs.GroupStateLemmas.{ended, Outcome, parties_of, sessions_of, sent_in}

-- what a group adds
pub steps_of : (o : Outcome) (gs : List Program) → sum_by (λ g. g.steps) (parties_of o gs) ≡ o.sender_steps + o.adder_steps + 2 + sum_by (λ g. g.steps) gs
steps_of o gs =
    let a = ended o.sender_vars o.sender_steps in
    let b = ended no_vars 2 in
    let c = ended o.adder_vars o.adder_steps in
    let steps : Program → ℕ = λ g. g.steps in
    omega (arith, sum_by-cons steps a (b ∷ c ∷ gs), sum_by-cons steps b (c ∷ gs), sum_by-cons steps c gs)

pub messages_of : (o : Outcome) (zs : List Session) → sum_by sent_in (sessions_of o zs) ≡ sent_in o.one + sent_in o.other + sum_by sent_in zs
messages_of o zs = omega (arith, sum_by-cons sent_in o.one (o.other ∷ zs), sum_by-cons sent_in o.other zs)
