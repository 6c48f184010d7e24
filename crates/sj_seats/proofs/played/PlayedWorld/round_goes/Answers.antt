use Rattle.std.proofs.Common.{◌≡◌, length, arith}
use Rattle.sj_seats.proofs.ListingLemmas.{goes_quiet}
use Rattle.sj_seats.proofs.played.PlayedWorld.round_goes.Goals as goal

pub returns-clause-none : goal.returns-clause-none
returns-clause-none c =
    let old = c.args.self.now.history in
    let new = c.round.new.self.history in
    let before : c.len-before.result ≡ length old.items = (let ok = old.ok in omega (arith, c.len-before.ensures, ok)) in
    let after : c.len.result ≡ length new.items = (let ok = new.ok in omega (arith, c.len.ensures, ok)) in
    λ none. goes_quiet c.args.self.now c.round.new.self c.len.result c.len-before.result after before none c.in_ok-round.ensures.goes
