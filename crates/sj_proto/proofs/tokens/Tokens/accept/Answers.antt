use Rattle.std.proofs.Common.{◌≡◌, drop, ◌-◌, take}
use Rattle.std.proofs.lemmas.Bool.Decides.{Decides-eqb}
use Rattle.std.proofs.lemmas.Slice.Eq.{slice_eq-Decides}
use Rattle.sj_proto.proofs.PositionLemmas.{taken_is}
use Rattle.sj_proto.proofs.tokens.Tokens.accept.Goals as goal

pub returns-then-eq-clause-taken : goal.returns-then-eq-clause-taken
returns-then-eq-clause-taken c = λ _.
    let xs = c.self.inside.bytes.now in
    let same : take (c.in-Piece.to - c.in-Piece.from) (drop c.in-Piece.from xs) ≡ c.args.spelled.now = (slice_eq-Decides Decides-eqb _ _ _ c.eq.ensures).0 c.if-eq.true in
    taken_is xs c.self.inside.at c.in-Piece.from c.in-Piece.to c.in-Piece.field-0 c.args.spelled.now c.args.self.now c.self.view_is c.in-Piece.ensures.found same
    c.in-Piece.ensures.ahead.0 c.in-Piece.ensures.ahead.1 c.in-Piece.ensures.ahead.2
