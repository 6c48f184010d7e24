use Rattle.std.proofs.Common.{◌∙◌, ap}
use Rattle.sj_grammar.specs.Lexis.{next_of}
use Rattle.sj_grammar.specs.Reading.{Reading, answer_to, reading_after}
use Rattle.sj_proto.proofs.PositionLemmas.{reading_at, bad_answer, piece_answer, piece_after}
use Rattle.sj_proto.proofs.tokens.Tokens.next.Goals as goal

pub returns-in-Bad-clause-answer : goal.returns-in-Bad-clause-answer
returns-in-Bad-clause-answer c =
    let xs = c.self.inside.bytes.now in
    let at = c.self.inside.at in
    let ahead = c.in-Bad.ensures.ahead in
    bad_answer xs at c.in-Bad.to c.in-Bad.rule _ _ ahead.0 ahead.1 c.position-line-in-Bad.ensures
    ∙ ap (answer_to (reading_at xs at)) c.in-Bad.ensures.found
    ∙ ap (λ (r : Reading). answer_to r (next_of r.ahead)) c.self.view_is

pub returns-in-Piece-clause-answer : goal.returns-in-Piece-clause-answer
returns-in-Piece-clause-answer c =
    let xs = c.self.inside.bytes.now in
    let at = c.self.inside.at in
    let ahead = c.in-Piece.ensures.ahead in
    piece_answer xs at c.in-Piece.from c.in-Piece.to c.in-Piece.what _ _ ahead.0 ahead.1 ahead.2 c.position-line-in-Piece.ensures
    ∙ ap (answer_to (reading_at xs at)) c.in-Piece.ensures.found
    ∙ ap (λ (r : Reading). answer_to r (next_of r.ahead)) c.self.view_is

pub returns-in-Piece-clause-after : goal.returns-in-Piece-clause-after
returns-in-Piece-clause-after c =
    let xs = c.self.inside.bytes.now in
    let at = c.self.inside.at in
    let ahead = c.in-Piece.ensures.ahead in
    piece_after xs at c.in-Piece.from c.in-Piece.to c.in-Piece.what ahead.0 ahead.1 ahead.2
    ∙ ap (reading_after (reading_at xs at)) c.in-Piece.ensures.found
    ∙ ap (λ (r : Reading). reading_after r (next_of r.ahead)) c.self.view_is
