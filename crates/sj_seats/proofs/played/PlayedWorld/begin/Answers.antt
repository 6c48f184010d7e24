use Rattle.std.proofs.Common.{◌+◌, ◌≤◌, ◌≡◌, ◌++◌, ◌∷◌, ◌∙◌, [], List, ap, refl, length, map, subst, sym, take, arith}
use Rattle.sj_acceptance.specs.Accepted.{IsAccepted}
use Rattle.sj_check.specs.Held.{file_in as held}
use Rattle.sj_end.specs.declared.note.Line.{Line}
use Rattle.sj_end.specs.Lines.{line_at}
use Rattle.sj_lang.specs.FileView.{file_of}
use Rattle.sj_lang.specs.declared.file.File.{File}
use Rattle.sj_node.specs.declared.node.Node.{Node}
use Rattle.sj_plain.specs.SharedFile.{file_kept, without_words}
use Rattle.sj_table.specs.Spots.{start_in}
use Rattle.sj_table.specs.declared.table.Table.{Table}
use Rattle.sj_seat.specs.Places.{CarriesPlaces}
use Rattle.sj_seats.specs.Beginning.{AreBegun}
use Rattle.sj_seats.proofs.BeginningLemmas.{all_begun, next_begun}
use Rattle.sj_seats.proofs.StartLemmas.{reached_first, seats_are}
use Rattle.sj_seats.proofs.played.PlayedWorld.begin.Goals as goal

pub loop-party-preserved : goal.loop-party-preserved
loop-party-preserved c =
    let file = file_of (held c.args.accepted.now) in
    let t = c.args.table.now in
    let seats = c.args.seats.now in
    let p = c.loop-party.party in
    subst (λ (ns : List Node). AreBegun file t (take (p + 1) seats) ns c.push-in-loop-party.new.self.items) (sym c.in_ok-push.ensures.items)
    (subst (AreBegun file t (take (p + 1) seats) (c.loop-party.nodes.items ++ c.in_ok-node.node ∷ [])) (sym c.in_ok-push-2.ensures.items)
    (next_begun file t seats c.loop-party.nodes.items c.loop-party.chairs.items p _ c.in_ok-node.node c.in_ok-chair.chair c.loop-party-test.true c.loop-party.invariant c.in_ok-node.ensures c.in_ok-chair.ensures))

pub returns-clause-reached : goal.returns-clause-reached
returns-clause-reached c =
    let file = file_of (held c.args.accepted.now) in
    let seats = c.args.seats.now in
    let same : file_kept c.in_ok-kept.kept ≡ without_words file = ap (λ (f : File). without_words (file_of f)) c.in_ok-kept.ensures.value in
    let accepted = subst (λ (f : File). IsAccepted (file_of f)) c.in_ok-kept.ensures.value c.in_ok-kept.ensures.accepted in
    let u = c.in_ok-table.table in
    let end : length seats ≤ c.loop-party.party = omega (arith, c.loop-party-test.false) in
    reached_first _ file seats (record { file = file; accepted = accepted; same = same }) same
    (all_begun file c.args.table.now u seats c.loop-party.nodes.items c.loop-party.chairs.items c.loop-party.party c.in_ok-table.ensures end c.loop-party.invariant)
    c.requires.count
    (λ q. ap (λ (v : Table). start_in v q) c.in_ok-table.ensures ∙ c.requires.starts q)
    (subst CarriesPlaces (sym c.in_ok-table.ensures) c.requires.carries)
    (ap (λ (ls : List Line). map line_at ls) c.new-history.ensures.items)

pub returns-clause-seats : goal.returns-clause-seats
returns-clause-seats c =
    let file = file_of (held c.args.accepted.now) in
    let t = c.args.table.now in
    let seats = c.args.seats.now in
    let end : length seats ≤ c.loop-party.party = omega (arith, c.loop-party-test.false) in
    seats_are file t seats c.loop-party.nodes.items c.loop-party.chairs.items
    (all_begun file t t seats c.loop-party.nodes.items c.loop-party.chairs.items c.loop-party.party refl end c.loop-party.invariant)
    c.requires.count c.requires.starts
