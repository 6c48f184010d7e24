use Rattle.std.proofs.Common.{◌≡◌, ◌+◌, ◌∙◌, ap, arith, length, List}
use Rattle.sj_semantics.specs.declared.Opened.{Opened}
use Rattle.sj_plain.specs.Opened.{before_in, requests_in}
use Rattle.sj_plain.proofs.OpenedLemmas.{before_next}
use Rattle.sj_plain.proofs.OrderLemmas.{added_in_order, added_requests, put_in, still_in_order}
use Rattle.sj_plain.proofs.sessions.add.Goals as goal

abbrev place : (c : goal.In_ok-insert) → c.own-at.result.1 ≡ before_in c.args.opened.now.items c.args.session.from + length (requests_in c.args.opened.now.items c.args.session.from)
place c = omega (arith, c.own-at.ensures.end, ap (λ (t : List Opened). before_in t (c.args.session.from + 1)) c.deref.ensures.value, before_next c.args.opened.now.items c.args.session.from)

abbrev lies : (c : goal.In_ok-insert) → c.insert.new.self.items ≡ put_in (before_in c.args.opened.now.items c.args.session.from + length (requests_in c.args.opened.now.items c.args.session.from)) c.args.session c.args.opened.now.items
lies c = c.in_ok-insert.ensures.items ∙ ap (λ t. put_in t c.args.session c.args.opened.now.items) (place c)

pub returns-clause-ok : goal.returns-clause-ok
returns-clause-ok c =
    added_requests c.args.opened.now.items c.insert.new.self.items c.args.session c.requires.order.parties c.requires.order.there c.requires.order.ordered
    (added_in_order c.args.opened.now.items c.insert.new.self.items c.args.session c.requires.order.parties c.requires.order.there c.requires.order.ordered c.requires.number (lies c))

pub returns-clause-order : goal.returns-clause-order
returns-clause-order c = λ n below order.
    let is = added_in_order c.args.opened.now.items c.insert.new.self.items c.args.session n below order c.requires.number (lies c) in
    still_in_order c.insert.new.self.items _ n is (added_requests c.args.opened.now.items c.insert.new.self.items c.args.session n below order is)
