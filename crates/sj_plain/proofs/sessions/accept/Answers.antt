use Rattle.std.proofs.Common.{◌≡◌, ◌+◌, ◌∙◌, ap, arith, refl, List}
use Rattle.std.proofs.Math.ListN.{set}
use Rattle.sj_semantics.specs.declared.Opened.{Opened}
use Rattle.sj_semantics.specs.Uses.{altered_list}
use Rattle.sj_plain.specs.Opened.{accepted_session, before_in}
use Rattle.sj_plain.proofs.OpenedLemmas.{all_fit}
use Rattle.sj_plain.proofs.OrderLemmas.{accepted_order, accepted_requests, set_session, still_in_order}
use Rattle.sj_plain.proofs.sessions.accept.Goals as goal

pub overflow_add-start : goal.overflow_add-start
overflow_add-start c = omega (arith, c.requires.there, c.own-start.ensures.start, ap (λ (t : List Opened). before_in t c.args.from) c.deref.ensures.value, all_fit c.args.opened.now.items c.args.from)

pub index_mut-session-requires : goal.index_mut-session-requires
index_mut-session-requires c = omega (arith, c.requires.there, c.own-start.ensures.start, ap (λ (t : List Opened). before_in t c.args.from) c.deref.ensures.value, all_fit c.args.opened.now.items c.args.from)

abbrev lies : (c : goal.After-opened-1) → set c.args.opened.now.items (c.own-start.result.0 + c.args.number) (accepted_session c.args.name c.index_mut-session.result.now) ≡ altered_list c.args.opened.now.items (before_in c.args.opened.now.items c.args.from + c.args.number) (accepted_session c.args.name)
lies c =
    set_session c.args.opened.now.items (c.own-start.result.0 + c.args.number) c.args.name c.index_mut-session.result.now (accepted_session c.args.name c.index_mut-session.result.now)
    (omega (arith, c.requires.there, c.own-start.ensures.start, ap (λ (t : List Opened). before_in t c.args.from) c.deref.ensures.value, all_fit c.args.opened.now.items c.args.from)) c.index_mut-session.ensures.value refl
    ∙ ap (λ t. altered_list c.args.opened.now.items (t + c.args.number) (accepted_session c.args.name)) (c.own-start.ensures.start ∙ ap (λ (t : List Opened). before_in t c.args.from) c.deref.ensures.value)

pub returns-clause-ok : goal.returns-clause-ok
returns-clause-ok c = λ p q.
    let order = c.requires.order.1 in
    accepted_requests c.args.opened.now.items _ c.args.from q c.args.number c.args.name order.parties c.requires.there order.ordered
    (accepted_order c.args.opened.now.items _ c.args.from q c.args.number c.args.name order.parties c.requires.there order.ordered (lies c)) p

pub returns-clause-order : goal.returns-clause-order
returns-clause-order c = λ n order.
    let is = accepted_order c.args.opened.now.items _ c.args.from 0 c.args.number c.args.name n c.requires.there order (lies c) in
    still_in_order _ _ n is (accepted_requests c.args.opened.now.items _ c.args.from 0 c.args.number c.args.name n c.requires.there order is)
