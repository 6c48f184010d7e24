use Rattle.std.proofs.Common.{None, arith, ap, ◌+◌, ◌∙◌, get_or}
use Rattle.sj_semantics.specs.declared.Opened.{Opened}
use Rattle.sj_plain.proofs.OpenedLemmas.{all_fit}
use Rattle.sj_plain.proofs.OrderLemmas.{number_there}
use Rattle.sj_plain.proofs.sessions.session_number.Goals as goal

pub overflow_add-result : goal.overflow_add-result
overflow_add-result c = omega (arith, c.requires.there, c.own-start.ensures.start, all_fit c.args.opened.now c.args.from)

pub offset_bounds-opened-start : goal.offset_bounds-opened-start
offset_bounds-opened-start c = omega (arith, c.requires.there, c.own-start.ensures.start, all_fit c.args.opened.now c.args.from)

pub bounds-opened-start : goal.bounds-opened-start
bounds-opened-start c = omega (arith, c.requires.there, c.own-start.ensures.start, all_fit c.args.opened.now c.args.from)

-- what is read where nothing is there
abbrev nothing : Opened
nothing = record { sess = 0; from = 0; first = 0; to = 0; second = None }

pub returns : goal.returns
returns c =
    ap (λ t. (get_or c.args.opened.now (t + c.args.number) nothing).sess) c.own-start.ensures.start
    ∙ number_there c.args.opened.now c.args.from c.args.number c.requires.order.1.parties nothing c.requires.there c.requires.order.1.ordered
