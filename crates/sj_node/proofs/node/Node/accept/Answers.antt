use Rattle.std.proofs.Common.{◌≡◌, [], Some, None, append-nil, option_map, ◌∙◌, ap, sym, refl}
use Rattle.sj_rules.specs.Mapped.{node_with}
use Rattle.sj_rules.specs.Opened.{smallest, without}
use Rattle.sj_rules.specs.Record.{offered_end}
use Rattle.sj_table.specs.Spots.{place_in}
use Rattle.sj_node.specs.Calls.{place_here}
use Rattle.sj_node.specs.Node.{offers_of, spot_node}
use Rattle.sj_offers.specs.Offers.{offering, offers_in}
use Rattle.sj_node.specs.Outs.{waiting_in}
use Rattle.sj_node.specs.Slots.{mains_in}
use Rattle.sj_node.proofs.ActLemmas.{does_with, stays}
use Rattle.sj_node.proofs.OpeningLemmas.{accept_noted, call_accepts, no_offer, offer_lost, refused_so}
use Rattle.sj_node.proofs.node.Node.accept.Goals as goal

pub returns-in_default-clause-unfit : goal.returns-in_default-clause-unfit
returns-in_default-clause-unfit c = λ unfit.
    let n = c.args.self.now in
    let from = c.args.from in
    let none : smallest (offers_of n from) ≡ None = ap (λ xs. smallest (offers_in xs from)) (sym c.deref.ensures.value) ∙ sym c.offered_by.ensures ∙ c.in_default.is in
    no_offer n (place_here n c.args.place) from none

pub returns-in-Err-clause-err : goal.returns-in-Err-clause-err
returns-in-Err-clause-err c =
    let n = c.args.self.now in
    stays n _ (λ i. node_with (place_in n.table) (record (spot_node n) { main = c.in-Err.ensures.err i })) (λ q. refl) c.reserve.ensures.items refl refl refl refl

pub returns-in-Err-clause-unfit : goal.returns-in-Err-clause-unfit
returns-in-Err-clause-unfit c = λ unfit.
    let n = c.args.self.now in
    let from = c.args.from in
    let sess = c.in-Some.sess in
    let least : smallest (offers_of n from) ≡ Some sess = ap (λ xs. smallest (offers_in xs from)) (sym c.deref.ensures.value) ∙ sym c.offered_by.ensures ∙ c.in-Some.is in
    offer_lost n (place_here n c.args.place) from sess least (c.in-Err.ensures.unfit (refused_so _ _ unfit))

pub returns-clause-ok : goal.returns-clause-ok
returns-clause-ok c =
    let n = c.args.self.now in
    let from = c.args.from in
    let sess = c.in-Some.sess in
    let least : smallest (offers_of n from) ≡ Some sess = ap (λ xs. smallest (offers_in xs from)) (sym c.deref.ensures.value) ∙ sym c.offered_by.ensures ∙ c.in-Some.is in
    does_with n _ _ _ n.requests (offering from (without sess (offers_of n from)) (offers_of n)) _ _ [] _ _ _
    (call_accepts n from sess c.args.place (mains_in c.accept_on.new.mains.items) least c.in_default-accept_on.ensures.ok)
    (record {
      program = refl;
      requests = refl;
      offers = c.withdraw.ensures;
      mains = refl;
      olds = refl;
      time = refl;
      waits = λ q. sym (append-nil (waiting_in n.outs.items q));
      noted = rw (c.push_reserved.ensures.items, c.reserve.ensures.items, accept_noted n from sess least) refl;
      table = refl;
      party = refl;
      parties = refl;
      connects = refl;
    })

pub returns-clause-opened : goal.returns-clause-opened
returns-clause-opened c =
    let n = c.args.self.now in
    let from = c.args.from in
    let least : smallest (offers_of n from) ≡ Some c.in-Some.sess = ap (λ xs. smallest (offers_in xs from)) (sym c.deref.ensures.value) ∙ sym c.offered_by.ensures ∙ c.in-Some.is in
    ap (option_map offered_end) (sym least)
