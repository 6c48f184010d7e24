use Rattle.std.proofs.Common.{◌≡◌, true, ◌&&◌, if◌then◌else◌, [], ◌∷◌, ◌++◌, Some, None, ◌∙◌, ap, sym, refl}
use Rattle.std.specs.Prelude.{is_none}
use Rattle.sj_rules.specs.Record.{Held, offered_end}
use Rattle.sj_rules.specs.Node.{put, quietly, with_main, with_offers}
use Rattle.sj_rules.specs.Opened.{is_opened_by, new_held}
use Rattle.sj_node.specs.Node.{offers_of, spot_node}
use Rattle.sj_offers.specs.Offers.{offering, offers_in}
use Rattle.sj_node.specs.Slots.{mains_in, olds_in}
use Rattle.sj_node.proofs.OpeningLemmas.{was_ok}
use Rattle.sj_node.proofs.node.Node.open_row.Goals as goal

pub returns-clause-ok : goal.returns-clause-ok
returns-clause-ok c =
    let n = c.args.self.now in
    let from = c.args.from in
    let sess = c.args.sess in
    let e = offered_end sess in
    let blank = c.done-place.result in
    let opened : is_opened_by from sess ≡ true = sym c.is_opened_by.ensures ∙ c.if-not-is_opened_by.false in
    let free : is_none (mains_in n.mains.items e) ≡ true = ap (λ xs. is_none (mains_in xs e)) (sym c.deref.ensures.value) ∙ sym c.is_free.ensures ∙ c.if-not-is_free.false in
    let vacant : is_none (olds_in n.olds.items e) ≡ true =
    ap (λ xs. is_none (olds_in xs e)) (sym c.deref-else-not-is_free.ensures.value) ∙ sym c.is_vacant.ensures ∙ c.if-not-is_vacant.false in
    let held : mains_in c.put_held.new.mains.items ≡ put e (Some (Held (new_held e blank from))) (mains_in n.mains.items) =
    c.put_held.ensures ∙ (λ i. put e (Some (Held (c.first.ensures i))) (c.make_main_slot.ensures.same i)) in
    let offers : offers_in c.offer.new.offers.items ≡ offering from (offers_of n from ++ sess ∷ []) (offers_of n) =
    was_ok c.offer.result (sym c.is_err-2.ensures.value ∙ c.if-is_err-2.false) c.offer.ensures.ok in
    record {
      blank = blank;
      over = c.done-place.ensures.place;
      row = (λ i. if opened i && free i && vacant i then Some (quietly (with_offers from (offers_of n from ++ sess ∷ []) (with_main e (Some (Held (new_held e blank from))) (spot_node n)))) else None)
          ∙ (λ i. Some (quietly (record (spot_node n) { offers = sym offers i; main = sym held i })));
      waits = λ q. refl;
      keeps = record { machine = refl; table = refl; log = refl; time = refl; party = refl; parties = refl; connects = refl; requests = refl };
    }
