use Rattle.std.proofs.Common.{◌≡◌, ◌+◌, [], ◌∷◌, ◌++◌, Some, ap, ◌∙◌, refl}
use Rattle.sj_rules.specs.Frames.{frames_for}
use Rattle.sj_rules.specs.Mapped.{node_with}
use Rattle.sj_rules.specs.Node.{put}
use Rattle.sj_rules.specs.Opened.{new_held, opened_number}
use Rattle.sj_rules.specs.Record.{Held, Open, requested_end}
use Rattle.sj_table.specs.Spots.{place_in}
use Rattle.sj_node.specs.Node.{offers_of, spot_node}
use Rattle.sj_node.specs.Slots.{mains_in}
use Rattle.sj_node.proofs.ActLemmas.{does_with, stays}
use Rattle.sj_node.proofs.OpeningLemmas.{call_requests}
use Rattle.sj_node.proofs.node.Node.request.Goals as goal

pub returns-then-is_err-clause-err : goal.returns-then-is_err-clause-err
returns-then-is_err-clause-err c =
    let n = c.args.self.now in
    stays n _ (λ i. node_with (place_in n.table) (record (spot_node n) { main = c.make_main_slot.ensures.same i })) c.make_room.ensures.same c.reserve.ensures.items refl refl refl refl

pub returns-clause-ok : goal.returns-clause-ok
returns-clause-ok c =
    let n = c.args.self.now in
    let to = c.args.to in
    let place = c.args.place in
    let sess = c.opened_number-sess.result in
    let number : sess ≡ opened_number n.party n.requests = c.opened_number-sess.ensures in
    does_with n _ _ _ (n.requests + 1) (offers_of n) _ _ (record { party = to; body = Open (opened_number n.party n.requests) } ∷ []) _ _ _
    (call_requests n to place c.requires.requests)
    (record {
      program = refl;
      requests = refl;
      offers = refl;
      mains = c.put_held.ensures ∙ (λ i. put (requested_end sess) (Some (Held (c.first.ensures i))) (c.make_main_slot.ensures.same i))
          ∙ (λ i. put (requested_end (number i)) (Some (Held (new_held (requested_end (number i)) place to))) (mains_in n.mains.items));
      olds = refl;
      time = refl;
      waits = λ q. c.put_frame.ensures.waits q ∙ (λ i. c.make_room.ensures.same q i ++ frames_for q (n.clock + 1) (record { party = to; body = Open (number i) } ∷ []));
      noted = rw (c.push_reserved.ensures.items, c.reserve.ensures.items, c.opened_number-sess.ensures) refl;
      table = refl;
      party = refl;
      parties = refl;
      connects = refl;
    })

pub returns-clause-opened : goal.returns-clause-opened
returns-clause-opened c = ap requested_end c.opened_number-sess.ensures
