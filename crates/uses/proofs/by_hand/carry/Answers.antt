use Rattle.std.proofs.Common.{◌≡◌, ◌∙◌, ℕ, ◌+◌, ◌∷◌, None, max, subst}
use Rattle.sj_end.specs.declared.note.Event.TheVariants as events
use Rattle.sj_end.specs.Views.{body_at, frame_at, note_at}
use Rattle.sj_node.specs.Node.{Does, clock_of, delivery}
use Rattle.sj_node.specs.Outs.{waiting_in}
use Rattle.sj_node.specs.Reading.{outs_of}
use Rattle.uses.proofs.HandLemmas.{refused_so}
use Rattle.uses.proofs.by_hand.carry.Goals as goal

pub returns-in-Ok-clause-carried : goal.returns-in-Ok-clause-carried
returns-in-Ok-clause-carried c =
    let from = c.args.from.now in
    let to = c.args.to.now in
    let left = c.take_out.new.self in
    let frame = c.in-Some.frame in
    let here = c.party-party.ensures in
    record {
      frame = frame_at frame;
      first = subst (λ (q : ℕ). waiting_in (outs_of from) q ≡ frame_at frame ∷ waiting_in (outs_of left) q) here c.in-Some.ensures.some;
      others = λ q apart. c.take_out.ensures.others q (λ same. apart (same ∙ here));
      does =
          subst (λ (p : ℕ). Does to (delivery to p (frame_at frame)) (max (clock_of to) frame.clock + 1) (events.Deliver p) (note_at (body_at frame.body)) c.deliver.new.self)
          (c.party.ensures ∙ c.take_out.ensures.rest.party) c.in-Ok.ensures.ok;
    }

pub returns-in-Err-clause-unfit : goal.returns-in-Err-clause-unfit
returns-in-Err-clause-unfit c =
    let from = c.args.from.now in
    let to = c.args.to.now in
    let frame = frame_at c.in-Some.frame in
    refused_so c.in-Err.refusal
    (λ none. record {
      frame = frame;
      rest = waiting_in (outs_of c.take_out.new.self) c.party-party.result;
      first = subst (λ (q : ℕ). waiting_in (outs_of from) q ≡ frame ∷ waiting_in (outs_of c.take_out.new.self) c.party-party.result) c.party-party.ensures c.in-Some.ensures.some;
      none = subst (λ (p : ℕ). delivery to p frame ≡ None) (c.party.ensures ∙ c.take_out.ensures.rest.party) none;
    }) c.in-Err.ensures.unfit
