use Rattle.std.proofs.Common.{List, ℕ, ◌++◌, ◌∙◌, ap, refl, subst, sym}
use Rattle.sj_wire.specs.Front.{front_of}
use Rattle.sj_socket.specs.Ins.{IsNoFrame, unused}
use Rattle.sj_socket.proofs.StreamLemmas.{comes_from, frame_after, if_fault, if_frame, none_came, of_none, of_some}
use Rattle.sj_socket.proofs.WholeLemmas.{over_before, over_later}
use Rattle.sj_socket.proofs.in_lane.Reader.pop.Goals as goal

pub returns-in-Ok-Some-clause-frame : goal.returns-in-Ok-Some-clause-frame
returns-in-Ok-Some-clause-frame g c =
    let v = c.args.self.now in
    frame_after _ v v (record v { decoder = c.decode.new.decoder }) c.in-Ok-Some.frame (none_came _ v) refl refl (of_some _ c.in-Ok-Some.field-0 c.in-Ok-Some.frame c.in-Ok-Some.field-0-is c.in-Ok-Some.ensures.frame)

pub returns-clause-frame : goal.returns-clause-frame
returns-clause-frame g c =
    let v = c.args.self.now in
    let m = c.feed.new.self in
    let before = record v { decoder = c.decode.new.decoder } in
    let none = of_none _ c.in-Ok-None.field-0 c.in-Ok-None.field-0-is c.in-Ok-None.ensures.none in
    let came = comes_from _ v before m (unused m) (ap (λ (d : List ℕ). d ++ v.piece) none.1) refl c.feed.ensures.came in
    if_frame _ _ c.decode-2.result (λ f front. frame_after _ v m (record m { decoder = c.decode-2.new.decoder }) f came refl refl front) c.decode-2.ensures.frame

pub returns-in-Err-clause-whole : goal.returns-in-Err-clause-whole
returns-in-Err-clause-whole g c = λ e. over_later c.args.self.now.decoder c.args.self.now.piece (c.in-Err.ensures.fault e)

pub returns-clause-whole : goal.returns-clause-whole
returns-clause-whole g c =
    let v = c.args.self.now in
    let m = c.feed.new.self in
    let before = record v { decoder = c.decode.new.decoder } in
    let none = of_none _ c.in-Ok-None.field-0 c.in-Ok-None.field-0-is c.in-Ok-None.ensures.none in
    let came = comes_from _ v before m (unused m) (ap (λ (d : List ℕ). d ++ v.piece) none.1) refl c.feed.ensures.came in
    if_fault _ _ c.decode-2.result
    (λ none. over_before (unused v) came.came (subst (λ (bs : List ℕ). IsNoFrame (front_of bs)) (sym c.in_default.ensures.all ∙ came.all) none))
    c.decode-2.ensures.fault
