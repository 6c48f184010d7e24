use Rattle.std.proofs.Common.{◌≡◌, ◌≤◌, ◌++◌, ℕ, List, take, drop, length, sym, ap, ◌∙◌, arith, rules}
use Rattle.std.proofs.lemmas.List.{drop-append-le, take-append-le}
use Rattle.std.specs.List.{flat_map}
use Rattle.sj_wire.specs.Spelling.{spelling}
use Rattle.sj_engine.specs.Frames.{frames_in, rest_in}
use Rattle.sj_engine.proofs.BrokenLemmas.{broken_more}
use Rattle.sj_engine.proofs.in_lane.ByteIn.feed.Goals as goal

pub invariant_of-self-else-is_err : goal.invariant_of-self-else-is_err
invariant_of-self-else-is_err c =
    let i = c.forget.new.self in
    let more = c.args.bytes.now in
    let items : c.extend_from_slice.new.self.items ≡ i.bytes.items ++ more = c.in_ok-extend_from_slice.ensures.items in
    let fed : c.feed.new.self ≡ i.decoder ++ more = search rules in
    let k = i.bytes.ok in
    let l = c.in_ok-extend_from_slice.ensures.len in
    let w = i.within in
    let inside : i.used ≤ length i.bytes.items = omega (arith, w, k) in
    let front : take i.used c.extend_from_slice.new.self.items ≡ take i.used i.bytes.items = ap (take i.used) items ∙ take-append-le i.used i.bytes.items more inside in
    record {
      within = omega (arith, w, l);
      left = fed ∙ ap (λ (t : List ℕ). t ++ more) i.left ∙ sym (drop-append-le i.used i.bytes.items more inside) ∙ ap (drop i.used) (sym items);
      broken = λ some. broken_more i.decoder more c.feed.new.self fed (i.broken some);
      whole = ap rest_in front ∙ i.whole;
      spelt = front ∙ i.spelt ∙ ap (λ (t : List ℕ). flat_map spelling (frames_in t)) (sym front);
    }
