use Rattle.std.proofs.Common.{◌≡◌, ◌+◌, ap, sym, ◌∙◌, List, ℕ, get_or, false, true, rules, arith}
use Rattle.std.specs.Str.{bytes_eq}
use Rattle.sj_streams.proofs.BatchLemmas.{get_any, named_here, named_short}
use Rattle.sj_streams.proofs.batch.frames_for.Goals as goal
use Rattle.sj_streams.proofs.batch.frames_for.Goals.{then-loop-at-test+else-words-at-gt1, else-loop-at-test}

pub returns-then-is : goal.returns-then-is
returns-then-is c =
    let is : c.is.result ≡ true = search rules in
    let test : bytes_eq c.index-words-at.result.items c.args.name.now ≡ true = ap (λ (t : List ℕ). bytes_eq t c.args.name.now) (sym c.deref.ensures.value) ∙ sym c.is.ensures ∙ is in
    let a = c.index-words-at.result in
    let b = c.index-words-at-then-is.result in
    let long = c.if-words-at-gt1.true in
    c.deref-then-is.ensures.value ∙ sym (named_here c.args.name.now c.args.words.now c.loop-at.at a b true (omega (arith, long)) c.index-words-at.is c.index-words-at-then-is.is test) ∙ c.loop-at.invariant

pub loop-at-preserved : goal.loop-at-preserved
loop-at-preserved c =
    let is : c.is.result ≡ false = search rules in
    let test : bytes_eq c.index-words-at.result.items c.args.name.now ≡ false = ap (λ (t : List ℕ). bytes_eq t c.args.name.now) (sym c.deref.ensures.value) ∙ sym c.is.ensures ∙ is in
    let a = c.index-words-at.result in
    let long = c.if-words-at-gt1.true in
    sym (named_here c.args.name.now c.args.words.now c.loop-at.at a (get_or c.args.words.now (c.loop-at.at + 1) a) false (omega (arith, long)) c.index-words-at.is (get_any c.args.words.now (c.loop-at.at + 1) a (get_or c.args.words.now (c.loop-at.at + 1) a) (omega (arith, long))) test) ∙ c.loop-at.invariant

pub returns : goal.returns
returns c =
    elim c.loop-at-test.branch [
      | then-loop-at-test+else-words-at-gt1 w ↦ sym (named_short c.args.name.now c.args.words.now c.loop-at.at (let h = w.if-words-at-gt1.false in omega (arith, h))) ∙ c.loop-at.invariant
      | else-loop-at-test w ↦ sym (named_short c.args.name.now c.args.words.now c.loop-at.at (let h = w.loop-at-test.false in omega (arith, h))) ∙ c.loop-at.invariant
    ]
