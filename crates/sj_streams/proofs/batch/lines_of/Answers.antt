use Rattle.std.proofs.Common.{◌≡◌, ap, sym, ◌∙◌, List, ℕ, Some, get_or, false, true, rules, arith}
use Rattle.std.specs.Prelude.{codes}
use Rattle.std.specs.Str.{bytes_eq}
use Rattle.sj_streams.proofs.BatchLemmas.{get_any, lines_here, lines_short}
use Rattle.sj_streams.proofs.batch.lines_of.Goals as goal
use Rattle.sj_streams.proofs.batch.lines_of.Goals.{then-words-lt2-via-then-words-lt2, then-words-lt2-via-else-words-lt2+then-not-is}

pub returns-then-words-lt2 : goal.returns-then-words-lt2
returns-then-words-lt2 c =
    elim c.then-words-lt2.branch [
      | then-words-lt2-via-then-words-lt2 w ↦ sym (lines_short c.args.words.now w.if-words-lt2.true)
      | then-words-lt2-via-else-words-lt2+then-not-is w ↦
          let is : w.is.result ≡ false = search rules in
          let test : bytes_eq w.index-words-0.result.items (codes "e") ≡ false = ap (λ (t : List ℕ). bytes_eq t (codes "e")) (sym w.deref.ensures.value) ∙ sym w.is.ensures ∙ is in
          sym (lines_here c.args.words.now w.index-words-0.result (get_or c.args.words.now 1 w.index-words-0.result) false w.if-words-lt2.false w.index-words-0.is (get_any c.args.words.now 1 w.index-words-0.result (get_or c.args.words.now 1 w.index-words-0.result) (let h = w.if-words-lt2.false in omega (arith, h))) test)
    ]

pub returns : goal.returns
returns c =
    let is : c.is.result ≡ true = search rules in
    let test : bytes_eq c.index-words-0.result.items (codes "e") ≡ true = ap (λ (t : List ℕ). bytes_eq t (codes "e")) (sym c.deref.ensures.value) ∙ sym c.is.ensures ∙ is in
    ap Some c.deref-2.ensures.value ∙ sym (lines_here c.args.words.now c.index-words-0.result c.index-words-1.result true c.if-words-lt2.false c.index-words-0.is c.index-words-1.is test)
