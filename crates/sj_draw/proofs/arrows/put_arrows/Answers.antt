use Rattle.std.proofs.Common.{◌+◌, ◌++◌, ◌∙◌, ℕ, List, Bor, sym, ap, map, drop}
use Rattle.std.proofs.lemmas.List.{at_drop_more}
use Rattle.sj_draw.specs.Drawn.{arrows_text}
use Rattle.sj_draw.specs.Views.{arrow_at}
use Rattle.sj_draw.proofs.TextLemmas.{go_on}
use Rattle.sj_draw.proofs.arrows.put_arrows.Goals as goal

pub loop-k-preserved : goal.loop-k-preserved
loop-k-preserved c =
    let xs = c.args.arrows.now in let ps = map (λ (n : Bor (List ℕ)). n.now) c.args.names.now in let k = c.loop-k.k in let now = c.loop-k.text.items in
    go_on now _ (arrows_text c.args.base ps (k + 1) (map arrow_at (drop (k + 1) xs))) c.put_arrow.new.text.items _
    (ap (λ t. now ++ t) (sym (at_drop_more (λ ys. arrows_text c.args.base ps k (map arrow_at ys)) xs k _ c.loop-k-test.true)) ∙ c.loop-k.invariant)
    c.in_ok-put_arrow.ensures
