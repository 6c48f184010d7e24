use Rattle.std.proofs.Common.{◌+◌, ◌++◌, ◌∙◌, ℕ, List, Bor, sym, ap, map, drop}
use Rattle.std.proofs.lemmas.List.{at_drop_more}
use Rattle.sj_draw.specs.Drawn.{names_text}
use Rattle.sj_draw.proofs.TextLemmas.{go_on}
use Rattle.sj_draw.proofs.picture.put_names.Goals as goal

pub loop-i-preserved : goal.loop-i-preserved
loop-i-preserved c =
    let xs = c.args.names.now in let ps = map (λ (n : Bor (List ℕ)). n.now) xs in let i = c.loop-i.i in let now = c.loop-i.text.items in
    go_on now _ (names_text c.args.base ps (i + 1) (map (λ (n : Bor (List ℕ)). n.now) (drop (i + 1) xs))) c.put_name.new.text.items _
    (ap (λ t. now ++ t) (sym (at_drop_more (λ ys. names_text c.args.base ps i (map (λ (n : Bor (List ℕ)). n.now) ys)) xs i _ c.loop-i-test.true)) ∙ c.loop-i.invariant)
    c.in_ok-put_name.ensures
