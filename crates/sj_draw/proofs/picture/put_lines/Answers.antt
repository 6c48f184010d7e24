use Rattle.std.proofs.Common.{◌+◌, ◌++◌, ◌∙◌, List, ℕ, Bor, ap, map, drop, sym}
use Rattle.sj_draw.specs.Drawn.{lines_text}
use Rattle.sj_draw.proofs.LineLemmas.{one_more_line}
use Rattle.sj_draw.proofs.TextLemmas.{go_on}
use Rattle.sj_draw.proofs.picture.put_lines.Goals as goal

pub loop-i-preserved : goal.loop-i-preserved
loop-i-preserved c =
    let xs = c.args.names.now in let ps = map (λ (n : Bor (List ℕ)). n.now) xs in let i = c.loop-i.i in let now = c.loop-i.text.items in
    go_on now _ (lines_text c.args.layout ps (i + 1) (map (λ (n : Bor (List ℕ)). n.now) (drop (i + 1) xs))) c.put_line.new.text.items _
    (ap (λ t. now ++ t) (sym (one_more_line c.args.layout ps i xs c.loop-i-test.true)) ∙ c.loop-i.invariant) c.in_ok-put_line.ensures
