use Rattle.std.proofs.Common.{◌≡◌, ℕ, List, [], ◌∷◌, ◌++◌, ap, sym, ◌∙◌, append_assoc}
use Rattle.std.specs.Prelude.{codes, decimal}
use Rattle.sj_text.proofs.CutLemmas.{whole_is, cut_in_first, cut_behind, on_err, err_whole, err_behind}
use Rattle.sj_generator.specs.Generated.{numbered_twice, connections}
use Rattle.sj_generator.proofs.text.put_connections.Goals as goal

-- the two halves of a connection's line
abbrev from : List ℕ → List ℕ → ℕ → List ℕ
from front middle i = front ++ (decimal i ++ middle)

abbrev to : List ℕ → ℕ → List ℕ
to back i = decimal i ++ (back ++ 10 ∷ [])

halves : (front middle back : List ℕ) (i : ℕ) → from front middle i ++ to back i ≡ numbered_twice front middle back i
halves front middle back i = append_assoc front (decimal i ++ middle) (to back i) ∙ ap (λ xs. front ++ xs) (append_assoc (decimal i) middle (to back i))

abbrev second : ℕ → List ℕ
second i = from (codes "connect b") (codes " z g to c") i ++ to (codes " u h;") i

in_halves : (i : ℕ) → from (codes "connect a") (codes " x w to b") i ++ (to (codes " y v;") i ++ second i) ≡ connections i
unfolding connections
in_halves i =
    sym (append_assoc (from (codes "connect a") (codes " x w to b") i) (to (codes " y v;") i) (second i))
    ∙ (λ k. halves (codes "connect a") (codes " x w to b") (codes " y v;") i k ++ halves (codes "connect b") (codes " z g to c") (codes " u h;") i k)

pub returns-in_err-put_numbered-clause-err : goal.returns-in_err-put_numbered-clause-err
returns-in_err-put_numbered-clause-err c =
    let i = c.args.i in let old = c.args.text.now.items in let new = c.put_numbered.new.text.items in
    on_err c.from_residual.result _ (whole_is old _ _ new (in_halves i)
    (cut_in_first old (from (codes "connect a") (codes " x w to b") i) (to (codes " y v;") i ++ second i) new c.in_err-put_numbered.ensures.err))

pub returns-in_err-put_numbered-3-clause-err : goal.returns-in_err-put_numbered-3-clause-err
returns-in_err-put_numbered-3-clause-err c =
    let i = c.args.i in let old = c.args.text.now.items in let one = c.put_numbered.new.text.items in let two = c.put_numbered-2.new.text.items in let new = c.put_numbered-3.new.text.items in
    on_err c.from_residual-in_err-put_numbered-3.result _ (whole_is old _ _ new (in_halves i)
    (cut_behind old (from (codes "connect a") (codes " x w to b") i) (to (codes " y v;") i ++ second i) one new c.in_ok-put_numbered.ensures.ok
    (cut_behind one (to (codes " y v;") i) (second i) two new c.in_ok-put_numbered-2.ensures.ok
    (cut_in_first two (from (codes "connect b") (codes " z g to c") i) (to (codes " u h;") i) new c.in_err-put_numbered-3.ensures.err))))

pub returns-clause-err : goal.returns-clause-err
returns-clause-err c =
    let i = c.args.i in let old = c.args.text.now.items in let one = c.put_numbered.new.text.items in let two = c.put_numbered-2.new.text.items in
    let three = c.put_numbered-3.new.text.items in let new = c.put_numbered-4.new.text.items in let r = c.put_numbered-4.result in
    err_whole old _ _ new r (in_halves i)
    (err_behind old (from (codes "connect a") (codes " x w to b") i) (to (codes " y v;") i ++ second i) one new r c.in_ok-put_numbered.ensures.ok
    (err_behind one (to (codes " y v;") i) (second i) two new r c.in_ok-put_numbered-2.ensures.ok
    (err_behind two (from (codes "connect b") (codes " z g to c") i) (to (codes " u h;") i) three new r c.in_ok-put_numbered-3.ensures.ok c.put_numbered-4.ensures.err)))
