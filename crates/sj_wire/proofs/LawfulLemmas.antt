-- All of two lists.
use Rattle.std.proofs.Common.{List, [], ◌∷◌, ◌++◌}
use Rattle.std.specs.List.{AllByRecursion}
use Rattle.sj_base.specs.declared.Msg.{Msg}
use Rattle.sj_wire.specs.Lawful.{HasSide}

pub of_both : (xs ys : List Msg) → AllByRecursion HasSide xs → AllByRecursion HasSide ys → AllByRecursion HasSide (xs ++ ys)
of_both [] ys all more = more
of_both (x ∷ xs) ys all more = (all.0, of_both xs ys all.1 more)

pub of_front : (xs ys : List Msg) → AllByRecursion HasSide (xs ++ ys) → AllByRecursion HasSide xs
of_front [] ys all = tt
of_front (x ∷ xs) ys all = (all.0, of_front xs ys all.1)

pub of_back : (xs ys : List Msg) → AllByRecursion HasSide (xs ++ ys) → AllByRecursion HasSide ys
of_back [] ys all = all
of_back (x ∷ xs) ys all = of_back xs ys all.1
