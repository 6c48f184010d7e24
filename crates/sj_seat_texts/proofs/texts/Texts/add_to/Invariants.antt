use Rattle.std.proofs.Common.{◌≡◌, ◌++◌, ℕ, List, length, max, take}
use Rattle.sj_seat_texts.specs.Once.{with_words}
use Rattle.sj_seat_texts.proofs.texts.Texts.add_to.Given as goal

-- the texts before that one were put, and so a table with the first texts has the first ones
abbrev pub invariant-loop-n : goal.invariant-loop-n
invariant-loop-n l = record {
  put : l.table ≡ with_words l.fn.table (take l.n l.self);
  file : (more : List (List ℕ)) → l.self ≡ l.fn.table ++ more → l.table ≡ take (max l.n (length l.fn.table)) l.self;
}
