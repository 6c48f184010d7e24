-- What is taken from one party after the other.
use Rattle.std.proofs.Common.{◌≡◌, ◌⊎◌, ℕ, ◌+◌, ◌<◌, ◌≤◌, Some, None, inl, inr, refl, sym, ◌∙◌, arith, subst}
use Rattle.std.proofs.lemmas.Bool.{cases_eq}
use Rattle.sj_node.specs.Node.{clock_of}
use Rattle.sj_node.specs.Reading.{parties_of}
use Rattle.sj_work.specs.declared.worker.Stop.TheVariants as stops
use Rattle.sj_work.specs.declared.worker.Worker.{Worker}
use Rattle.sj_work.specs.Counts.{OnLane, RoseBy, Stood}
use Rattle.sj_work.specs.Views.{in_of, stop_of}
use Rattle.sj_work.specs.Went.{InVain}
use Rattle.sj_work.proofs.CountLemmas.{on_later, rose_then, then_rose}
use Rattle.sj_work.proofs.LaneLaws.{LaneLaws, WentBy}
use Rattle.sj_work.proofs.LookLemmas.{rises_then}
use Rattle.sj_work.proofs.PieceLemmas.{PieceBy, piece_behind, piece_on, piece_went}
use Rattle.sj_work.proofs.PushLemmas.{below}
use Rattle.sj_work.proofs.WentLemmas.{went_itself}

pub not_still : (x y : ℕ) → x < y → y ≡ x → ⊥
not_still x y lt same = absurd (omega arith)

pub still_before : (x y z : ℕ) → x ≤ y → y ≤ z → z ≡ x → y ≡ x
still_before x y z p q same = omega arith

still_after : (x y z : ℕ) → x ≤ y → y ≤ z → z ≡ x → z ≡ y
still_after x y z p q same = omega arith

within : (q next parties now : ℕ) → q < now → now ≡ parties → parties ≤ next → q < next
within q next parties now lt same over = omega arith

module _ {O I : Type 0} (k : LaneLaws O I) where
  -- frames came from one party
  pub record Taking (init now : Worker O I) : Type 0 where
    pub pieces : (looks : ℕ) → PieceBy k looks init now
    pub other : stop_of now ≡ Some stops.Finished → ⊥
    pub event : stop_of now ≡ None → clock_of init.node < clock_of now.node

  pub taking_more : (init now later : Worker O I) → Taking init now → stop_of now ≡ None → ((looks : ℕ) → PieceBy k looks now later) → (stop_of later ≡ Some stops.Finished → ⊥) → Taking init later
  taking_more init now later t none p other = record {
    pieces = λ looks. piece_behind k looks init now later (piece_went k 0 init now (t.pieces 0) none) (p looks);
    other = other;
    event = λ later_none. rises_then _ _ _ (t.event none) (p 0).went.clock;
  }

  -- the parties below that number were taken from
  pub record TakenTo (init now : Worker O I) (next : ℕ) : Type 0 where
    pub pieces : (looks : ℕ) → PieceBy k looks init now
    pub none : stop_of now ≡ None
    pub vain : clock_of now.node ≡ clock_of init.node → (q : ℕ) → q < next → OnLane k.inward.vain (RoseBy 1) (in_of init q) (in_of now q)

  pub taken_none : (w : Worker O I) → stop_of w ≡ None → TakenTo w w 0
  taken_none w none = record { pieces = piece_on k w w (went_itself k w w refl refl) none; none = none; vain = λ same q lt. absurd (omega arith) }

  pub taken_turns : (init now later : Worker O I) (from : ℕ) → TakenTo init now from → ((looks : ℕ) → PieceBy k looks now later) → (looks : ℕ) → PieceBy k looks init later
  taken_turns init now later from t p looks = piece_behind k looks init now later (piece_went k 0 init now (t.pieces 0) t.none) (p looks)

  pub taken_more : (init now later : Worker O I) (from : ℕ) → TakenTo init now from → ((looks : ℕ) → PieceBy k looks now later) → stop_of later ≡ None
      → (stop_of later ≡ None → clock_of later.node ≡ clock_of now.node → OnLane k.inward.vain (RoseBy 1) (in_of now from) (in_of later from)) → TakenTo init later (from + 1)
  taken_more init now later from t p none vain = record {
    pieces = taken_turns init now later from t p;
    none = none;
    vain = λ same q lt. each same q lt (cases_eq q from);
  }
    where
      before : WentBy k None init now
      before = piece_went k 0 init now (t.pieces 0) t.none

      after : WentBy k None now later
      after = piece_went k 0 now later (p 0) none

      each : clock_of later.node ≡ clock_of init.node → (q : ℕ) → q < from + 1 → (q ≡ from) ⊎ (q ≡ from → ⊥) → OnLane k.inward.vain (RoseBy 1) (in_of init q) (in_of later q)
      each same q lt (inl is) =
          subst (λ n. OnLane k.inward.vain (RoseBy 1) (in_of init n) (in_of later n)) (sym is)
          (on_later k.inward.vain Stood (RoseBy 1) (RoseBy 1) (then_rose 1) (in_of init from) (in_of now from) (in_of later from) (before.vain_in from) (vain none (still_after _ _ _ before.clock after.clock same)))
      each same q lt (inr not) =
          on_later k.inward.vain (RoseBy 1) Stood (RoseBy 1) (rose_then 1) (in_of init q) (in_of now q) (in_of later q) (t.vain (still_before _ _ _ before.clock after.clock same) q (below q from lt not)) (after.vain_in q)

  pub all_taken : (init now : Worker O I) (next parties : ℕ) → TakenTo init now next → parties ≡ parties_of init.node → parties ≤ next → clock_of now.node ≡ clock_of init.node → InVain k.inward.vain 1 init now
  all_taken init now next parties t is over same q lt = t.vain same q (within q next parties (parties_of now.node) lt ((t.pieces 0).went.parties ∙ sym is) over)
