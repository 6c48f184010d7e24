-- Pops from one party after the other.
use Rattle.std.proofs.Common.{◌≡◌, ◌⊎◌, ℕ, ◌+◌, ◌<◌, ◌≤◌, Bool, true, false, None, inl, inr, refl, sym, ◌∙◌, arith, subst}
use Rattle.std.specs.Prelude.{◌||◌, IsFalse, IsTrue}
use Rattle.std.proofs.lemmas.Bool.{cases_eq}
use Rattle.sj_node.specs.Node.{clock_of}
use Rattle.sj_work.specs.declared.worker.Worker.{Worker}
use Rattle.sj_work.specs.Counts.{OnLane, RoseBy, Stood}
use Rattle.sj_work.specs.Turns.{IsGoing}
use Rattle.sj_work.specs.Views.{in_of, stop_of}
use Rattle.sj_work.proofs.CountLemmas.{on_later, rose_then, then_rose}
use Rattle.sj_work.proofs.LaneLaws.{LaneLaws, TurnedBy, WentBy}
use Rattle.sj_work.proofs.TurnLemmas.{going, turned_behind, turned_on, went_of}
use Rattle.sj_work.proofs.WentLemmas.{went_itself}
use Rattle.sj_work.proofs.PushLemmas.{below}

neither : (x y : Bool) → IsFalse (x || y) → IsFalse x × IsFalse y
neither false false h = (refl, refl)
neither false true h = absurd (cc h)
neither true y h = absurd (cc h)

either : (x y : Bool) → IsTrue (x || y) → IsTrue x ⊎ IsTrue y
either true y h = inl refl
either false true h = inr refl
either false false h = absurd (cc h)

pub rises_then : (x y z : ℕ) → x < y → y ≤ z → x < z
rises_then x y z p q = omega arith

then_rises : (x y z : ℕ) → x ≤ y → y < z → x < z
then_rises x y z p q = omega arith

module _ {O I : Type 0} (k : LaneLaws O I) where
  -- the parties below that number were looked at, and a frame came, or none
  pub record Looked (init now : Worker O I) (next : ℕ) (came : Bool) : Type 0 where
    pub turns : (looks : ℕ) → TurnedBy k looks init now
    pub goes : IsGoing now
    pub rests : IsFalse came → now.node ≡ init.node
    pub vain : IsFalse came → (q : ℕ) → q < next → OnLane k.inward.vain (RoseBy 1) (in_of init q) (in_of now q)
    pub event : IsTrue came → clock_of init.node < clock_of now.node
    pub looks : now.looks ≡ init.looks

  pub looked_none : (w : Worker O I) → IsGoing w → Looked w w 0 false
  looked_none w goes = record {
    turns = turned_on k w w (went_itself k w w refl refl) goes.stop goes.open_yet;
    goes = goes;
    rests = λ h. refl;
    vain = λ h q lt. absurd (omega arith);
    event = λ h. absurd (cc h);
    looks = refl;
  }

  module _ (init now later : Worker O I) (from : ℕ) (came r : Bool) (l : Looked init now from came) (t : (looks : ℕ) → TurnedBy k looks now later) where
    -- one more look
    pub look_turns : (looks : ℕ) → TurnedBy k looks init later
    look_turns looks = turned_behind k looks init now later (went_of k init now (l.turns 0) l.goes.stop) (t looks)

    pub look_event : stop_of later ≡ None → (IsTrue r → stop_of later ≡ None → clock_of now.node < clock_of later.node) → IsTrue (came || r) → clock_of init.node < clock_of later.node
    look_event none event either_came = by (either came r either_came)
      where
        by : IsTrue came ⊎ IsTrue r → clock_of init.node < clock_of later.node
        by (inl h) = rises_then _ _ _ (l.event h) (t 0).went.clock
        by (inr h) = then_rises _ _ _ (l.turns 0).went.clock (event h none)

    pub look_rests : (IsFalse r → later.node ≡ now.node) → IsFalse (came || r) → later.node ≡ init.node
    look_rests rests h = let n = neither came r h in rests n.1 ∙ l.rests n.0

    pub look_more : stop_of later ≡ None → (IsTrue r → stop_of later ≡ None → clock_of now.node < clock_of later.node) → (IsFalse r → later.node ≡ now.node)
        → (IsFalse r → stop_of later ≡ None → OnLane k.inward.vain (RoseBy 1) (in_of now from) (in_of later from)) → later.looks ≡ now.looks → Looked init later (from + 1) (came || r)
    look_more none event rests vain looks = record {
      turns = look_turns;
      goes = going k 0 now later (t 0) none;
      rests = look_rests rests;
      vain = λ h q lt. let n = neither came r h in each n.0 n.1 q lt (cases_eq q from);
      event = look_event none event;
      looks = looks ∙ l.looks;
    }
      where
        before : WentBy k None init now
        before = went_of k init now (l.turns 0) l.goes.stop

        after : WentBy k None now later
        after = went_of k now later (t 0) none

        each : IsFalse came → IsFalse r → (q : ℕ) → q < from + 1 → (q ≡ from) ⊎ (q ≡ from → ⊥) → OnLane k.inward.vain (RoseBy 1) (in_of init q) (in_of later q)
        each c h q lt (inl is) =
            subst (λ n. OnLane k.inward.vain (RoseBy 1) (in_of init n) (in_of later n)) (sym is)
            (on_later k.inward.vain Stood (RoseBy 1) (RoseBy 1) (then_rose 1) (in_of init from) (in_of now from) (in_of later from) (before.vain_in from) (vain h none))
        each c h q lt (inr not) = on_later k.inward.vain (RoseBy 1) Stood (RoseBy 1) (rose_then 1) (in_of init q) (in_of now q) (in_of later q) (l.vain c q (below q from lt not)) (after.vain_in q)
