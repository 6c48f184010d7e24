-- The causes of stops, seen from an earlier worker, and calls in vain turn by turn.
use Rattle.std.proofs.Common.{◌≡◌, ℕ, ◌+◌, ◌<◌, ◌≤◌, max, Option, Some, None, inl, inr, subst}
use Rattle.sj_lang.specs.Place.{Place}
use Rattle.sj_rules.specs.Work.{LostAt}
use Rattle.sj_node.specs.Reading.{parties_of}
use Rattle.sj_work.specs.declared.worker.Stop.{Stop}
use Rattle.sj_work.specs.declared.worker.Stop.TheVariants as stops
use Rattle.sj_work.specs.declared.worker.Worker.{Worker}
use Rattle.sj_work.specs.Causes.{MetFault}
use Rattle.sj_work.specs.Counts.{RoseBy, Stood}
use Rattle.sj_work.specs.Views.{in_of, out_of}
use Rattle.sj_work.specs.Went.{HasNoEvent, InARow, InVain, OutVain}
use Rattle.sj_work.proofs.CountLemmas.{on_later, on_so, rose_fewer, rose_more, rose_then, then_rose, then_some_rose}
use Rattle.sj_work.proofs.LaneLaws.{CauseBy, LaneLaws, WentBy}
use Rattle.sj_work.proofs.WentLemmas.{went_later}

module _ {O I : Type 0} (k : LaneLaws O I) where
  -- after work, counts of lanes from parties that rose, rose
  pub ins_later : (n : ℕ) (a b c : Worker O I) → WentBy k None a b → InVain k.inward.vain n b c → InVain k.inward.vain n a c
  ins_later n a b c went v = λ q lt. on_later k.inward.vain Stood (RoseBy n) (RoseBy n) (then_rose n) (in_of a q) (in_of b q) (in_of c q) (went.vain_in q) (v q lt)

  -- and before it
  pub ins_then : (n : ℕ) (a b c : Worker O I) → InVain k.inward.vain n a b → WentBy k None b c → InVain k.inward.vain n a c
  ins_then n a b c v went = λ q lt. on_later k.inward.vain (RoseBy n) Stood (RoseBy n) (rose_then n) (in_of a q) (in_of b q) (in_of c q) (v q (subst (λ m. q < m) went.parties lt)) (went.vain_in q)

  -- so many times, and so many times more
  pub ins_more : (m n : ℕ) (a b c : Worker O I) → parties_of c.node ≡ parties_of b.node → InVain k.inward.vain m a b → InVain k.inward.vain n b c → InVain k.inward.vain (m + n) a c
  ins_more m n a b c same v w = λ q lt. on_later k.inward.vain (RoseBy m) (RoseBy n) (RoseBy (m + n)) (rose_more m n) (in_of a q) (in_of b q) (in_of c q) (v q (subst (λ j. q < j) same lt)) (w q lt)

  -- so many times are fewer times, too
  pub ins_fewer : (m n : ℕ) (a b : Worker O I) → m ≤ n → InVain k.inward.vain n a b → InVain k.inward.vain m a b
  ins_fewer m n a b few v = λ q lt. on_so k.inward.vain (RoseBy n) (RoseBy m) (λ x y. rose_fewer m n x y few) (in_of a q) (in_of b q) (v q lt)

  -- the same of lanes to parties
  pub outs_later : (n : ℕ) (a b c : Worker O I) → WentBy k None a b → OutVain k.outward.vain n b c → OutVain k.outward.vain n a c
  outs_later n a b c went v = λ q lt waits. on_later k.outward.vain Stood (RoseBy n) (RoseBy n) (then_rose n) (out_of a q) (out_of b q) (out_of c q) (went.vain_out q) (v q lt waits)

  pub outs_then : (n : ℕ) (a b c : Worker O I) → OutVain k.outward.vain n a b → WentBy k None b c → HasNoEvent b.node c.node → OutVain k.outward.vain n a c
  outs_then n a b c v went rests = λ q lt waits.
      on_later k.outward.vain (RoseBy n) Stood (RoseBy n) (rose_then n) (out_of a q) (out_of b q) (out_of c q) (v q (subst (λ m. q < m) went.parties lt) (rests.boxes q waits)) (went.vain_out q)

  pub outs_more : (m n : ℕ) (a b c : Worker O I) → HasNoEvent b.node c.node → OutVain k.outward.vain m a b → OutVain k.outward.vain n b c → OutVain k.outward.vain (m + n) a c
  outs_more m n a b c rests v w = λ q lt waits.
      on_later k.outward.vain (RoseBy m) (RoseBy n) (RoseBy (m + n)) (rose_more m n) (out_of a q) (out_of b q) (out_of c q) (v q (subst (λ j. q < j) rests.parties lt) (rests.boxes q waits)) (w q lt waits)

  pub outs_fewer : (m n : ℕ) (a b : Worker O I) → m ≤ n → OutVain k.outward.vain n a b → OutVain k.outward.vain m a b
  outs_fewer m n a b few v = λ q lt waits. on_so k.outward.vain (RoseBy n) (RoseBy m) (λ x y. rose_fewer m n x y few) (out_of a q) (out_of b q) (v q lt waits)

  -- turns in a row stay so where more work is counted before them
  row_later : (n : ℕ) (a b c : Worker O I) → WentBy k None a b → InARow k.outward k.inward n b c → InARow k.outward k.inward n a c
  row_later n a b c went r = record { since = r.since; before = went_later k a b r.since None went r.before; after = r.after; rests = r.rests; ins = r.ins; outs = r.outs }

  fault_later : (a b c : Worker O I) → WentBy k None a b → MetFault k.outward.faults k.inward.faults b c → MetFault k.outward.faults k.inward.faults a c
  fault_later a b c went (inl s) = inl (then_some_rose k.outward.faults (out_of a) (out_of b) (out_of c) went.faults_out s)
  fault_later a b c went (inr s) = inr (then_some_rose k.inward.faults (in_of a) (in_of b) (in_of c) went.faults_in s)

  -- the cause of a stop stays one where more work is counted
  pub cause_later : (s : Option Stop) (looks : ℕ) (lost : Option (LostAt Place)) (a b c : Worker O I) → WentBy k None a b → CauseBy k s looks lost b c → CauseBy k s looks lost a c
  cause_later None looks lost a b c went h = tt
  cause_later (Some stops.Finished) looks lost a b c went h = h
  cause_later (Some stops.Idle) looks lost a b c went h = record {
    idle = h.idle;
    turns = h.turns;
    ins = ins_later looks a b c went h.ins;
    outs = outs_later looks a b c went h.outs;
    row = row_later looks a b c went h.row;
  }
  cause_later (Some stops.AtLimit) looks lost a b c went h = record {
    limit = h.limit;
    ins = ins_later (max looks 1) a b c went h.ins;
    outs = outs_later (max looks 1) a b c went h.outs;
    row = row_later (max looks 1) a b c went h.row;
  }
  cause_later (Some stops.ClockEnd) looks lost a b c went h = h
  cause_later (Some stops.NoMemory) looks lost a b c went h = tt
  cause_later (Some stops.Fault) looks lost a b c went h = fault_later a b c went h
  cause_later (Some stops.Unfit) looks None a b c went h = h
  cause_later (Some stops.Unfit) looks (Some l) a b c went h = h
