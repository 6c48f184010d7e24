-- Looks of a worker in vain, one after the other.
use Rattle.std.proofs.Common.{◌≡◌, ◌∙◌, ℕ, ◌+◌, ◌<◌, Option, Some, None, Result, Ok, Err, OnErr, refl, ap, sym, subst, arith}
use Rattle.std.specs.Prelude.{IsErrOf, slice_get}
use Rattle.sj_lane.specs.declared.lane.Lanes.{Lanes}
use Rattle.sj_node.specs.Node.{clock_of, node_halt, wants_of}
use Rattle.sj_node.specs.Reading.{parties_of}
use Rattle.sj_node.specs.declared.refusal.Halt.TheVariants as halts
use Rattle.sj_semantics.specs.declared.Want.TheVariants as wants
use Rattle.sj_work.specs.Attended.{AttendCause, AttendedBy, MayGoOn}
use Rattle.sj_work.specs.Counts.{OnLane, RoseBy}
use Rattle.sj_work.specs.Views.{in_of, stop_of}
use Rattle.sj_work.specs.Worked.{kept_stop}
use Rattle.sj_work.specs.declared.worker.Stop.{Stop}
use Rattle.sj_work.specs.declared.worker.Stop.TheVariants as stops
use Rattle.sj_work.specs.declared.worker.Worker.{Worker}
use Rattle.sj_work.proofs.CauseLemmas.{ins_more}
use Rattle.sj_work.proofs.LaneLaws.{LaneLaws}
use Rattle.sj_rules.specs.Work.{LostAt}
use Rattle.sj_lang.specs.Place.{Place}
use Rattle.sj_seat.specs.Looked.{LookedAt}
use Rattle.sj_seat.specs.Went.{Keeps, lasting}

module _ {O I : Type 0} (k : LaneLaws O I) where
  rose_none : (o : Option I) → OnLane k.inward.vain (RoseBy 0) o o
  rose_none None = tt
  rose_none (Some i) = omega arith

  pub looked_none : (a : Worker O I) → LookedAt k.inward 0 a a
  looked_none a = λ same q lt. rose_none (in_of a q)

  -- so many times, and so many times more
  pub looked_more : (m n : ℕ) (a b c : Worker O I) → Keeps a.node b.node → Keeps b.node c.node → LookedAt k.inward m a b → LookedAt k.inward n b c → LookedAt k.inward (m + n) a c
  looked_more m n a b c x y v w = λ same.
      let one : clock_of b.node ≡ clock_of a.node = omega (arith, x.clock, y.clock, same) in
      let other : clock_of c.node ≡ clock_of b.node = omega (arith, x.clock, y.clock, same) in
      ins_more k m n a b c y.parties (v one) (w other)

  -- then nothing more
  pub looked_still : (n : ℕ) (a b c : Worker O I) → Keeps b.node c.node → clock_of c.node ≡ clock_of b.node → c.lanes ≡ b.lanes → LookedAt k.inward n a b → LookedAt k.inward n a c
  looked_still n a b c x clock lanes v = λ same q lt.
      subst (λ (l : Lanes O I). OnLane k.inward.vain (RoseBy n) (in_of a q) (slice_get l.ins.items q)) (sym lanes) (v (sym clock ∙ same) q (subst (λ (m : ℕ). q < m) x.parties lt))

-- a party that has ended isn't at a limit
not_at_limit : {O I : Type 0} (b : Worker O I) → wants_of b.node ≡ wants.Ended → node_halt b.node ≡ Some halts.AtLimit → ⊥
not_at_limit b idle h = absurd (cc (idle, h))

module _ {O I : Type 0} (k : LaneLaws O I) (a b : Worker O I) (idle : wants_of b.node ≡ wants.Ended) where
  limit_cause : (lost : Option (LostAt Place)) (s : Option Stop) → AttendCause k.outward k.inward s lost a b → s ≡ Some stops.AtLimit → ⊥
  limit_cause lost s cause is = not_at_limit b idle (subst (λ (t : Option Stop). AttendCause k.outward k.inward t lost a b) is cause).limit

  no_limit : AttendedBy k.outward k.inward (kept_stop (stop_of a)) a b → stop_of b ≡ Some stops.AtLimit → ⊥
  no_limit w is = by (kept_stop (stop_of a)) refl w
    where
      not_kept : (s : Stop) → kept_stop (Some stops.AtLimit) ≡ Some s → ⊥
      not_kept s h = absurd (cc h)

      by : (o : Option Stop) → kept_stop (stop_of a) ≡ o → AttendedBy k.outward k.inward o a b → ⊥
      by None none x = limit_cause x.1.lost (stop_of b) x.1.cause is
      by (Some stop) kept same = not_kept stop (sym (ap kept_stop (sym (ap stop_of same) ∙ is)) ∙ kept)

  -- after a round that leaves no stop that lasts the party may go on
  pub may_go : AttendedBy k.outward k.inward (kept_stop (stop_of a)) a b → (s : Stop) → stop_of b ≡ Some s → lasting s ≡ None → MayGoOn (Some s)
  may_go w stops.Finished is none = tt
  may_go w stops.Idle is none = tt
  may_go w stops.AtLimit is none = no_limit w is
  may_go w stops.ClockEnd is none = absurd (cc none)
  may_go w stops.NoMemory is none = absurd (cc none)
  may_go w stops.Fault is none = absurd (cc none)
  may_go w stops.Unfit is none = absurd (cc none)

-- what is said of an Err
pub of_err : {T E P : Type 0} (r : Result T E) (e : E) → IsErrOf r e → OnErr r P → P
of_err (Ok x) e is p = absurd (cc is)
of_err (Err d) e is p = p
