-- Rounds: what was taken, and what is pushed then.
use Rattle.std.proofs.Common.{◌≡◌, ℕ, Option, Some, None, refl, sym, ◌∙◌, arith, subst}
use Rattle.std.specs.Prelude.{IsSome}
use Rattle.sj_lang.specs.Place.{Place}
use Rattle.sj_rules.specs.Work.{LostAt}
use Rattle.sj_node.specs.Node.{clock_of}
use Rattle.sj_node.specs.Reading.{IsFinished}
use Rattle.sj_work.specs.declared.worker.Stop.{Stop}
use Rattle.sj_work.specs.declared.worker.Stop.TheVariants as stops
use Rattle.sj_work.specs.declared.worker.Worker.{Worker}
use Rattle.sj_work.specs.Attended.{AttendCause, Attended, AttendedBy, MayGoOn}
use Rattle.sj_work.specs.Causes.{Loses}
use Rattle.sj_work.specs.Views.{stop_of}
use Rattle.sj_work.specs.Went.{InVain, OutVain}
use Rattle.sj_work.specs.Worked.{kept_stop}
use Rattle.sj_work.proofs.CauseLemmas.{cause_later, ins_then, outs_later}
use Rattle.sj_work.proofs.LaneLaws.{CauseBy, LaneLaws, TurnedBy, WentBy}
use Rattle.sj_work.proofs.PieceLemmas.{PieceBy}
use Rattle.sj_work.proofs.RestLemmas.{outbox_empty}
use Rattle.sj_work.proofs.WentLemmas.{went_later}
use Rattle.sj_work.proofs.TakeLemmas.{still_before}

zero_one : (n : ℕ) → n ≡ 0 → n ≡ 1 → ⊥
zero_one n p q = absurd (omega arith)

-- a stop that stays keeps the worker from another round
pub kept_over : (o : Option Stop) (s : Stop) → kept_stop o ≡ Some s → MayGoOn (Some s) → ⊥
kept_over o stops.AtLimit is may = absurd may
kept_over o stops.ClockEnd is may = absurd may
kept_over o stops.NoMemory is may = absurd may
kept_over o stops.Fault is may = absurd may
kept_over o stops.Unfit is may = absurd may
kept_over o stops.Finished is may = other o is
  where
    other : (o : Option Stop) → kept_stop o ≡ Some stops.Finished → ⊥
    other (Some stops.NoMemory) is = cc is
    other (Some stops.Fault) is = cc is
    other (Some stops.Unfit) is = cc is
    other (Some stops.Finished) is = cc is
    other (Some stops.Idle) is = cc is
    other (Some stops.AtLimit) is = cc is
    other (Some stops.ClockEnd) is = cc is
    other None is = cc is
kept_over o stops.Idle is may = other o is
  where
    other : (o : Option Stop) → kept_stop o ≡ Some stops.Idle → ⊥
    other (Some stops.NoMemory) is = cc is
    other (Some stops.Fault) is = cc is
    other (Some stops.Unfit) is = cc is
    other (Some stops.Finished) is = cc is
    other (Some stops.Idle) is = cc is
    other (Some stops.AtLimit) is = cc is
    other (Some stops.ClockEnd) is = cc is
    other None is = cc is

module _ {O I : Type 0} (k : LaneLaws O I) where
  abbrev pub AttendedIn : (old new : Worker O I) → Type 0
  AttendedIn old new = Attended k.outward k.inward old new

  -- where turns may go on, what waited was pushed in vain
  pushed_of : (a b : Worker O I) (lost : Option (LostAt Place)) (s : Option Stop) → CauseBy k s 1 lost a b → MayGoOn s → OutVain k.outward.vain 1 a b
  pushed_of a b lost None c may = absurd may
  pushed_of a b lost (Some stops.Finished) c may = λ q lt waits. absurd (waits (outbox_empty b.node q (c.outs q)))
  pushed_of a b lost (Some stops.Idle) c may = c.outs
  pushed_of a b lost (Some stops.AtLimit) c may = absurd may
  pushed_of a b lost (Some stops.ClockEnd) c may = absurd may
  pushed_of a b lost (Some stops.NoMemory) c may = absurd may
  pushed_of a b lost (Some stops.Fault) c may = absurd may
  pushed_of a b lost (Some stops.Unfit) c may = absurd may

  -- the cause of a stop, where an idle party isn't finished
  cause_with : (a b : Worker O I) (lost : Option (LostAt Place)) (s : Option Stop) → (s ≡ Some stops.Idle → IsFinished b.node → ⊥) → CauseBy k s 0 lost a b → AttendCause k.outward k.inward s lost a b
  cause_with a b lost None open_yet c = c
  cause_with a b lost (Some stops.Finished) open_yet c = c
  cause_with a b lost (Some stops.Idle) open_yet c = open_yet refl
  cause_with a b lost (Some stops.AtLimit) open_yet c = c
  cause_with a b lost (Some stops.ClockEnd) open_yet c = c
  cause_with a b lost (Some stops.NoMemory) open_yet c = c
  cause_with a b lost (Some stops.Fault) open_yet c = c
  cause_with a b lost (Some stops.Unfit) open_yet c = c

  -- a piece of a turn that stopped
  pub attended_turned : (a b : Worker O I) → ((looks : ℕ) → TurnedBy k looks a b) → AttendedIn a b
  attended_turned a b t = record {
    lost = (t 0).lost;
    went = (t 0).went;
    loses = (t 0).loses;
    cause = cause_with a b (t 0).lost (stop_of b) (λ is f. apart is ((t 0).finished.1 f)) (t 0).cause;
    pushed = pushed_of a b (t 1).lost (stop_of b) (t 1).cause;
  }
    where
      apart : stop_of b ≡ Some stops.Idle → stop_of b ≡ Some stops.Finished → ⊥
      apart p q = cc (sym p ∙ q)

  -- a worker that pushed all, and has nothing to do
  pub attended_idle : (a b : Worker O I) → WentBy k None a b → (IsFinished b.node → ⊥) → OutVain k.outward.vain 1 a b → stop_of b ≡ Some stops.Idle → AttendedIn a b
  attended_idle a b went open_yet pushed is = record {
    lost = None;
    went = went;
    loses = tt;
    cause = subst (λ (s : Option Stop). AttendCause k.outward k.inward s None a b) (sym is) open_yet;
    pushed = λ may. pushed;
  }

  -- what was taken doesn't stop so that the worker may go on
  pub piece_over : (a b : Worker O I) → ((looks : ℕ) → PieceBy k looks a b) → (stop_of b ≡ Some stops.Finished → ⊥) → MayGoOn (stop_of b) → ⊥
  piece_over a b p other = by (stop_of b) (p 0).cause (p 1).cause other
    where
      by : (s : Option Stop) → CauseBy k s 0 (p 0).lost a b → CauseBy k s 1 (p 1).lost a b → (s ≡ Some stops.Finished → ⊥) → MayGoOn s → ⊥
      by None c d other may = may
      by (Some stops.Finished) c d other may = other refl
      by (Some stops.Idle) c d other may = zero_one b.looks c.turns d.turns
      by (Some stops.AtLimit) c d other may = may
      by (Some stops.ClockEnd) c d other may = may
      by (Some stops.NoMemory) c d other may = may
      by (Some stops.Fault) c d other may = may
      by (Some stops.Unfit) c d other may = may

  idle_may : (o : Option Stop) → o ≡ Some stops.Idle → MayGoOn o
  idle_may o is = subst (λ (s : Option Stop). MayGoOn s) (sym is) tt

  pub attended_piece : (a b : Worker O I) → ((looks : ℕ) → PieceBy k looks a b) → (stop_of b ≡ Some stops.Finished → ⊥) → AttendedIn a b
  attended_piece a b p other = record {
    lost = (p 0).lost;
    went = (p 0).went;
    loses = (p 0).loses;
    cause = cause_with a b (p 0).lost (stop_of b) (λ is f. piece_over a b p other (idle_may (stop_of b) is)) (p 0).cause;
    pushed = λ may. absurd (piece_over a b p other may);
  }

  later_cause : (a b c : Worker O I) (lost : Option (LostAt Place)) (s : Option Stop) → WentBy k None a b → AttendCause k.outward k.inward s lost b c → AttendCause k.outward k.inward s lost a c
  later_cause a b c lost None went x = cause_later k None 0 lost a b c went x
  later_cause a b c lost (Some stops.Finished) went x = x
  later_cause a b c lost (Some stops.Idle) went x = x
  later_cause a b c lost (Some stops.AtLimit) went x = cause_later k (Some stops.AtLimit) 0 lost a b c went x
  later_cause a b c lost (Some stops.ClockEnd) went x = x
  later_cause a b c lost (Some stops.NoMemory) went x = x
  later_cause a b c lost (Some stops.Fault) went x = cause_later k (Some stops.Fault) 0 lost a b c went x
  later_cause a b c lost (Some stops.Unfit) went x = cause_later k (Some stops.Unfit) 0 lost a b c went x

  -- a round after work
  pub attended_behind : (a b c : Worker O I) → WentBy k None a b → AttendedIn b c → AttendedIn a c
  attended_behind a b c went x = record {
    lost = x.lost;
    went = went_later k a b c x.lost went x.went;
    loses = x.loses;
    cause = later_cause a b c x.lost (stop_of c) went x.cause;
    pushed = λ may. outs_later k 1 a b c went (x.pushed may);
  }

  -- where the worker may go on nothing was lost
  attended_went : (a b : Worker O I) → AttendedIn a b → MayGoOn (stop_of b) → WentBy k None a b
  attended_went a b x may = by x.lost (stop_of b) x.loses may x.went
    where
      by : (lost : Option (LostAt Place)) (s : Option Stop) → Loses lost s → MayGoOn s → WentBy k lost a b → WentBy k None a b
      by None s l may w = w
      by (Some x) (Some stops.Finished) l may w = absurd l
      by (Some x) (Some stops.Idle) l may w = absurd l
      by (Some x) (Some stops.AtLimit) l may w = absurd may
      by (Some x) (Some stops.ClockEnd) l may w = absurd may
      by (Some x) (Some stops.NoMemory) l may w = absurd may
      by (Some x) (Some stops.Fault) l may w = absurd may
      by (Some x) (Some stops.Unfit) l may w = absurd may
      by (Some x) None l may w = absurd may

  -- a round, of looks and of pushes
  pub looked_round : (a b c : Worker O I) → WentBy k None a b → (clock_of b.node ≡ clock_of a.node → InVain k.inward.vain 1 a b) → AttendedIn b c → MayGoOn (stop_of c) → clock_of c.node ≡ clock_of a.node → InVain k.inward.vain 1 a c
  looked_round a b c went vain x may same = ins_then k 1 a b c (vain (still_before _ _ _ went.clock x.went.clock same)) (attended_went b c x may)

  -- a call, up to its stop
  pub attended_by : (a b : Worker O I) (s : Stop) → kept_stop (stop_of a) ≡ None → stop_of b ≡ Some s → AttendedIn a b → AttendedBy k.outward k.inward (kept_stop (stop_of a)) a b
  attended_by a b s not_kept is x =
      subst (λ (o : Option Stop). AttendedBy k.outward k.inward o a b) (sym not_kept) (subst (λ (o : Option Stop). IsSome o) (sym is) refl, x)
