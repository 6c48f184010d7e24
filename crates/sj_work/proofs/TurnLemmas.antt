-- Pieces of a turn: each way in which one ends, and one after the other.
use Rattle.std.proofs.Common.{rules, ◌≡◌, ℕ, ◌≤◌, List, if◌then◌else◌, Option, Some, None, Err, inl, refl, ap, sym, ◌∙◌, subst}
use Rattle.std.specs.Prelude.{IsSome, slice_get}
use Rattle.std.proofs.Math.ListN.{set}
use Rattle.sj_lang.specs.Place.{Place}
use Rattle.sj_table.specs.Spots.{start_in}
use Rattle.sj_end.specs.declared.frames.Frame.{Frame}
use Rattle.sj_rules.specs.Limits.{clock_end}
use Rattle.sj_rules.specs.Node.{acts}
use Rattle.sj_rules.specs.Work.{LostAt}
use Rattle.sj_lane.specs.declared.lane.PushRefusal.{PushRefusal}
use Rattle.sj_lane.specs.declared.lane.PushRefusal.TheVariants as pushes
use Rattle.sj_lane.specs.Told.{PushCause, vain_push}
use Rattle.sj_node.specs.declared.node.Node.{Node}
use Rattle.sj_node.specs.declared.refusal.Halt.{Halt}
use Rattle.sj_node.specs.declared.refusal.Halt.TheVariants as halts
use Rattle.sj_node.specs.Node as nodes
use Rattle.sj_node.specs.Node.{Stays, act_of, clock_of, has_room}
use Rattle.sj_node.specs.Play.{next_want, play_with}
use Rattle.sj_node.specs.Reading.{IsFinished}
use Rattle.sj_work.specs.declared.worker.Outcome.{Outcome}
use Rattle.sj_work.specs.declared.worker.Outcome.TheVariants as answers
use Rattle.sj_work.specs.declared.worker.Stop.{Stop}
use Rattle.sj_work.specs.declared.worker.Stop.TheVariants as stops
use Rattle.sj_work.specs.declared.worker.Worker.{Worker}
use Rattle.sj_work.specs.Answers.{SaysHalt, SeesFinished, push_answer}
use Rattle.sj_work.specs.Causes.{Loses}
use Rattle.sj_work.specs.Counts.{RoseBy, SomeRose}
use Rattle.sj_work.specs.Turns.{IsGoing}
use Rattle.sj_work.specs.Views.{line_in, out_of, stop_in, stop_of}
use Rattle.sj_work.specs.Worked.{Worked, WorkedBy, kept_stop}
use Rattle.sj_work.proofs.CauseLemmas.{cause_later}
use Rattle.sj_work.proofs.CountLemmas.{rose_raised, some_rose}
use Rattle.sj_work.proofs.HaltLemmas.{Refused, finished_before}
use Rattle.sj_work.proofs.LaneLaws.{CauseBy, LaneLaws, TurnedBy, WentBy}
use Rattle.sj_work.proofs.LaneLemmas.{none_is as not_none}
use Rattle.sj_work.proofs.NodeLemmas.{stays_quiet}
use Rattle.sj_work.proofs.WentLemmas.{went_again, went_itself, went_later, went_still}

-- nodes alike act alike
act_same : (a b : Node) → Stays a b → act_of b ≡ act_of a
act_same a b s = λ i. if has_room (s.node i).main (next_want (s.node i).program) then acts (play_with (start_in (s.table i)) (s.connects i) (s.parties i)) (s.party i) (s.node i) else None

-- where a refused push didn't stop the worker, the lane was full
pub full_vain : (x y : ℕ) (g : Frame) (why : PushRefusal) (r : Option Outcome) → r ≡ push_answer why → stop_in r ≡ None → y ≡ vain_push x (Err (g, why)) → RoseBy 1 x y
full_vain x y g pushes.Full r is none vain = rose_raised x y vain
full_vain x y g pushes.Fault r is none vain = absurd (not_none stops.Fault (sym none ∙ ap stop_in is))
full_vain x y g pushes.NoMemory r is none vain = absurd (not_none stops.NoMemory (sym none ∙ ap stop_in is))

module _ {O I : Type 0} (k : LaneLaws O I) where
  -- a worker that goes on
  pub turned_on : (a b : Worker O I) → WentBy k None a b → stop_of b ≡ None → (IsFinished b.node → ⊥) → (looks : ℕ) → TurnedBy k looks a b
  turned_on a b went none open_yet looks = record {
    lost = None;
    went = went;
    loses = tt;
    finished = (λ h. absurd (not_none stops.Finished (sym none ∙ h)), λ f. absurd (open_yet f));
    cause = subst (λ (s : Option Stop). CauseBy k s looks None a b) (sym none) tt;
  }

  -- a worker that stops otherwise than as finished
  pub turned_off : (a b : Worker O I) (lost : Option (LostAt Place)) (s : Stop) (looks : ℕ) → stop_of b ≡ Some s → (s ≡ stops.Finished → ⊥) → (IsFinished b.node → ⊥)
      → WentBy k lost a b → Loses lost (Some s) → CauseBy k (Some s) looks lost a b → TurnedBy k looks a b
  turned_off a b lost s looks is other open_yet went loses cause = record {
    lost = lost;
    went = went;
    loses = subst (λ (t : Option Stop). Loses lost t) (sym is) loses;
    finished = (λ h. absurd (other (same s (sym is ∙ h))), λ f. absurd (open_yet f));
    cause = subst (λ (t : Option Stop). CauseBy k t looks lost a b) (sym is) cause;
  }
    where
      same : (s : Stop) → Some s ≡ Some stops.Finished → s ≡ stops.Finished
      same s h = cc

  -- after an event or a push it is seen whether the node is finished
  pub turned_seen : (a b : Worker O I) (r : Option Outcome) → b.answer ≡ r → SeesFinished b.node r → WentBy k None a b → (looks : ℕ) → TurnedBy k looks a b
  turned_seen a b None is sees went = turned_on a b went (ap stop_in is) sees
  turned_seen a b (Some answers.Finished) is sees went = λ looks. record {
    lost = None;
    went = went;
    loses = tt;
    finished = (λ h. sees, λ f. ap stop_in is);
    cause = subst (λ (t : Option Stop). CauseBy k t looks None a b) (sym (ap stop_in is)) sees;
  }
  turned_seen a b (Some answers.Idle) is sees went = absurd sees
  turned_seen a b (Some answers.AtLimit) is sees went = absurd sees
  turned_seen a b (Some answers.ClockEnd) is sees went = absurd sees
  turned_seen a b (Some answers.NoMemory) is sees went = absurd sees
  turned_seen a b (Some answers.Fault) is sees went = absurd sees
  turned_seen a b (Some (answers.Unfit line)) is sees went = absurd sees

  -- a piece that didn't stop the worker lost nothing
  pub went_so : (looks : ℕ) (a b : Worker O I) → TurnedBy k looks a b → stop_of b ≡ None → WentBy k None a b
  went_so looks a b t none = none_lost t.lost t.went (subst (λ (s : Option Stop). Loses t.lost s) none t.loses)
    where
      none_lost : (lost : Option (LostAt Place)) → WentBy k lost a b → Loses lost None → WentBy k None a b
      none_lost None w l = w
      none_lost (Some x) w l = absurd l

  pub went_of : (a b : Worker O I) → TurnedBy k 0 a b → stop_of b ≡ None → WentBy k None a b
  went_of a b t none = went_so 0 a b t none

  -- and didn't finish it
  pub going : (looks : ℕ) (a b : Worker O I) → TurnedBy k looks a b → stop_of b ≡ None → IsGoing b
  going looks a b t none = record { stop = none; open_yet = λ f. not_none stops.Finished (sym none ∙ t.finished.1 f) }

  -- a piece after work
  pub turned_behind : (looks : ℕ) (a b c : Worker O I) → WentBy k None a b → TurnedBy k looks b c → TurnedBy k looks a c
  turned_behind looks a b c went t = record {
    lost = t.lost;
    went = went_later k a b c t.lost went t.went;
    loses = t.loses;
    finished = t.finished;
    cause = cause_later k (stop_of c) looks t.lost a b c went t.cause;
  }

  -- a node that refused is finished only where it was before
  pub stays_open : (a b : Worker O I) → IsGoing a → Stays a.node b.node → IsFinished b.node → ⊥
  stays_open a b goes s f = goes.open_yet (finished_before a.node b.node s.node (λ q none. sym (s.posts q) ∙ none) f)

  -- an act that the node refused
  pub act_refused : (a b : Worker O I) (h : Halt) (r : Option Outcome) → IsGoing a → Stays a.node b.node → (Refused h halts.Unfit → act_of a.node ≡ None) → (h ≡ halts.Unfit → nodes.node_halt b.node ≡ None)
      → SaysHalt b.node h r → b.answer ≡ r → b.lanes ≡ a.lanes → (looks : ℕ) → TurnedBy k looks a b
  act_refused a b halts.Waits r goes s unfit free says is lanes = turned_on a b (went_still k a b (stays_quiet a.node b.node s) s.posts lanes) (ap stop_in (is ∙ says)) (stays_open a b goes s)
  act_refused a b halts.Ended r goes s unfit free says is lanes = turned_on a b (went_still k a b (stays_quiet a.node b.node s) s.posts lanes) (ap stop_in (is ∙ says)) (stays_open a b goes s)
  act_refused a b halts.AtLimit r goes s unfit free says is lanes = turned_on a b (went_still k a b (stays_quiet a.node b.node s) s.posts lanes) (ap stop_in (is ∙ says)) (stays_open a b goes s)
  act_refused a b halts.NoMemory r goes s unfit free says is lanes = λ looks.
      turned_off a b None stops.NoMemory looks (ap stop_in (is ∙ says)) (λ e. cc e) (stays_open a b goes s) (went_still k a b (stays_quiet a.node b.node s) s.posts lanes) tt tt
  act_refused a b halts.Unfit r goes s unfit free says is lanes = λ looks.
      turned_off a b None stops.Unfit looks (ap stop_in (is ∙ says.1)) (λ e. cc e) (stays_open a b goes s) (went_still k a b (stays_quiet a.node b.node s) s.posts lanes) tt
      (free refl, act_same a.node b.node s ∙ unfit refl, ap line_in (is ∙ says.1) ∙ says.2)

  -- a frame that a lane refused, and that is back in its outbox
  pub push_refused : (a b : Worker O I) (to : ℕ) (o p : O) (g : Frame) (why : PushRefusal) → (IsFinished b.node → ⊥) → WentBy k None a b → b.answer ≡ push_answer why
      → PushCause (k.outward.faults o) (k.outward.faults p) (Err (g, why)) → out_of a to ≡ Some o → b.lanes.outs.items ≡ set a.lanes.outs.items to p → (looks : ℕ) → TurnedBy k looks a b
  push_refused a b to o p g pushes.Full open_yet went is cause at put = turned_on a b went (ap stop_in is) open_yet
  push_refused a b to o p g pushes.NoMemory open_yet went is cause at put = λ looks. turned_off a b None stops.NoMemory looks (ap stop_in is) (λ e. cc e) open_yet went tt tt
  push_refused a b to o p g pushes.Fault open_yet went is cause at put = λ looks.
      turned_off a b None stops.Fault looks (ap stop_in is) (λ e. cc e) open_yet went tt
      (inl (subst (λ (xs : List O). SomeRose k.outward.faults (out_of a) (slice_get xs)) (sym put) (some_rose k.outward.faults a.lanes.outs.items to o p at cause)))

  -- the worker has gone on so far
  pub record Gone (looks : ℕ) (init now : Worker O I) : Type 0 where
    pub went : WentBy k None init now
    pub goes : IsGoing now

  pub gone_none : (looks : ℕ) (w : Worker O I) → IsGoing w → Gone looks w w
  gone_none looks w goes = record { went = went_itself k w w refl refl; goes = goes }

  pub gone_more : (looks : ℕ) (init now next : Worker O I) → Gone looks init now → TurnedBy k looks now next → stop_of next ≡ None → Gone looks init next
  gone_more looks init now next g t none = record { went = went_later k init now next None g.went (went_so looks now next t none); goes = going looks now next t none }

  pub gone_turned : (looks : ℕ) (init now next : Worker O I) → Gone looks init now → TurnedBy k looks now next → TurnedBy k looks init next
  gone_turned looks init now next g t = turned_behind looks init now next g.went t

  -- and stops since its clock is over
  pub clock_over : (looks : ℕ) (init now : Worker O I) → Gone looks init now → clock_end ≤ clock_of now.node → TurnedBy k looks init (record now { answer = Some answers.ClockEnd })
  clock_over looks init now g over =
      turned_off init (record now { answer = Some answers.ClockEnd }) None stops.ClockEnd looks refl (λ e. cc e) g.goes.open_yet
      (went_again k init now None (Some answers.ClockEnd) now.looks g.went) tt over

  -- a call, up to its stop
  pub worked_by : (looks : ℕ) (a b : Worker O I) (s : Stop) → kept_stop (stop_of a) ≡ None → stop_of b ≡ Some s → TurnedBy k looks a b
      → Worked k.outward k.inward looks a b
  worked_by looks a b s not_kept is t =
      subst (λ (o : Option Stop). WorkedBy k.outward k.inward o looks a b) (sym not_kept)
      (subst (λ (o : Option Stop). IsSome o) (sym is) (search rules), t)
