-- Pieces of a turn or of a round: each way in which a look ends, and one piece after the other.
use Rattle.std.proofs.Common.{◌≡◌, ℕ, ◌<◌, max, List, [], ◌∷◌, Bool, true, if◌then◌else◌, Option, Some, None, inr, refl, ap, sym, ◌∙◌, subst}
use Rattle.std.specs.Prelude.{IsSome, is_some, slice_get}
use Rattle.std.proofs.Math.ListN.{set}
use Rattle.sj_lang.specs.Place.{Place, done}
use Rattle.sj_table.specs.Spots.{place_in}
use Rattle.sj_end.specs.declared.frames.Frame.{Frame}
use Rattle.sj_end.specs.Views.{frame_at}
use Rattle.sj_rules.specs.Frames.{FrameAt, is_proper}
use Rattle.sj_rules.specs.Limits.{clock_end}
use Rattle.sj_rules.specs.Mapped.{body_with, frame_with}
use Rattle.sj_rules.specs.Node.{arrives, comes_or_opens}
use Rattle.sj_rules.specs.Work.{LostAt}
use Rattle.sj_joined_lemmas.proofs.LimitLemmas.{same_arrives}
use Rattle.sj_lane.specs.Told.{Rose, told_frame}
use Rattle.sj_node.specs.declared.node.Node.{Node}
use Rattle.sj_node.specs.Node.{Stays, clock_of, delivery, node_at}
use Rattle.sj_node.specs.Reading.{IsFinished, parties_of}
use Rattle.sj_work.specs.declared.worker.Outcome.{Outcome}
use Rattle.sj_work.specs.declared.worker.Outcome.TheVariants as answers
use Rattle.sj_work.specs.declared.worker.Stop.{Stop}
use Rattle.sj_work.specs.declared.worker.Stop.TheVariants as stops
use Rattle.sj_work.specs.declared.worker.Worker.{Worker}
use Rattle.sj_work.specs.Answers.{TakesFrame, Delivered}
use Rattle.sj_work.specs.Causes.{Loses}
use Rattle.sj_work.specs.Counts.{SomeRose}
use Rattle.sj_work.specs.Pieces.{Piece}
use Rattle.sj_work.specs.Turns.{IsSettled}
use Rattle.sj_work.specs.Views.{in_of, line_in, stop_at, stop_in, stop_of}
use Rattle.sj_work.proofs.CauseLemmas.{cause_later}
use Rattle.sj_work.proofs.CountLemmas.{some_rose}
use Rattle.sj_work.proofs.HaltLemmas.{finished_before}
use Rattle.sj_work.proofs.LaneLaws.{CauseBy, InDid, LaneLaws, TurnedBy, WentBy}
use Rattle.sj_work.proofs.LaneLemmas.{told_with, none_is as not_none}
use Rattle.sj_work.proofs.NodeLemmas.{arrives_so, came_stepped, stays_quiet}
use Rattle.sj_work.proofs.WentLemmas.{went_came, went_later, went_lost}

-- nodes alike take frames alike
delivery_same : (a b : Node) (from : ℕ) (f : Frame) → Stays a b → delivery b from (frame_at f) ≡ delivery a from (frame_at f)
delivery_same a b from f s = λ i. if is_proper (s.parties i) (frame_at f) then comes_or_opens done max (s.node i) from (body_with (place_in (s.table i)) (frame_at f).body) else None

-- what the rules make of a frame is what they make of it as a lane reports it
arrives_told : (n : Node) (from : ℕ) (f : Frame) → arrives done (parties_of n) max (node_at n) from (told_frame f) ≡ delivery n from (frame_at f)
arrives_told n from f =
    same_arrives done (parties_of n) max done (node_at n) from (told_frame f) (frame_with (place_in n.table) (frame_at f))
    (told_with (λ s. done) (frame_at f) ∙ sym (told_with (place_in n.table) (frame_at f))) ∙ arrives_so n from (frame_at f)

-- a frame that didn't stop the worker raised the clock
pub came_rises : (a b : Node) (from : ℕ) (f : Frame) (r : Option Outcome) → TakesFrame from f a b r → stop_in r ≡ None → clock_of a < clock_of b
came_rises a b from f None came none = (came_stepped a b from (frame_at f) came).rises
came_rises a b from f (Some answer) came none = absurd (not_none (stop_at answer) (sym none))

-- a frame that was delivered, or lost, never stops the worker as finished
pub frame_other : (a b : Node) (from : ℕ) (f : Frame) (r : Option Outcome) → TakesFrame from f a b r → stop_in r ≡ Some stops.Finished → ⊥
frame_other a b from f None c is = absurd (not_none stops.Finished is)
frame_other a b from f (Some answers.Finished) c is = absurd c
frame_other a b from f (Some answers.NoMemory) c is = cc is
frame_other a b from f (Some (answers.Unfit line)) c is = cc is
frame_other a b from f (Some answers.Idle) c is = absurd c
frame_other a b from f (Some answers.AtLimit) c is = absurd c
frame_other a b from f (Some answers.ClockEnd) c is = absurd c
frame_other a b from f (Some answers.Fault) c is = absurd c

stays_before : (a b : Node) → Stays a b → IsFinished b → IsFinished a
stays_before a b s f = finished_before a b s.node (λ q none. sym (s.posts q) ∙ none) f

-- and where it was lost the node is finished only where it was before
pub frame_before : (a b : Node) (from : ℕ) (f : Frame) (r : Option Outcome) → TakesFrame from f a b r → IsSome (stop_in r) → IsFinished b → IsFinished a
frame_before a b from f None c some = absurd (cc some)
frame_before a b from f (Some answers.NoMemory) c some = stays_before a b c
frame_before a b from f (Some (answers.Unfit line)) c some = stays_before a b c.0
frame_before a b from f (Some answers.Finished) c some = absurd c
frame_before a b from f (Some answers.Idle) c some = absurd c
frame_before a b from f (Some answers.AtLimit) c some = absurd c
frame_before a b from f (Some answers.ClockEnd) c some = absurd c
frame_before a b from f (Some answers.Fault) c some = absurd c

-- an answer is a stop
pub stop_there : (a : Option Outcome) (b : Bool) → b ≡ is_some a → b ≡ true → IsSome (stop_in a)
stop_there None b is answers = cc
stop_there (Some x) b is answers = refl

module _ {O I : Type 0} (k : LaneLaws O I) where
  abbrev pub PieceBy : (looks : ℕ) → (old new : Worker O I) → Type 0
  PieceBy looks old new = Piece k.outward k.inward looks old new

  -- a worker that didn't stop
  pub piece_on : (a b : Worker O I) → WentBy k None a b → stop_of b ≡ None → (looks : ℕ) → PieceBy looks a b
  piece_on a b went none looks = record { lost = None; went = went; loses = tt; cause = subst (λ (s : Option Stop). CauseBy k s looks None a b) (sym none) tt }

  -- and one that did
  pub piece_off : (a b : Worker O I) (lost : Option (LostAt Place)) (s : Stop) (looks : ℕ) → stop_of b ≡ Some s → WentBy k lost a b → Loses lost (Some s)
      → CauseBy k (Some s) looks lost a b → PieceBy looks a b
  piece_off a b lost s looks is went loses cause = record {
    lost = lost;
    went = went;
    loses = subst (λ (t : Option Stop). Loses lost t) (sym is) loses;
    cause = subst (λ (t : Option Stop). CauseBy k t looks lost a b) (sym is) cause;
  }

  -- a piece that didn't stop the worker lost nothing
  pub piece_went : (looks : ℕ) (a b : Worker O I) → PieceBy looks a b → stop_of b ≡ None → WentBy k None a b
  piece_went looks a b p none = none_lost p.lost p.went (subst (λ (s : Option Stop). Loses p.lost s) none p.loses)
    where
      none_lost : (lost : Option (LostAt Place)) → WentBy k lost a b → Loses lost None → WentBy k None a b
      none_lost None w l = w
      none_lost (Some x) w l = absurd l

  -- a piece after work
  pub piece_behind : (looks : ℕ) (a b c : Worker O I) → WentBy k None a b → PieceBy looks b c → PieceBy looks a c
  piece_behind looks a b c went p = record {
    lost = p.lost;
    went = went_later k a b c p.lost went p.went;
    loses = p.loses;
    cause = cause_later k (stop_of c) looks p.lost a b c went p.cause;
  }

  -- a piece of a turn
  pub turned_with : (looks : ℕ) (a b : Worker O I) → PieceBy looks a b → IsSettled b → TurnedBy k looks a b
  turned_with looks a b p settled = record { lost = p.lost; went = p.went; loses = p.loses; finished = settled; cause = p.cause }

  -- neither finished nor stopped so
  pub unsettled : (b : Worker O I) → (stop_of b ≡ Some stops.Finished → ⊥) → (IsFinished b.node → ⊥) → IsSettled b
  unsettled b other open_yet = (λ h. absurd (other h), λ f. absurd (open_yet f))

  -- a frame that was popped, and delivered or lost
  pub frame_came : (a b : Worker O I) (from : ℕ) (f : Frame) (i j : I) (r : Option Outcome) → TakesFrame from f a.node b.node r → b.answer ≡ r → b.lanes.outs.items ≡ a.lanes.outs.items
      → in_of a from ≡ Some i → b.lanes.ins.items ≡ set a.lanes.ins.items from j → InDid k i j (told_frame f ∷ []) → from < parties_of a.node → clock_of a.node < clock_end
      → (looks : ℕ) → PieceBy looks a b
  frame_came a b from f i j r came is outs at put did within before = by r came is
    where
      delivered : Delivered from f a.node b.node → WentBy k None a b
      delivered does =
          went_came k a b from (frame_with (place_in a.node.table) (frame_at f)) i j (came_stepped a.node b.node from (frame_at f) does) outs at put
          (subst (λ (m : FrameAt Place). InDid k i j (m ∷ [])) (sym (told_with (place_in a.node.table) (frame_at f))) did) within before

      lost_so : Stays a.node b.node → WentBy k (Some (record { party = from; frame = told_frame f })) a b
      lost_so s = went_lost k a b from (told_frame f) i j (stays_quiet a.node b.node s) s.posts outs at put did within before

      by : (r : Option Outcome) → TakesFrame from f a.node b.node r → b.answer ≡ r → (looks : ℕ) → PieceBy looks a b
      by None c is = piece_on a b (delivered c) (ap stop_in is)
      by (Some answers.NoMemory) c is = λ looks.
          piece_off a b (Some (record { party = from; frame = told_frame f })) stops.NoMemory looks (ap stop_in is) (lost_so c) tt tt
      by (Some (answers.Unfit line)) c is = λ looks.
          piece_off a b (Some (record { party = from; frame = told_frame f })) stops.Unfit looks (ap stop_in is) (lost_so c.0) tt
          (subst (λ (n : ℕ). from < n) (sym c.0.parties) within, arrives_told b.node from f ∙ delivery_same a.node b.node from f c.0 ∙ c.1, ap line_in is ∙ ap Some c.2)
      by (Some answers.Finished) c is = absurd c
      by (Some answers.Idle) c is = absurd c
      by (Some answers.AtLimit) c is = absurd c
      by (Some answers.ClockEnd) c is = absurd c
      by (Some answers.Fault) c is = absurd c

  -- a pop that a lane refused for a fault
  pub pop_fault : (a b : Worker O I) (from : ℕ) (i j : I) → WentBy k None a b → stop_of b ≡ Some stops.Fault → in_of a from ≡ Some i → b.lanes.ins.items ≡ set a.lanes.ins.items from j
      → Rose (k.inward.faults i) (k.inward.faults j) → (looks : ℕ) → PieceBy looks a b
  pop_fault a b from i j went is at put rose looks =
      piece_off a b None stops.Fault looks is went tt
      (inr (subst (λ (xs : List I). SomeRose k.inward.faults (in_of a) (slice_get xs)) (sym put) (some_rose k.inward.faults a.lanes.ins.items from i j at rose)))
