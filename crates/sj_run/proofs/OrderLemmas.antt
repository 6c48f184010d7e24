-- Where the links carried in order and unchanged, what the parties left is no damage: their joined
-- logs are a history, and none is unfit.
use Rattle.std.proofs.Common.{◌≡◌, ◌⊎◌, ◌∙◌, ℕ, ◌<◌, ◌≤◌, nat_lt, if◌then◌else◌, max, Bool, true, false, List, [], length, Option, Some, None, option_map, inl, inr, refl, sym, ap, subst, arith}
use Rattle.std.specs.Prelude.{slice_get, unwrap_or}
use Rattle.std.proofs.lemmas.Bool.Decides.{nat_tests}
use mathlib.Core.List.{IsPrefix}
use Rattle.sj_lang.specs.Place.{Place, done}
use Rattle.sj_lang.specs.FileAt.{FileAt}
use Rattle.sj_acceptance.specs.Accepted.{IsAccepted}
use Rattle.sj_semantics.specs.Program.{Program}
use Rattle.sj_joined_lemmas.proofs.HistoryLemmas.{no_misfit}
use Rattle.sj_lane.proofs.BackLemmas.{slice_get_some as there_is}
use Rattle.sj_node.specs.Node.{log_of, node_at, outbox_of}
use Rattle.sj_rules.specs.Frames.{FrameAt}
use Rattle.sj_rules.specs.History.{IsFirstMisfit, IsHistory}
use Rattle.sj_rules.specs.Joined.{PartiesWork, WorkerAt, Works, fresh}
use Rattle.sj_rules.specs.Log.{EntryAt, IsJoined, LineAt, logs_below}
use Rattle.sj_rules.specs.Node.{NodeAt}
use Rattle.sj_rules.specs.NodeRun.{NodeRun, told_frames}
use Rattle.sj_rules.specs.Party.{play_of}
use Rattle.sj_rules.specs.Start.{core_start, first_node}
use Rattle.sj_rules.specs.Work.{LostAt, lost_from}
use Rattle.sj_rules.specs.World.{WorldAt}
use Rattle.sj_work.specs.declared.worker.Stop.TheVariants as stops
use Rattle.sj_work.specs.Laned.{entries_of}
use Rattle.sj_run.specs.Damage.{IsPastEnd}
use Rattle.sj_run.specs.Left.{CarriedInOrder, LeftAt, logs_left, popped_in}
use Rattle.sj_run.proofs.FitLemmas.{core, file_play, joined_history, never_unfit}
use Rattle.sj_run.proofs.TeamLemmas.{none_there}
use Rattle.sj_run.proofs.WorkedLemmas.{below_length}

abbrev log_left : Option LeftAt → List EntryAt
log_left o = unwrap_or (option_map (λ (l : LeftAt). entries_of (log_of l.node)) o) []

module _ (file : FileAt) (left : List LeftAt) (carried : CarriedInOrder file left) where
  -- each party as its lanes would report it
  abbrev worker_or : (p : ℕ) (o : Option LeftAt) → slice_get left p ≡ o → WorkerAt Place Program
  worker_or p None there = fresh (first_node file p)
  worker_or p (Some l) there =
      let went = carried.each p l there in
      record {
        node = node_at l.node;
        log = entries_of (log_of l.node);
        box = λ q. told_frames done (outbox_of l.node q);
        popped = popped_in went.logged.steps went.lost;
        pushed = went.pushed;
      }

  abbrev lost_or : (p : ℕ) (o : Option LeftAt) → slice_get left p ≡ o → Option (LostAt Place)
  lost_or p None there = None
  lost_or p (Some l) there = (carried.each p l there).lost

  abbrev team : ℕ → WorkerAt Place Program
  team p = worker_or p (slice_get left p) refl

  abbrev lost : ℕ → ℕ → List (FrameAt Place)
  lost p = lost_from (lost_or p (slice_get left p) refl)

  no_one : (p : ℕ) → slice_get left p ≡ None → p < length file.parties → ⊥
  no_one p none lt = let x = there_is left p (omega (arith, lt, carried.count)) in let e : None ≡ Some x.0 = sym none ∙ x.1 in cc e

  each_works : (p : ℕ) → p < length file.parties → (o : Option LeftAt) (there : slice_get left p ≡ o)
      → Works (file_play file) max done p (fresh (first_node file p)) (worker_or p o there) (lost_from (lost_or p o there))
  each_works p lt None there = absurd (no_one p there lt)
  each_works p lt (Some l) there =
      let went = carried.each p l there in
      record {
        steps = went.logged.steps;
        run = subst (λ (n : NodeAt Place Program). NodeRun (file_play file) max p (first_node file p) went.logged.steps n) went.node went.logged.run;
        log = went.logged.entries;
        popped = λ q. refl;
        now = went.pushed;
        pushed = λ q. refl;
        posted = went.posted;
      }

  each_front : (p q : ℕ) (o : Option LeftAt) (one : slice_get left p ≡ o) (r : Option LeftAt) (other : slice_get left q ≡ r) → p < length file.parties → q < length file.parties
      → IsPrefix ((worker_or q r other).popped p) ((worker_or p o one).pushed q)
  each_front p q None one r other lt mt = absurd (no_one p one lt)
  each_front p q (Some from) one None other lt mt = absurd (no_one q other mt)
  each_front p q (Some from) one (Some to) other lt mt = carried.front p q from to one other

  each_apart : (p q : ℕ) (o : Option LeftAt) (there : slice_get left q ≡ o) → length file.parties ≤ p → q < length file.parties → (worker_or q o there).popped p ≡ []
  each_apart p q None there le lt = absurd (no_one q there lt)
  each_apart p q (Some l) there le lt = (carried.each q l there).beside p le

  works : PartiesWork (file_play file) max done (length file.parties) (core_start file) team lost
  works = record {
    each = λ p lt. each_works p lt (slice_get left p) refl;
    front = λ p q lt mt. each_front p q (slice_get left p) refl (slice_get left q) refl lt mt;
    apart = λ p q le lt. each_apart p q (slice_get left q) refl le lt;
    empty = λ p q. refl;
  }

  log_is : (p : ℕ) (o : Option LeftAt) (there : slice_get left p ≡ o) → log_left o ≡ (worker_or p o there).log
  log_is p None there = refl
  log_is p (Some l) there = refl

  below_is : (p : ℕ) → logs_left left p ≡ logs_below (λ p. (team p).log) (length file.parties) p
  below_is p = by (nat_lt p (length file.parties)) refl
    where
      by : (b : Bool) → nat_lt p (length file.parties) ≡ b → logs_left left p ≡ (if b then (team p).log else [])
      by true e = log_is p (slice_get left p) refl
      by false e =
          let le : length file.parties ≤ p = grind (arith, nat_tests) in
          ap log_left (none_there left p (omega (arith, le, carried.count)))

  module _ (accepted : IsAccepted file) (lines : List LineAt) (joins : IsJoined (logs_left left) lines) where
    joins_below : IsJoined (logs_below (λ p. (team p).log) (length file.parties)) lines
    joins_below = record { order = joins.order; parts = λ p. joins.parts p ∙ below_is p }

    -- the joined logs are a history
    pub ordered_history : (w : WorldAt Place Program) × IsHistory max file lines w
    ordered_history = (core file accepted team lost works lines joins_below, joined_history file accepted team lost works lines joins_below)

    fits_or : (q : ℕ) → q < length file.parties → (o : Option LeftAt) (there : slice_get left q ≡ o) → (team q).node ≡ (worker_or q o there).node
        → ((p : ℕ) → lost q p ≡ lost_from (lost_or q o there) p) → (l : LeftAt) → o ≡ Some l → l.stop ≡ Some stops.Unfit → ⊥
    fits_or q lt None there node all_lost l is stopped = cc is
    fits_or q lt (Some m) there node all_lost l is stopped =
        let went = carried.each q m there in
        let same : m ≡ l = cc is in
        never_unfit file accepted team lost works lines joins_below q lt m.node node went.party went.parties went.play went.lost m.unfit all_lost
        (went.refused (ap (λ (x : LeftAt). x.stop) same ∙ stopped))

    -- and no party stopped as unfit
    pub ordered_fits : (q : ℕ) (l : LeftAt) → slice_get left q ≡ Some l → l.stop ≡ Some stops.Unfit → ⊥
    ordered_fits q l there stopped =
        let lt = below_length left q l there in
        fits_or q (omega (arith, lt, carried.count)) (slice_get left q) refl refl (λ p. refl) l there stopped

    -- so nothing is damaged
    pub no_damage : (number : ℕ) (logged : LineAt) (other : Option LineAt)
        → IsFirstMisfit max file lines number logged other ⊎ IsPastEnd file left lines number logged other → ⊥
    no_damage number logged other (inl misfit) = no_misfit (play_of file) max lines (core_start file) ordered_history.0 number logged other ordered_history.1 misfit
    no_damage number logged other (inr past) = ordered_fits past.lowest.party past.lowest.own past.lowest.there past.lowest.stopped
