-- What is damaged of what workers left.
use Rattle.std.proofs.Common.{◌≡◌, ◌⊎◌, ◌∙◌, ℕ, ◌<◌, max, Bool, List, map, length, get_or, Option, Some, option_map, inl, inr, refl, sym, ap, subst}
use Rattle.sj_lane.specs.declared.lane.OutLane.{Ghosts as OutLane}
use Rattle.sj_lane.specs.declared.lane.InLane.{Ghosts as InLane}
use Rattle.sj_core.specs.Replaying.{IsMisfitFrom}
use Rattle.sj_core.specs.declared.refusal.ReplayRefusal.{ReplayRefusal}
use Rattle.sj_core.specs.declared.refusal.ReplayRefusal.TheVariants as replays
use Rattle.sj_end.specs.declared.note.Line.{Line}
use Rattle.sj_end.specs.Lines.{event_at, line_at}
use Rattle.sj_joined_lemmas.proofs.HistoryLemmas.{no_misfit}
use Rattle.sj_lang.specs.Place.{Place}
use Rattle.sj_lang.specs.FileAt.{FileAt}
use Rattle.sj_acceptance.specs.Accepted.{IsAccepted}
use Rattle.sj_plain.specs.SharedFile.{without_words}
use Rattle.sj_semantics.specs.Program.{Program}
use Rattle.sj_rules.specs.History.{IsFirstMisfit, IsHistory, due}
use Rattle.sj_rules.specs.Log.{IsJoined, LineAt}
use Rattle.sj_rules.specs.Party.{play_of}
use Rattle.sj_rules.specs.Start.{core_start}
use Rattle.sj_rules.specs.World.{WorldAt}
use Rattle.sj_work.specs.declared.worker.Stop.TheVariants as stops
use Rattle.sj_work.specs.declared.worker.Worker.{Worker}
use Rattle.sj_work.specs.Views.{stop_of, unfit_of}
use Rattle.sj_run.specs.declared.refusal.RunRefusal.{RunRefusal}
use Rattle.sj_run.specs.declared.refusal.RunRefusal.TheVariants as refusals
use Rattle.sj_run.specs.Damage.{IsDamaged, IsLowestUnfit, IsPastEnd}
use Rattle.sj_run.specs.Left.{LeftAt, left_of, logs_left}
use Rattle.sj_run.specs.Refusals.{IsDamageOver, IsDamagedOver, IsPastEndOf, run_refusal}
use Rattle.sj_run.specs.Workers.{AllWorked, NoneStopped, SomeStopped, logs_in}
use Rattle.sj_run.proofs.StopLemmas.{NoneBefore, looked_at}
use Rattle.sj_run.proofs.OrderLemmas.{no_damage}
use Rattle.sj_run.proofs.RefusedLemmas.{lowest_not_due}
use Rattle.sj_run.proofs.TeamLemmas.{mapped_at}
use Rattle.sj_run.proofs.LeftLemmas.{all_went, same_logs, whose}

-- ---- refusals

-- what isn't replayed is no link fault
pub no_link_fault : (r : ReplayRefusal) → run_refusal r ≡ refusals.LinkFault → ⊥
no_link_fault (replays.Misfit m) is = cc is
no_link_fault replays.NoMemory is = cc is

pub not_past_end : (file : FileAt) (core : WorldAt Place Program) (lines : List LineAt) (refused : Line) (r : RunRefusal) → IsPastEndOf file core lines refused r → r ≡ refusals.LinkFault → ⊥
not_past_end file core lines refused (refusals.Damaged m) past is = cc is
not_past_end file core lines refused refusals.LinkFault past is = past
not_past_end file core lines refused refusals.NoMemory past is = past

-- lines of a history fit
pub history_fits : (file : FileAt) (lines : List LineAt) (w : WorldAt Place Program) (r : ReplayRefusal) → IsHistory max file lines w → IsMisfitFrom file lines r → IsDamaged (run_refusal r) → ⊥
history_fits file lines w (replays.Misfit x) h m damaged = no_misfit (play_of file) max lines (core_start file) w x.number (line_at x.logged) (option_map line_at x.due) h m
history_fits file lines w replays.NoMemory h m damaged = damaged

-- ---- what doesn't fit

module _ {O I : Type 0} (workers : List (Worker O I)) where
  -- the first that stopped as unfit is the lowest
  pub lowest_unfit : (k : ℕ) (w : Worker O I) (line : Line) → k < length workers → w ≡ get_or workers k w → NoneBefore workers stops.Unfit k → stop_of w ≡ Some stops.Unfit → unfit_of w ≡ Some line
      → IsLowestUnfit (map left_of workers) (line_at line)
  lowest_unfit k w line lt is before stopped refused = record {
    party = k;
    own = left_of w;
    there = mapped_at left_of workers k w (looked_at workers k w lt is);
    stopped = stopped;
    refused = ap (option_map line_at) refused;
    lowest = λ p l less at stop. let m = whose workers p l at in before p m.0 less m.1 (ap (λ (x : LeftAt). x.stop) m.2 ∙ stop);
  }

  -- so some worker did
  pub some_unfit : (line : LineAt) → IsLowestUnfit (map left_of workers) line → SomeStopped workers stops.Unfit
  some_unfit line u =
      let m = whose workers u.party u.own u.there in
      record { party = u.party; worker = m.0; there = m.1; stopped = ap (λ (x : LeftAt). x.stop) m.2 ∙ u.stopped }

module _ {O I : Type 0} (outward : OutLane O) (inward : InLane I) (joined : O → I → Type 0) (file : FileAt) (looks : ℕ) (tells : Bool)
    (workers : List (Worker O I)) (all : AllWorked outward inward joined file looks tells workers) where
  module _ (accepted : IsAccepted file) (faultless : NoneStopped workers stops.Fault) (lines : List LineAt) (joins : IsJoined (logs_in workers) lines) where
    joins_left : IsJoined (logs_left (map left_of workers)) lines
    joins_left = record { order = joins.order; parts = λ p. joins.parts p ∙ same_logs workers p }

    damage_over : (number : ℕ) (logged : LineAt) (other : Option LineAt) → IsFirstMisfit max file lines number logged other ⊎ IsPastEnd file (map left_of workers) lines number logged other
        → IsDamageOver outward inward joined file looks tells number logged other
    damage_over number logged other cause = record {
      workers = workers;
      worked = all;
      damage = record {
        left = map left_of workers;
        went = all_went outward inward joined file looks tells workers all faultless;
        disorder = λ carried. no_damage file (map left_of workers) carried accepted lines joins_left number logged other cause;
        lines = lines;
        joined = joins_left;
        cause = cause;
      };
      theirs = refl;
    }

    -- lines that don't fit are damage
    pub misfit_damage : (r : ReplayRefusal) → IsMisfitFrom file lines r
        → IsDamagedOver outward inward joined file looks tells (run_refusal r)
    misfit_damage (replays.Misfit x) m = damage_over x.number (line_at x.logged) (option_map line_at x.due) (inl m)
    misfit_damage replays.NoMemory m = tt {0}

    -- what the lowest unfit party refused after a history isn't what is due there
    pub refused_differs : (kept : FileAt) (w : WorldAt Place Program) (refused : Line) → kept ≡ without_words file → IsHistory max file lines w → IsLowestUnfit (map left_of workers) (line_at refused)
        → due (play_of kept) max w refused.party (event_at refused.entry.event) ≡ Some (line_at refused) → ⊥
    refused_differs kept w refused same h lowest is =
        lowest_not_due file accepted (map left_of workers) (all_went outward inward joined file looks tells workers all faultless) lines joins_left w h (line_at refused) lowest
        ((λ i. due (play_of (sym same i)) max w (line_at refused).party (line_at refused).entry.event) ∙ is)

    -- and is damage
    pub refused_damage : (kept : FileAt) (w : WorldAt Place Program) (refused : Line) (r : RunRefusal) → kept ≡ without_words file → IsHistory max file lines w
        → IsLowestUnfit (map left_of workers) (line_at refused) → IsPastEndOf kept w lines refused r
        → IsDamagedOver outward inward joined file looks tells r
    refused_damage kept w refused (refusals.Damaged x) same h lowest past =
        let after = past.1 in
        damage_over x.number (line_at x.logged) (option_map line_at x.due)
        (subst (λ (l : Line). IsFirstMisfit max file lines x.number (line_at l) (option_map line_at x.due) ⊎ IsPastEnd file (map left_of workers) lines x.number (line_at l) (option_map line_at x.due)) (sym past.0)
        (inr (record {
          core = w;
          run = h;
          lowest = lowest;
          refused = record {
            count = after.count;
            found = (λ i. due (play_of (sym same i)) max w (line_at refused).party (line_at refused).entry.event) ∙ after.found;
            differs = after.differs;
          };
        })))
    refused_damage kept w refused refusals.LinkFault same h lowest past = tt {0}
    refused_damage kept w refused refusals.NoMemory same h lowest past = tt {0}
