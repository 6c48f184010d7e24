-- Why a file isn't run with seats, in what its parties left.
use Rattle.std.proofs.Common.{◌≡◌, ℕ, ◌<◌, Bool, List, length}
use Rattle.sj_lane.specs.declared.lane.OutLane.{Ghosts as OutLane}
use Rattle.sj_lane.specs.declared.lane.InLane.{Ghosts as InLane}
use Rattle.sj_lang.specs.FileAt.{FileAt}
use Rattle.sj_rules.specs.Log.{LineAt}
use Rattle.sj_work.specs.declared.worker.Worker.{Worker}
use Rattle.sj_seats.specs.Calls.{OpenedAs}
use Rattle.sj_seat_run.specs.Logged.{AreOpenedSo}
use Rattle.sj_seat_run.specs.Refusals.{HaveLogged, IsOfReplay, IsRefusedOver}
use Rattle.sj_seat_run.specs.declared.refusal.SeatedRefusal.{SeatedRefusal}
use Rattle.sj_seat_run.specs.declared.refusal.SeatedRefusal.TheVariants as refusals

-- lines that aren't replayed are no link fault
pub no_link_fault : (file : FileAt) (seats : ℕ → Bool) (opened : OpenedAs) (lines : List LineAt) (r : SeatedRefusal) → IsOfReplay file seats opened lines r → r ≡ refusals.LinkFault → ⊥
no_link_fault file seats opened lines (refusals.Damaged m) x is = cc is
no_link_fault file seats opened lines refusals.NoMemory x is = cc is
no_link_fault file seats opened lines refusals.LacksPlace x is = x
no_link_fault file seats opened lines refusals.LinkFault x is = x
no_link_fault file seats opened lines refusals.Unfit x is = x

module _ {O I : Type 0} (outward : OutLane O) (inward : InLane I) (joined : O → I → Type 0) (file : FileAt) (looks : ℕ) (tells : Bool) (seats : ℕ → Bool) where
  -- but what the workers logged, or out of memory
  pub replay_cause : (workers : List (Worker O I)) (lines : List LineAt) (seated : ℕ → Bool) (opened : OpenedAs) (r : SeatedRefusal) → (logged : HaveLogged outward inward joined file looks tells seats workers lines)
      → ((p : ℕ) → p < length file.parties → seated p ≡ seats p) → AreOpenedSo outward inward joined file looks tells seats workers logged.ran opened → IsOfReplay file seated opened lines r → IsRefusedOver outward inward joined file looks tells seats r
  replay_cause workers lines seated opened (refusals.Damaged m) logged same so stop = record {
    workers = workers;
    lines = lines;
    logged = logged;
    seated = seated;
    same = same;
    opened = opened;
    stop = stop;
    asked = so;
  }
  replay_cause workers lines seated opened refusals.NoMemory logged same so x = tt {0}
  replay_cause workers lines seated opened refusals.LacksPlace logged same so x = absurd x
  replay_cause workers lines seated opened refusals.LinkFault logged same so x = absurd x
  replay_cause workers lines seated opened refusals.Unfit logged same so x = absurd x
