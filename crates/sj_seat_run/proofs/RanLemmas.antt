-- What comes of parties that have run: their clocks rise, and a fault was counted.
use Rattle.std.proofs.Common.{◌≡◌, ◌∙◌, ℕ, ◌<◌, ◌≤◌, ◌++◌, max, Bool, true, false, List, map, Option, Some, None, inl, inr, sym, ap, subst, arith}
use Rattle.std.specs.Prelude.{slice_get}
use Rattle.sj_lang.specs.Place.{Place, done}
use Rattle.sj_lang.specs.FileAt.{FileAt}
use Rattle.sj_joined_lemmas.proofs.WorkerLemmas.{clocks_rise}
use Rattle.sj_lane.specs.declared.lane.OutLane.{Ghosts as OutLane}
use Rattle.sj_lane.specs.declared.lane.InLane.{Ghosts as InLane}
use Rattle.sj_lane.specs.Square.{HasFault, in_in, out_in}
use Rattle.sj_lane.specs.Told.{Rose}
use Rattle.sj_node.specs.Node.{log_of, node_at, play_here}
use Rattle.sj_node.specs.Reading.{party_of}
use Rattle.sj_rules.specs.Log.{EntryAt, IsRising}
use Rattle.sj_rules.specs.Node.{NodeAt}
use Rattle.sj_rules.specs.NodeRun.{StepAt}
use Rattle.sj_seat.specs.Views.{laned_at}
use Rattle.sj_seat_laws.specs.SeatedPlay.{seated_play}
use Rattle.sj_seat_laws.specs.SeatedStart.{seat_start}
use Rattle.sj_semantics.specs.Program.{Program}
use Rattle.sj_work.specs.Causes.{Cause, MetFault}
use Rattle.sj_work.specs.Laned.{entries_of}
use Rattle.sj_work.specs.Views.{lanes_of, node_of, stop_of}
use Rattle.sj_work.specs.declared.worker.Stop.{Stop}
use Rattle.sj_work.specs.declared.worker.Stop.TheVariants as stops
use Rattle.sj_work.specs.declared.worker.Worker.{Worker}
use Rattle.sj_run.specs.Workers.{AllRising, HasWorked, SomeStopped}
use Rattle.sj_seat_run.specs.Logged.{AllRan, HasPlayed, HasRun}
use Rattle.sj_seat_run.proofs.CarriedLemmas.{turned_from}
use Rattle.sj_seat_run.proofs.ListLemmas.{mapped_at}

pub rose_from : (a b c : ℕ) → a ≤ b → Rose b c → Rose a c
rose_from a b c le rose = omega (arith, le, rose)

rose_some : (a b : ℕ) → Rose a b → 0 < b
rose_some a b rose = omega (arith, rose)

module _ {O I : Type 0} (outward : OutLane O) (inward : InLane I) (file : FileAt) (looks : ℕ) (tells : Bool) where
  worked_rising : (p : ℕ) (w : Worker O I) → HasWorked outward inward file looks tells p w → IsRising 0 (entries_of (log_of (node_of w)))
  worked_rising p w h =
      let t = turned_from outward inward looks h.old w h.first.idle h.worked in
      let work = t.went.work in
      let rises = clocks_rise (play_here (node_of h.old)) max done (party_of (node_of h.old)) work.steps (node_at (node_of h.old)) (node_at (node_of w)) work.run in
      let own : entries_of (log_of (node_of w)) ≡ map (λ (s : StepAt Place). s.entry) work.steps = work.log ∙ ap (λ es. entries_of es ++ map (λ (s : StepAt Place). s.entry) work.steps) h.first.log in
      subst (λ (es : List EntryAt). IsRising 0 es) (sym own)
      (subst (λ (n : NodeAt Place Program). IsRising n.clock (map (λ (s : StepAt Place). s.entry) work.steps)) h.first.node rises)

  played_rising : (p : ℕ) (w : Worker O I) → HasPlayed outward inward file tells p w → IsRising 0 (entries_of (log_of (node_of w)))
  played_rising p w h =
      let work = h.work.work in
      let rises = clocks_rise (seated_play file) max done (party_of (node_of h.old)) work.steps (laned_at (seat_start file p h.calls) h.old).node (laned_at h.seat w).node work.run in
      let own : entries_of (log_of (node_of w)) ≡ map (λ (s : StepAt Place). s.entry) work.steps = work.log ∙ ap (λ es. entries_of es ++ map (λ (s : StepAt Place). s.entry) work.steps) h.begins.log in
      subst (λ (es : List EntryAt). IsRising 0 es) (sym own)
      (subst (λ (c : ℕ). IsRising c (map (λ (s : StepAt Place). s.entry) work.steps)) h.begins.clock rises)

  run_rising : (seated : Bool) (p : ℕ) (w : Worker O I) → HasRun outward inward file looks tells seated p w → IsRising 0 (entries_of (log_of (node_of w)))
  run_rising false p w h = worked_rising p w h
  run_rising true p w h = played_rising p w h

  worked_fault : (p : ℕ) (w : Worker O I) → stop_of w ≡ Some stops.Fault → (h : HasWorked outward inward file looks tells p w) → MetFault outward.faults inward.faults h.old w
  worked_fault p w is h =
      let t = turned_from outward inward looks h.old w h.first.idle h.worked in
      subst (λ (x : Option Stop). Cause outward inward x looks t.lost h.old w) is t.cause

  played_fault : (p : ℕ) (w : Worker O I) → stop_of w ≡ Some stops.Fault → (h : HasPlayed outward inward file tells p w) → MetFault outward.faults inward.faults h.old w
  played_fault p w is h = elim (h.counts.fault is) [ inl was ↦ absurd (let e : None ≡ Some stops.Fault = sym h.idle ∙ was in cc e) | inr met ↦ met ]

  run_fault : (seated : Bool) (p : ℕ) (w : Worker O I) → stop_of w ≡ Some stops.Fault → HasRun outward inward file looks tells seated p w → (old : Worker O I) × MetFault outward.faults inward.faults old w
  run_fault false p w is h = (h.old, worked_fault p w is h)
  run_fault true p w is h = (h.old, played_fault p w is h)

  module _ (joined : O → I → Type 0) (seats : ℕ → Bool) (workers : List (Worker O I)) (all : AllRan outward inward joined file looks tells seats workers) where
    -- the clocks of each log rise
    pub all_rising : AllRising workers
    all_rising p w there = run_rising (seats p) p w (all.each p w there)

    met_fault : (p : ℕ) (w : Worker O I) → slice_get workers p ≡ Some w → (old : Worker O I) → MetFault outward.faults inward.faults old w → HasFault outward.faults inward.faults (map lanes_of workers)
    met_fault p w there old (inl (q, a, b, before, now, rose)) =
        inl (p, q, b, ap (λ l. out_in l q) (mapped_at lanes_of workers p w there) ∙ now, rose_some (outward.faults a) (outward.faults b) rose)
    met_fault p w there old (inr (q, a, b, before, now, rose)) =
        inr (q, p, b, ap (λ l. in_in l q) (mapped_at lanes_of workers p w there) ∙ now, rose_some (inward.faults a) (inward.faults b) rose)

    -- a worker that stopped at a fault has a lane that counted one
    pub has_fault : SomeStopped workers stops.Fault → HasFault outward.faults inward.faults (map lanes_of workers)
    has_fault s = let m = run_fault (seats s.party) s.party s.worker s.stopped (all.each s.party s.worker s.there) in met_fault s.party s.worker s.there m.0 m.1
