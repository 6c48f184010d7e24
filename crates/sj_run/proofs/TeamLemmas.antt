-- The workers of a file, which began with its first nodes and new lanes, are parties that work
-- together.
use Rattle.std.proofs.Common.{◌≡◌, ◌∙◌, ℕ, zero, suc, ◌<◌, ◌≤◌, max, Bool, true, List, [], ◌∷◌, map, length, Option, Some, None, refl, sym, ap, subst, arith}
use Rattle.std.specs.Prelude.{slice_get, IsSome}
use Rattle.std.proofs.lemmas.List.{length-map}
use mathlib.Core.List.{IsPrefix}
use Rattle.sj_lang.specs.Place.{Place, done}
use Rattle.sj_lang.specs.FileAt.{FileAt}
use Rattle.sj_semantics.specs.Program.{Program}
use Rattle.sj_rules.specs.Joined.{PartiesWork}
use Rattle.sj_rules.specs.Node.{Play}
use Rattle.sj_rules.specs.NodeRun.{told_frames}
use Rattle.sj_rules.specs.Start.{core_start, first_node}
use Rattle.sj_rules.specs.Work.{IsHired, LanedAt, LaneWork, LostAt, lost_from}
use Rattle.sj_joined_lemmas.proofs.WorkLemmas.{parties_hired, shown, told_by}
use Rattle.sj_node.specs.Reading.{party_of}
use Rattle.sj_work.specs.declared.worker.Stop.{Stop}
use Rattle.sj_work.specs.declared.worker.Worker.{Worker}
use Rattle.sj_work.specs.Laned.{entries_of, laned}
use Rattle.sj_work.specs.Views.{in_of, lanes_of, node_of, stop_of}
use Rattle.sj_work.specs.Worked.{Turned, WorkedBy, kept_stop}
use Rattle.sj_run.specs.Workers.{AllWorked, HasWorked}
use Rattle.sj_run.proofs.FitLemmas.{file_play}
use Rattle.sj_lane.specs.declared.lane.OutLane.{Ghosts as OutLane}
use Rattle.sj_lane.specs.declared.lane.InLane.{Ghosts as InLane}
use Rattle.sj_lane.proofs.BackLemmas.{slice_get_some as there_is}

-- beyond the length of a list nothing is there
pub none_there : {X : Type 0} (xs : List X) (p : ℕ) → length xs ≤ p → slice_get xs p ≡ None
none_there [] p le = refl
none_there (x ∷ xs) zero le = absurd (omega (arith, le))
none_there (x ∷ xs) (suc p) le = none_there xs p (omega (arith, le))

-- an index of a mapped list
pub mapped_at : {X Y : Type 0} (f : X → Y) (xs : List X) (p : ℕ) (x : X) → slice_get xs p ≡ Some x → slice_get (map f xs) p ≡ Some (f x)
mapped_at f [] p x is = absurd (cc is)
mapped_at f (y ∷ ys) zero x is = let e : Some y ≡ Some x = is in ap (λ o. Some (f o)) (let s : y ≡ x = cc e in s)
mapped_at f (y ∷ ys) (suc p) x is = mapped_at f ys p x is

module _ {O I : Type 0} (outward : OutLane O) (inward : InLane I) (joined : O → I → Type 0) (file : FileAt) (looks : ℕ) (tells : Bool)
    (workers : List (Worker O I)) (all : AllWorked outward inward joined file looks tells workers) where
  abbrev pub team_play : Play Place Program
  team_play = file_play file

  abbrev has : (p : ℕ) (w : Worker O I) → slice_get workers p ≡ Some w
      → HasWorked outward inward file looks tells p w
  has = all.each

  -- since no stop was kept, it had turns, up to a stop
  worked_up : (p : ℕ) (w : Worker O I) (there : slice_get workers p ≡ Some w)
      → IsSome (stop_of w) × Turned outward inward looks (has p w there).old w
  worked_up p w there =
      subst (λ (s : Option Stop). WorkedBy outward inward (kept_stop s) looks (has p w there).old w)
      (has p w there).first.idle (has p w there).worked

  pub stopped : (p : ℕ) (w : Worker O I) → slice_get workers p ≡ Some w → stop_of w ≡ None → ⊥
  stopped p w there none = no_stop (stop_of w) (worked_up p w there).0 none
    where
      no_stop : (s : Option Stop) → IsSome s → s ≡ None → ⊥
      no_stop None some none = cc some
      no_stop (Some s) some none = cc none

  pub turned : (p : ℕ) (w : Worker O I) (there : slice_get workers p ≡ Some w)
      → Turned outward inward looks (has p w there).old w
  turned p w there = (worked_up p w there).1

  -- its work by the rules
  pub team_work : (p : ℕ) (w : Worker O I) (there : slice_get workers p ≡ Some w)
      → LaneWork outward.pushed outward.same inward.popped inward.same team_play max done p (laned (has p w there).old) (laned w) (turned p w there).lost
  team_work p w there =
      let t = turned p w there in
      let old = (has p w there).old in
      subst (λ (k : ℕ). LaneWork outward.pushed outward.same inward.popped inward.same team_play max done k (laned old) (laned w) t.lost) (has p w there).first.party
      (subst (λ (play : Play Place Program). LaneWork outward.pushed outward.same inward.popped inward.same play max done (party_of (node_of old)) (laned old) (laned w) t.lost) (has p w there).first.play t.went.work)

  -- to a worker there is no lane from beside the parties
  pub no_lane_from : (p : ℕ) (w : Worker O I) → slice_get workers p ≡ Some w → (q : ℕ) → length file.parties ≤ q → in_of w q ≡ None
  no_lane_from p w there q le =
      let square = all.square p (lanes_of w) (mapped_at lanes_of workers p w there) in
      none_there (lanes_of w).ins.items q (omega (arith, le, square.1, length-map workers lanes_of, all.count))

  -- the log of a party that isn't there is empty, and it does nothing
  abbrev nobody_at : ℕ → LanedAt Place Program O I
  nobody_at p = record { node = first_node file p; log = []; box = λ q. []; outs = λ q. None; ins = λ q. None }

  abbrev pub new_or : ℕ → Option (Worker O I) → LanedAt Place Program O I
  new_or p None = nobody_at p
  new_or p (Some w) = laned w

  -- each party after its work
  abbrev pub news : ℕ → LanedAt Place Program O I
  news p = new_or p (slice_get workers p)

  abbrev old_or : (p : ℕ) (o : Option (Worker O I)) → slice_get workers p ≡ o → LanedAt Place Program O I
  old_or p None there = nobody_at p
  old_or p (Some w) there = laned (has p w there).old

  abbrev pub lost_or : (p : ℕ) (o : Option (Worker O I)) → slice_get workers p ≡ o → Option (LostAt Place)
  lost_or p None there = None
  lost_or p (Some w) there = (turned p w there).lost

  abbrev olds : ℕ → LanedAt Place Program O I
  olds p = old_or p (slice_get workers p) refl

  -- what each lost
  abbrev pub losts : ℕ → Option (LostAt Place)
  losts p = lost_or p (slice_get workers p) refl

  no_one : (p : ℕ) → slice_get workers p ≡ None → p < length file.parties → ⊥
  no_one p none lt = let x = there_is workers p (omega (arith, lt, all.count)) in let e : None ≡ Some x.0 = sym none ∙ x.1 in cc e

  work_or : (p : ℕ) → p < length file.parties → (o : Option (Worker O I)) (there : slice_get workers p ≡ o)
      → LaneWork outward.pushed outward.same inward.popped inward.same team_play max done p (old_or p o there) (new_or p o) (lost_or p o there)
  work_or p lt None there = absurd (no_one p there lt)
  work_or p lt (Some w) there = team_work p w there

  module _ (telling : tells ≡ true) where
    hired_or : (p : ℕ) → p < length file.parties → (o : Option (Worker O I)) (there : slice_get workers p ≡ o) → IsHired outward.pushed inward.popped (first_node file p) (old_or p o there)
    hired_or p lt None there = absurd (no_one p there lt)
    hired_or p lt (Some w) there =
        let h = has p w there in
        record {
          same = h.first.node;
          log = ap entries_of h.first.log;
          box = λ q. ap (told_frames done) (h.first.boxes q);
          outs = λ q o is. h.new.pushed_none q o is telling;
          ins = λ q i is. h.new.popped_none q i is telling;
        }

    -- beside the parties of the file there is no lane to one of them
    module _ (none : (p q : ℕ) → length file.parties ≤ p → q < length file.parties → (news q).ins p ≡ None)
        (front : (p q : ℕ) → p < length file.parties → q < length file.parties → IsPrefix (told_by inward.popped ((news q).ins p)) (told_by outward.pushed ((news p).outs q))) where
      pub team_works : PartiesWork team_play max done (length file.parties) (core_start file)
          (λ p. shown outward.pushed outward.same inward.popped inward.same (news p)) (λ p. lost_from (losts p))
      team_works =
          parties_hired outward.pushed outward.same inward.popped inward.same team_play max done (length file.parties) (core_start file) olds news losts
          (λ p lt. hired_or p lt (slice_get workers p) refl) (λ p lt. work_or p lt (slice_get workers p) refl) front none (λ p q. refl)
