-- Worlds of forwarders that go on by the turns of a drain.
use Rattle.std.proofs.Common.{◌≡◌, ℕ, ◌+◌, ◌-◌, ◌<◌, ◌^◌, Bool, true, false, List, [], ◌∷◌, ◌++◌, length, Option, Some, None, refl, ap, sym, ◌∙◌, subst, append-nil, append_assoc, arith}
use Rattle.sj_semantics.specs.Program.{Program}
use Rattle.sj_rules.specs.Drain.{turn}
use Rattle.sj_rules.specs.Party.{play_of}
use Rattle.sj_rules.specs.World as rules
use Rattle.sj_rules.specs.World.{Turn}
use Rattle.sj_forward.specs.declared.forwarder_world.ForwarderWorld.{ForwarderWorld}
use Rattle.sj_forward.specs.ForwarderWorld.{IsReached, StaysIn, Steps, file_in, world_in}
use Rattle.sj_forward.specs.Draining.{ActsOut, Ahead, Empties, GoesBy, Leads, events_left}
use Rattle.sj_forward.proofs.CountLemmas.{counts_joined, counts_none, counts_still}
use Rattle.sj_forward.proofs.ForwarderWorldLemmas.{few_events, idle_there, nothing_there}
use Rattle.sj_forward_rules.specs.Acts.{acts}
use Rattle.sj_forward_rules.specs.Ready.{has_step}
use Rattle.sj_forward_rules.specs.World.{WorldAt, happens}

-- nothing is done yet
pub ahead_none : (R : Leads) (c : ForwarderWorld) → Ahead R c c
ahead_none R c = record { turns = []; counts = counts_none c; on = λ ts v r. r }

-- one turn more
pub ahead_more : (R : Leads) (c d e : ForwarderWorld) (p : ℕ) (event : rules.Event) → Ahead R c d → Steps d p event e
    → ((ts : List Turn) (v : WorldAt Program) → R (world_in e) ts v → R (world_in d) (turn p event ∷ ts) v) → Ahead R c e
ahead_more R c d e p event a step on = record {
  turns = a.turns ++ turn p event ∷ [];
  counts = counts_joined c d e a.turns (turn p event ∷ []) a.counts step.counts;
  on = λ ts v r.
      subst (λ (us : List Turn). R (world_in c) us v) (sym (append_assoc a.turns (turn p event ∷ []) ts))
      (a.on (turn p event ∷ ts) v (on ts v r));
}

-- the last of them was the last
pub goes_by : (R : Leads) (c d e : ForwarderWorld) → Ahead R c d → StaysIn d e → R (world_in d) [] (world_in d) → GoesBy R c e
goes_by R c d e a stays end = record {
  turns = a.turns;
  counts = counts_still c d e a.turns a.counts stays;
  by =
      subst (λ (v : WorldAt Program). R (world_in c) a.turns v) (sym stays.world)
      (subst (λ (us : List Turn). R (world_in c) us (world_in d)) (append-nil a.turns) (a.on [] (world_in d) end));
}

-- each turn leaves fewer
pub fewer_left : (d e : ForwarderWorld) (p : ℕ) (event : rules.Event) → IsReached e → Steps d p event e → events_left e < events_left d
fewer_left d e p event reached step =
    let low : e.events < 2 ^ 63 = few_events e reached in
    let more : e.events ≡ d.events + 1 = step.counts.events in
    omega (arith, low, more)

-- a step, for the file of the beginning
pub step_of : (c d e : ForwarderWorld) (p : ℕ) (event : rules.Event) → file_in d ≡ file_in c → Steps d p event e → happens (play_of (file_in c)) (world_in d) p event ≡ Some (world_in e)
step_of c d e p event file t = (λ i. happens (play_of (sym file i)) (world_in d) p event) ∙ t.step

pub took_one : (c d e : ForwarderWorld) (p q : ℕ) → file_in d ≡ file_in c → Ahead (Empties c p q) c d → Steps d p (rules.Deliver q) e → Ahead (Empties c p q) c e
took_one c d e p q file a t = ahead_more (Empties c p q) c d e p (rules.Deliver q) a t (λ ts v r. (refl, (world_in e, (step_of c d e p (rules.Deliver q) file t, r))))

pub took_all : (c d e : ForwarderWorld) (p q : ℕ) → Ahead (Empties c p q) c d → StaysIn d e → has_step (play_of (file_in d)) (world_in d) p (rules.Deliver q) ≡ false → GoesBy (Empties c p q) c e
took_all c d e p q a stays none = goes_by (Empties c p q) c d e a stays (nothing_there d p q none, refl)

pub acted_one : (c d e : ForwarderWorld) (p : ℕ) → file_in d ≡ file_in c → Ahead (ActsOut c p) c d → Steps d p rules.Act e → Ahead (ActsOut c p) c e
acted_one c d e p file a t = ahead_more (ActsOut c p) c d e p rules.Act a t (λ ts v r. (refl, (world_in e, (step_of c d e p rules.Act file t, r))))

pub acted_out : (c d e : ForwarderWorld) (p : ℕ) → file_in d ≡ file_in c → IsReached d → Ahead (ActsOut c p) c d → StaysIn d e → has_step (play_of (file_in d)) (world_in d) p rules.Act ≡ false → GoesBy (ActsOut c p) c e
acted_out c d e p file reached a stays none =
    goes_by (ActsOut c p) c d e a stays ((λ i. acts (play_of (sym file i)) p ((world_in d).nodes p)) ∙ idle_there d reached p none, refl)
