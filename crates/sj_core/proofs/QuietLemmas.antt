-- Whether a party of a world to which lines lead has anything to do, as its nodes report it.
use Rattle.std.proofs.Common.{◌≡◌, ℕ, ◌<◌, ◌+◌, List, [], ◌∷◌, map, length, slice_get, Option, Some, None, refl, ap, sym, ◌∙◌, subst, inl, inr, arith}
use Rattle.std.specs.Prelude.{IfNone, IfSome}
use Rattle.std.proofs.lemmas.Bool.{cases_lt}
use Rattle.sj_table.specs.declared.table.Spot.{Spot}
use Rattle.sj_table.specs.Spots.{place_in}
use Rattle.sj_rules.specs.Frames.{FrameAt}
use Rattle.sj_rules.specs.History.{IsQuietAmong}
use Rattle.sj_rules.specs.Mapped.{frame_with}
use Rattle.sj_rules.specs.Node.{acts}
use Rattle.sj_rules.specs.Party.{play_of}
use Rattle.sj_node.specs.declared.node.Node.{Node}
use Rattle.sj_node.specs.declared.refusal.Halt.{Halt}
use Rattle.sj_node.specs.Node.{due_if, due_of, node_halt}
use Rattle.sj_node.specs.Outs.{waiting_in}
use Rattle.sj_node.specs.Reading.{outs_of}
use Rattle.sj_end.specs.declared.note.Entry.{Entry}
use Rattle.sj_core.specs.declared.node_world.NodeWorld.{NodeWorld}
use Rattle.sj_core.specs.NodeWorld.{IsLed, file_in, nodes_in, world_in}
use Rattle.sj_core.specs.Nodes.{box_or}
use Rattle.sj_core.specs.Quiet.{IsIdleAmong}
use Rattle.sj_core.proofs.StopLemmas.{none_where, stopped}

none_if : (o : Option Halt) (k : Halt) (e : Entry) → o ≡ Some k → due_if o e ≡ None
none_if o k e is = ap (λ (x : Option Halt). due_if x e) is

module _ (c : NodeWorld) (led : IsLed c) (p : ℕ) (n : Node) (there : slice_get (nodes_in c) p ≡ Some n) where
  none_by : (o : Option Halt) (e : Entry) → node_halt n ≡ o → due_if o e ≡ None → acts (play_of (file_in c)) p ((world_in c).nodes p) ≡ None
  none_by None e stop none = absurd (cc none)
  none_by (Some k) e stop none = none_where c led p n there k stop

  -- its node knows whether it can act
  pub still_of : due_of n ≡ None → acts (play_of (file_in c)) p ((world_in c).nodes p) ≡ None
  still_of none = none_by (node_halt n) _ refl none

  pub due_of_still : acts (play_of (file_in c)) p ((world_in c).nodes p) ≡ None → due_of n ≡ None
  due_of_still none = let s = stopped c led p n there none in none_if (node_halt n) s.0 _ s.1

module _ (c : NodeWorld) (q : ℕ) (giver : Node) (origin : slice_get (nodes_in c) q ≡ Some giver) (p : ℕ) where
  lane_as : (fs : List (FrameAt Spot)) → waiting_in (outs_of giver) p ≡ fs → (world_in c).lanes q p ≡ map (frame_with (place_in giver.table)) fs
  lane_as fs is = ap (λ o. box_or o p) origin ∙ ap (map (frame_with (place_in giver.table))) is

  -- nothing waits
  pub empty_as : waiting_in (outs_of giver) p ≡ [] → (world_in c).lanes q p ≡ []
  empty_as is = lane_as [] is

  -- something does
  pub filled_as : (f : FrameAt Spot) (rest : List (FrameAt Spot)) → waiting_in (outs_of giver) p ≡ f ∷ rest → (world_in c).lanes q p ≡ [] → ⊥
  filled_as f rest is none = let e = sym (lane_as (f ∷ rest) is) ∙ none in cc e

-- nothing is left to do where no party has anything to do
pub all_idle : (c : NodeWorld) → ((p : ℕ) → p < length (nodes_in c) → IsIdleAmong (play_of (file_in c)) (length (nodes_in c)) (world_in c) p) → IsQuietAmong (play_of (file_in c)) (length (nodes_in c)) (world_in c)
all_idle c idle = record { empty = λ from to lf lt. (idle to lt).empty from lf; still = λ p lt. (idle p lt).still }

pub one_idle : (c : NodeWorld) (p : ℕ) → p < length (nodes_in c) → IsQuietAmong (play_of (file_in c)) (length (nodes_in c)) (world_in c) → IsIdleAmong (play_of (file_in c)) (length (nodes_in c)) (world_in c) p
one_idle c p lt quiet = record { empty = λ from lf. quiet.empty from p lf lt; still = quiet.still p lt }

-- one lane more is empty
pub lane_next : (c : NodeWorld) (p k : ℕ) → ((q : ℕ) → q < k → (world_in c).lanes q p ≡ []) → (world_in c).lanes k p ≡ [] → (q : ℕ) → q < k + 1 → (world_in c).lanes q p ≡ []
lane_next c p k before here q lt = elim (cases_lt q k) [ inl below ↦ before q below | inr above ↦ ap (λ t. (world_in c).lanes t p) (let e : q ≡ k = omega (arith, lt, above) in e) ∙ here ]

-- one party more has nothing to do
pub idle_next : (c : NodeWorld) (k : ℕ) → ((p : ℕ) → p < k → IsIdleAmong (play_of (file_in c)) (length (nodes_in c)) (world_in c) p) → IsIdleAmong (play_of (file_in c)) (length (nodes_in c)) (world_in c) k
    → (p : ℕ) → p < k + 1 → IsIdleAmong (play_of (file_in c)) (length (nodes_in c)) (world_in c) p
idle_next c k before here p lt =
    elim (cases_lt p k) [
      | inl below ↦ before p below
      | inr above ↦ subst (λ (t : ℕ). IsIdleAmong (play_of (file_in c)) (length (nodes_in c)) (world_in c) t) (let e : k ≡ p = omega (arith, lt, above) in e) here
    ]

-- what holds of no value isn't there
pub none_so : {X : Type 0} → (o : Option X) (P : X → Type 0) → IfSome o P → ((x : X) → P x → ⊥) → o ≡ None
none_so None P h none = refl
none_so (Some x) P h none = absurd (none x h)

-- what holds where nothing is there
pub where_none : {X : Type 0} → (o : Option X) (P : Type 0) → IfNone o P → o ≡ None → P
where_none None P h is = h
where_none (Some x) P h is = absurd (cc is)
