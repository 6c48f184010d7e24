-- Nodes without an event: they stay, but for frames that leave outboxes.
use Rattle.std.proofs.Common.{◌≡◌, ◌⊎◌, ℕ, [], ◌∷◌, map, inl, inr, refl, ap, sym, ◌∙◌, subst}
use Rattle.std.proofs.lemmas.Bool.{cases_eq}
use Rattle.sj_table.specs.declared.table.Spot.{Spot}
use Rattle.sj_table.specs.Spots.{place_in}
use Rattle.sj_rules.specs.Frames.{FrameAt}
use Rattle.sj_rules.specs.Mapped.{frame_with}
use Rattle.sj_node.specs.declared.node.Node.{Node}
use Rattle.sj_node.specs.Node.{Stays, outbox_of}
use Rattle.sj_node.specs.Outs.{waiting_in}
use Rattle.sj_node.specs.Reading.{IsFinished, TakesOut, outs_of}
use Rattle.sj_work.specs.Went.{HasNoEvent}
use Rattle.sj_work.proofs.HaltLemmas.{empty_before}

pub rests_itself : (a b : Node) → b ≡ a → HasNoEvent a b
rests_itself a b same = subst (λ (n : Node). HasNoEvent a n) (sym same) (record { node = refl; parties = refl; boxes = λ q waits. waits })

pub rests_later : (a b c : Node) → HasNoEvent a b → HasNoEvent b c → HasNoEvent a c
rests_later a b c x y = record { node = y.node ∙ x.node; parties = y.parties ∙ x.parties; boxes = λ q waits. x.boxes q (y.boxes q waits) }

-- a refused event
pub rests_stays : (a b : Node) → Stays a b → HasNoEvent a b
rests_stays a b s = record { node = s.node; parties = s.parties; boxes = λ q waits none. waits (s.posts q ∙ none) }

-- nothing waits in an outbox exactly where lanes see nothing
pub outbox_empty : (n : Node) (q : ℕ) → waiting_in (outs_of n) q ≡ [] → outbox_of n q ≡ []
outbox_empty n q none = ap (map (frame_with (place_in n.table))) none

pub waiting_empty : (n : Node) (q : ℕ) → outbox_of n q ≡ [] → waiting_in (outs_of n) q ≡ []
waiting_empty n q none = empty_before (frame_with (place_in n.table)) (waiting_in (outs_of n) q) none

-- frames that left outboxes
rests_out : (a b : Node) → TakesOut a b → ((q : ℕ) → waiting_in (outs_of a) q ≡ [] → waiting_in (outs_of b) q ≡ []) → HasNoEvent a b
rests_out a b out empty = record { node = out.node; parties = out.parties; boxes = λ q waits none. waits (outbox_empty b q (empty q (waiting_empty a q none))) }

-- one outbox had a frame, and all others are as they were
pub rests_front : (a b : Node) (to : ℕ) (f : FrameAt Spot) (rest : _) → TakesOut a b → waiting_in (outs_of a) to ≡ f ∷ rest
    → ((q : ℕ) → (q ≡ to → ⊥) → waiting_in (outs_of b) q ≡ waiting_in (outs_of a) q) → HasNoEvent a b
rests_front a b to f rest out front others = rests_out a b out (λ q. each q (cases_eq q to))
  where
    each : (q : ℕ) → (q ≡ to) ⊎ (q ≡ to → ⊥) → waiting_in (outs_of a) q ≡ [] → waiting_in (outs_of b) q ≡ []
    each q (inl is) none = let e : f ∷ rest ≡ [] = sym front ∙ ap (waiting_in (outs_of a)) (sym is) ∙ none in absurd (cc e)
    each q (inr not) none = others q not ∙ none

-- frames that left outboxes and came back
pub takes_later : (a b c : Node) → TakesOut a b → TakesOut b c → TakesOut a c
takes_later a b c x y = record {
  node = y.node ∙ x.node;
  log = y.log ∙ x.log;
  party = y.party ∙ x.party;
  parties = y.parties ∙ x.parties;
  table = y.table ∙ x.table;
  connects = y.connects ∙ x.connects;
}

-- a node that a frame waits in isn't finished
pub waits_open : (n : Node) (to : ℕ) (f : FrameAt Spot) (rest : _) → waiting_in (outs_of n) to ≡ f ∷ rest → IsFinished n → ⊥
waits_open n to f rest front finished = let e : f ∷ rest ≡ [] = sym front ∙ finished.outs to in cc e
