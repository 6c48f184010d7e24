-- What a party's ends, offers and lanes make of it by the rules.
use Rattle.std.proofs.Common.{◌≡◌, ℕ, ◌+◌, ◌==◌, Bool, true, false, if◌then◌else◌, List, [], ◌∷◌, ◌++◌, append-nil, Option, Some, None, refl, ap, sym, ◌∙◌, subst, inl, inr}
use Rattle.std.specs.Prelude.{Vec}
use Rattle.std.proofs.lemmas.Bool.{cases_eq}
use Rattle.std.specs.declared.alloc.Global.{Global}
use Rattle.sj_base.specs.declared.EndId.{EndId}
use Rattle.sj_semantics.specs.Program.{Program}
use Rattle.sj_rules.specs.Record.{is_same_end}
use Rattle.sj_world_lemmas.proofs.LinkLemmas.{same_is}
use Rattle.sj_forward.specs.declared.forwarder.Forwarder.{Forwarder}
use Rattle.sj_forward.specs.declared.slot.Slot.{Slot}
use Rattle.sj_forward.specs.Forwarder.{Does, DoesSo, forwarder_at, lane_of}
use Rattle.sj_forward.specs.Ends.{Rows, Writes, uses_in}
use Rattle.sj_offers.specs.Offers.{offers_in}
use Rattle.sj_forward.proofs.SlotLemmas.{one_other, one_same}
use Rattle.sj_forward_rules.specs.Node.{NodeAt, Worked, quietly, with_record, with_use}
use Rattle.sj_forward_rules.specs.Record.{RecordAt, FrameAt}
use Rattle.sj_forward_rules.specs.World.{frames_for}

-- ---- ends

-- an end is used and recorded otherwise
pub forwarder_written : (g : Program) (d : Forwarder) (ends : Vec (Vec Slot Global) Global) (e : EndId) (at : Option ℕ) (hop : ℕ) (r : RecordAt) → Writes d.ends.items e at hop r ends.items
    → forwarder_at g (record d { ends = ends }) ≡ with_use e at (with_record e hop r (forwarder_at g d))
forwarder_written g d ends e at hop r w = λ i. record {
  program = g;
  requests = d.requests;
  offers = offers_in d.offers.items;
  uses = w.uses i;
  records = w.records i;
}

use_still : (rows : Rows) (e d : EndId) → (if is_same_end d e then uses_in rows e else uses_in rows d) ≡ uses_in rows d
use_still rows e d = by (is_same_end d e) refl
  where
    by : (b : Bool) → is_same_end d e ≡ b → (if b then uses_in rows e else uses_in rows d) ≡ uses_in rows d
    by true is = ap (uses_in rows) (sym (same_is d e is))
    by false is = refl

-- a record is another, and the end is used as before
pub forwarder_recorded : (g : Program) (d : Forwarder) (ends : Vec (Vec Slot Global) Global) (e : EndId) (hop : ℕ) (r : RecordAt) → Writes d.ends.items e (uses_in d.ends.items e) hop r ends.items
    → forwarder_at g (record d { ends = ends }) ≡ with_record e hop r (forwarder_at g d)
forwarder_recorded g d ends e hop r w =
    (λ i. record { program = g; requests = d.requests; offers = offers_in d.offers.items; uses = w.uses i; records = w.records i })
    ∙ (λ i. record {
      program = g;
      requests = d.requests;
      offers = offers_in d.offers.items;
      uses = λ x. use_still d.ends.items e x i;
      records = (with_record e hop r (forwarder_at g d)).records;
    })

-- ---- lanes

-- what one post puts there
pub posted : (lane : List FrameAt) (q to : ℕ) (f : FrameAt) → (if q == to then lane ++ f ∷ [] else lane) ≡ lane ++ frames_for q (record { party = to; frame = f } ∷ [])
posted lane q to f =
    elim (cases_eq q to) [
      | inl same ↦ rw (same, one_same to) refl
      | inr other ↦ rw (one_other q to other) (sym (append-nil lane))
    ]

-- one frame is sent, and the ends and offers are those of the rule
pub does_post : (old new : Forwarder) (node : NodeAt Program) (to : ℕ) (f : FrameAt) → forwarder_at node.program new ≡ node
    → ((q : ℕ) → lane_of new q ≡ (if q == to then lane_of old q ++ f ∷ [] else lane_of old q))
    → Does old (record { node = node; posts = record { party = to; frame = f } ∷ [] }) new
does_post old new node to f is lanes = record { node = is; posts = λ q. lanes q ∙ posted (lane_of old q) q to f }

-- nothing is sent
pub does_quietly : (old new : Forwarder) (node : NodeAt Program) → forwarder_at node.program new ≡ node → ((q : ℕ) → lane_of new q ≡ lane_of old q) → Does old (quietly node) new
does_quietly old new node is lanes = record { node = is; posts = λ q. lanes q ∙ sym (append-nil (lane_of old q)) }

-- what was done from a party with the same lanes
pub does_from : (old mid new : Forwarder) (o : Option (Worked Program)) → ((q : ℕ) → lane_of mid q ≡ lane_of old q) → DoesSo mid o new → DoesSo old o new
does_from old mid new None same does = does
does_from old mid new (Some done) same does = record { node = does.node; posts = λ q. does.posts q ∙ ap (λ l. l ++ frames_for q done.posts) (same q) }

-- a rule that fitted is that one
pub does_so : (old new : Forwarder) (o : Option (Worked Program)) (done : Worked Program) → o ≡ Some done → Does old done new → DoesSo old o new
does_so old new o done is does = subst (λ (x : Option (Worked Program)). DoesSo old x new) (sym is) does

pub did : (old new : Forwarder) (o : Option (Worked Program)) (done : Worked Program) → o ≡ Some done → DoesSo old o new → Does old done new
did old new o done is does = subst (λ (x : Option (Worked Program)). DoesSo old x new) is does
