-- What a node that nothing stops says of its records, and the note of a frame.
use Rattle.std.proofs.Common.{◌≡◌, ◌∙◌, ℕ, ◌<◌, nat_lt, Bool, true, false, not, if◌then◌else◌, Option, Some, None, option_map, refl, sym, ap}
use Rattle.std.proofs.lemmas.Bool.{ltb-true}
use Rattle.sj_base.specs.declared.EndId.{EndId}
use Rattle.sj_lang.specs.Place.{Place}
use Rattle.sj_semantics.specs.declared.Want.{Want}
use Rattle.sj_semantics.specs.declared.Want.TheVariants as wants
use Rattle.sj_table.specs.declared.table.Spot.{Spot}
use Rattle.sj_table.specs.Spots.{place_in}
use Rattle.sj_end.specs.Lines.{note_seen}
use Rattle.sj_end.specs.Views.{note_at}
use Rattle.sj_rules.specs.Halts.{is_delegated_enough}
use Rattle.sj_rules.specs.Limits.{limit_of_hops}
use Rattle.sj_rules.specs.Log.{body_note}
use Rattle.sj_rules.specs.Mapped.{main_with}
use Rattle.sj_rules.specs.Record.{BodyAt, Carry, Fin, Claim, Signal, Ack, Give, Open, HeldAt, MainAt, Held, Closed, Expected}
use Rattle.sj_node.specs.declared.node.Node.{Node}
use Rattle.sj_node.specs.declared.refusal.Halt.TheVariants as halts
use Rattle.sj_node.specs.Node.{node_at, node_halt, wants_of}
use Rattle.sj_node.specs.Play.{want_with}
use Rattle.sj_node.specs.Slots.{main_at}
use Rattle.sj_run.proofs.BareHeldLemmas.{HopsFit}

-- an end with a record is of side 0 or 1
side_by : {A B C : Type 0} (f : B → C) (g : A → B) (b : Bool) (o : Option A) (x : C) → option_map f (option_map g (if b then o else None)) ≡ Some x → b ≡ true
side_by f g true o x e = refl
side_by f g false o x e = absurd (cc e)

pub low_side : (n : Node) (e : EndId) (h : HeldAt Place) → (node_at n).main e ≡ Some (Held h) → e.side < 2
low_side n e h there = ltb-true e.side 2 (side_by (main_with (place_in n.table)) main_at (nat_lt e.side 2) _ (Held h) there)

enough_seen : (f : Spot → Place) (r : Option (MainAt Spot)) → is_delegated_enough (option_map (main_with f) r) ≡ is_delegated_enough r
enough_seen f None = refl
enough_seen f (Some (Held x)) = refl
enough_seen f (Some (Closed x)) = refl
enough_seen f (Some (Expected k to ds)) = refl

free_of : (low named enough : Bool) → (if low then (if named then Some halts.Waits else (if enough then Some halts.AtLimit else None)) else Some halts.AtLimit) ≡ None → enough ≡ false
free_of true false false e = refl
free_of true false true e = absurd (cc e)
free_of true true enough e = absurd (cc e)
free_of false named enough e = absurd (cc e)

few_hops : (b : Bool) → not b ≡ false → b ≡ true
few_hops true e = refl
few_hops false e = absurd (cc e)

-- where nothing stops a node, the end that it delegates was delegated fewer than 100 times
pub hops_fit : (n : Node) (starts : ℕ → Place) → node_halt n ≡ None → HopsFit (node_at n) (want_with starts (wants_of n))
hops_fit n starts free = by (wants_of n) free
  where
    by : (want : Want) → Rattle.sj_node.specs.Halts.stop_by (Rattle.sj_node.specs.Slots.mains_in n.mains.items) n.requests (Rattle.sj_node.specs.Node.offers_of n) (Rattle.sj_node.specs.Node.steps_of n) want ≡ None → HopsFit (node_at n) (want_with starts want)
    by wants.Local k = tt
    by (wants.Send e m) k = tt
    by (wants.Delegate e y) k = λ h there.
        let mains = Rattle.sj_node.specs.Slots.mains_in n.mains.items in
        let enough : is_delegated_enough (mains y) ≡ false = free_of _ _ (is_delegated_enough (mains y)) k in
        few_hops (nat_lt h.end.hops limit_of_hops) (ap is_delegated_enough (sym there) ∙ enough_seen (place_in n.table) (mains y) ∙ enough)
    by (wants.Take e a) k = tt
    by (wants.Request q to) k = tt
    by (wants.Accept q from) k = tt
    by (wants.Close e) k = tt
    by wants.Ended k = tt

-- a frame that came has the note of its body
pub note_is : (b : BodyAt Place) → note_seen (note_at b) ≡ body_note b
note_is (Carry to conn number taken msg) = refl
note_is (Fin to conn number) = refl
note_is (Claim of) = refl
note_is (Signal to conn party taken) = refl
note_is (Ack of conn) = refl
note_is (Give e resend) = refl
note_is (Open sess) = refl

pub room_if : {X : Type 0} (b : Bool) (o : Option X) → b ≡ true → (if b then o else None) ≡ None → o ≡ None
room_if true o e k = k
room_if false o e k = absurd (cc e)
