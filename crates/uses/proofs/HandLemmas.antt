-- Acts and deliveries by hand.
use Rattle.std.proofs.Common.{◌≡◌, ◌∙◌, ◌+◌, ℕ, List, [], ◌∷◌, length, length-append, Option, Some, None, ap, if◌then◌else◌, refl}
use Rattle.sj_end.specs.declared.note.Entry.{Entry}
use Rattle.sj_end.specs.declared.note.Event.{Event}
use Rattle.sj_end.specs.declared.note.Note.{Note}
use Rattle.sj_lang.specs.Place.{Place}
use Rattle.sj_node.specs.declared.node.Node.{Node}
use Rattle.sj_node.specs.declared.refusal.DeliverRefusal.{DeliverRefusal}
use Rattle.sj_node.specs.declared.refusal.Halt.{Halt}
use Rattle.sj_node.specs.declared.refusal.Halt.TheVariants as halts
use Rattle.sj_node.specs.declared.refusal.DeliverRefusal.TheVariants as refusals
use Rattle.sj_node.specs.Node.{Does, Stays, act_of, has_room, is_refused, log_of, node_halt}
use Rattle.sj_node.specs.Play.{next_want, play_with}
use Rattle.sj_rules.specs.Node.{NodeAt, acts}
use Rattle.sj_rules.specs.Rows.{Worked}
use Rattle.sj_semantics.specs.Program.{Program}
use Rattle.sj_table.specs.Spots.{start_in}
use Rattle.sj_work.proofs.HaltLemmas.{stop_same}
use Rattle.uses.specs.Stops.{StopsFor}

-- what a node does it notes once
pub noted_once : (old new : Node) (left : Option (Worked Place (NodeAt Place Program))) (clock : ℕ) (event : Event) (note : Note) → Does old left clock event note new → length (log_of new) ≡ length (log_of old) + 1
noted_once old new None clock event note does = absurd does
noted_once old new (Some left) clock event note does =
    let entry : Entry = record { clock = clock; event = event; note = note } in
    ap (λ (es : List Entry). length es) does.log ∙ length-append (log_of old) (entry ∷ [])

-- a refusal says what follows of what it says
pub refused_so : {P Q : Type 0} (r : DeliverRefusal) → (P → Q) → is_refused r P → is_refused r Q
refused_so refusals.Unfit follows p = follows p
refused_so refusals.NoMemory follows p = tt

-- a node that stays has the act that it had
act_same : (a b : Node) → Stays a b → act_of b ≡ act_of a
act_same a b s = λ i. if has_room (s.node i).main (next_want (s.node i).program) then acts (play_with (start_in (s.table i)) (s.connects i) (s.parties i)) (s.party i) (s.node i) else None

-- a refused act changes nothing, so its cause is there after it
pub stopped_so : (a b : Node) (h : Halt) → Stays a b → (h ≡ halts.Unfit → act_of a ≡ None) → (h ≡ halts.Ended → node_halt a ≡ Some halts.Ended) → (h ≡ halts.AtLimit → node_halt a ≡ Some halts.AtLimit)
    → (h ≡ halts.Waits → node_halt a ≡ Some halts.Waits) → StopsFor b h
stopped_so a b halts.Ended s unfit ended at_limit waits = stop_same a b s.node ∙ ended refl
stopped_so a b halts.AtLimit s unfit ended at_limit waits = stop_same a b s.node ∙ at_limit refl
stopped_so a b halts.Waits s unfit ended at_limit waits = stop_same a b s.node ∙ waits refl
stopped_so a b halts.Unfit s unfit ended at_limit waits = act_same a b s ∙ unfit refl
stopped_so a b halts.NoMemory s unfit ended at_limit waits = tt
