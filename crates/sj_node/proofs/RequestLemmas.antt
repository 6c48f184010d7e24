-- A request and an accept of a node are rows of the rules, with their notes, and are held up where
-- these say so.
use Rattle.std.proofs.Common.{◌≡◌, ℕ, ◌+◌, Bool, true, false, if◌then◌else◌, Option, Some, None, option_map, refl}
use Rattle.std.specs.Prelude.{nat_lt, not}
use Rattle.sj_end.specs.Lines.{note_seen}
use Rattle.sj_end.specs.declared.note.Event.TheVariants as events
use Rattle.sj_lang.specs.Place.{Place}
use Rattle.sj_semantics.specs.Program.{Program}
use Rattle.sj_rules.specs.Halts as causes
use Rattle.sj_rules.specs.Halts.{halt_by, halt_if, is_empty}
use Rattle.sj_rules.specs.Limits.{limit_of_requests}
use Rattle.sj_rules.specs.Log as logs
use Rattle.sj_rules.specs.Node as rules
use Rattle.sj_rules.specs.Node.{NodeAt, accept_offered}
use Rattle.sj_rules.specs.Opened.{smallest}
use Rattle.sj_rules.specs.Rows.{Worked}
use Rattle.sj_node.specs.declared.node.Node.{Node}
use Rattle.sj_node.specs.declared.refusal.Halt.{Halt}
use Rattle.sj_node.specs.declared.refusal.Halt.TheVariants as halts
use Rattle.sj_node.specs.Calls.{call_of, silent}
use Rattle.sj_node.specs.Halts.{accept_stop, request_stop}
use Rattle.sj_node.specs.Node.{Does, accepted_note, clock_of, node_at, offers_of}
use Rattle.sj_node.specs.Requests.{accept_note, request_note}
use Rattle.sj_node.specs.Seats.{IsRowOf, halt_named}
use Rattle.sj_node.proofs.SeatLemmas.{no_row, row_done}

-- a request that is done
pub request_done : (old new : Node) (place : Place) (to : ℕ) → Does old (call_of old (rules.requests place to)) (clock_of old + 1) events.Act (request_note old to) new
    → IsRowOf old (rules.requests place to) (request_note old to) new
request_done old new place to does = row_done old new (rules.requests place to) (request_note old to) (λ left row. refl) does

accept_told : (n : Node) (place : Place) (from : ℕ) (o : Option ℕ) (left : Worked Place (NodeAt Place Program)) → accept_offered (silent n.parties) (node_at n) place from o ≡ Some left
    → ◌≡◌ {A = Option logs.NoteAt} (option_map (λ sess. logs.Accept sess from) o) (Some (note_seen (accepted_note from o)))
accept_told n place from None left is = absurd (no_row left is)
accept_told n place from (Some sess) left is = refl

-- an accept that is done
pub accept_done : (old new : Node) (place : Place) (from : ℕ) → Does old (call_of old (rules.accepts place from)) (clock_of old + 1) events.Act (accept_note old from) new
    → IsRowOf old (rules.accepts place from) (accept_note old from) new
accept_done old new place from does =
    row_done old new (rules.accepts place from) (accept_note old from) (accept_told old place from (smallest (offers_of old from))) does

-- what holds the two up
many : (b : Bool) → ◌≡◌ {A = Option Halt} (if b then None else Some halts.AtLimit) (option_map halt_named (halt_if (not b) causes.requested_enough None))
many true = refl
many false = refl

pub request_halts : (n : Node) (place : Place) (to : ℕ) → request_stop n.requests ≡ option_map halt_named (halt_by (node_at n) (rules.requests place to))
request_halts n place to = many (nat_lt n.requests limit_of_requests)

no_offers : (b : Bool) (from : ℕ) → ◌≡◌ {A = Option Halt} (if b then Some halts.Waits else None) (option_map halt_named (halt_if b (causes.no_offer from) None))
no_offers true from = refl
no_offers false from = refl

pub accept_halts : (n : Node) (place : Place) (from : ℕ) → accept_stop (offers_of n) from ≡ option_map halt_named (halt_by (node_at n) (rules.accepts place from))
accept_halts n place from = no_offers (is_empty (offers_of n from)) from
