-- Calls that request a session or accept one, and the acts that are such calls.
use Rattle.std.proofs.Common.{◌≡◌, ℕ, ◌+◌, ◌<◌, true, false, ltb, if◌then◌else◌, [], ◌∷◌, Option, Some, None, option_map, refl, ap, subst, sym, ◌∙◌, arith}
use Rattle.std.proofs.Common.{Result, Ok, OnOk}
use Rattle.std.specs.Prelude.{Err, IsErrOf, is_err, nat_lt}
use Rattle.std.proofs.lemmas.Bool.Decides.{nat_tests}
use Rattle.sj_base.specs.declared.EndId.{EndId}
use Rattle.sj_lang.specs.Place.{Place}
use Rattle.sj_table.specs.declared.table.Spot.{Spot}
use Rattle.sj_table.specs.Spots.{place_in, start_in}
use Rattle.sj_semantics.specs.declared.Want.TheVariants as wants
use Rattle.sj_semantics.specs.Steps.{opened_of}
use Rattle.sj_machine.specs.Sound.{program_at}
use Rattle.sj_rules.specs.Limits.{limit_of_requests}
use Rattle.sj_rules.specs.Record.{Open, MainAt, Held, Closed, Expected, offered_end, requested_end}
use Rattle.sj_rules.specs.Mapped.{each_with, held_with, main_with}
use Rattle.sj_rules.specs.Node as rules
use Rattle.sj_rules.specs.Node.{accept_offered, accept_session, held_at, open_session, put, request_act}
use Rattle.sj_rules.specs.Opened.{new_held, opened_number, smallest, without}
use Rattle.sj_rules.proofs.NodeMapLemmas.{put-each}
use Rattle.sj_end.specs.declared.note.Note.TheVariants as notes
use Rattle.sj_node.specs.declared.node.Node.{Node}
use Rattle.sj_node.specs.declared.refusal.Halt.{Halt}
use Rattle.sj_node.specs.Calls.{call_of, place_here, silent}
use Rattle.sj_node.specs.Node.{accepted_note, act_of, main_of, node_at, offers_of, play_here, steps_of, wants_of}
use Rattle.sj_offers.specs.Offers.{offering}
use Rattle.sj_node.specs.Opening.{Accepts}
use Rattle.sj_node.specs.Parking.{held_of}
use Rattle.sj_node.specs.Requests.{accept_note, accepted_by, requested_by}
use Rattle.sj_node.specs.Slots.{mains_in, olds_in}
use Rattle.sj_node.proofs.ActLemmas.{act_at, left_with}
use Rattle.sj_node.proofs.StepLemmas.{chosen, with_program}

few : (n : ℕ) → n < 100 → ltb n 100 ≡ true
few n lt = grind (arith, nat_tests)

-- ---- the rows

-- a session is opened
pub call_requests : (n : Node) (to : ℕ) (place : Spot) → n.requests < 100
    → call_of n (rules.requests (place_here n place) to)
    ≡ Some (left_with n (program_at n.machine) (n.requests + 1) (offers_of n)
    (put (requested_by n) (Some (Held (new_held (requested_by n) place to))) (mains_in n.mains.items)) (olds_in n.olds.items) (record { party = to; body = Open (opened_number n.party n.requests) } ∷ []))
call_requests n to place lt =
    let f = place_in n.table in
    let e = requested_by n in
    (λ i. if few n.requests lt i then Some (open_session (silent n.parties) (node_at n) (f place) to (opened_number n.party n.requests)) else None)
    ∙ (λ i. Some (record {
      state = record (node_at n) { requests = n.requests + 1; main = put-each (main_with f) e (Some (Held (new_held e place to))) (mains_in n.mains.items) i };
      posts = record { party = to; body = Open (opened_number n.party n.requests) } ∷ [];
    }))

-- a session is accepted
pub call_accepts : (n : Node) (from sess : ℕ) (place : Spot) (main : EndId → Option (MainAt Spot)) → smallest (offers_of n from) ≡ Some sess → Accepts (offered_end sess) place (mains_in n.mains.items) main
    → call_of n (rules.accepts (place_here n place) from)
    ≡ Some (left_with n (program_at n.machine) n.requests (offering from (without sess (offers_of n from)) (offers_of n)) main (olds_in n.olds.items) [])
call_accepts n from sess place main least accepts =
    let f = place_in n.table in
    let e = offered_end sess in
    let was = accepts.from.was in
    let there : (node_at n).main e ≡ Some (Held (held_with f was)) = ap (option_map (main_with f)) accepts.from.there in
    let table : put e (Some (Held (held_at (f place) (held_with f was)))) (node_at n).main ≡ each_with (main_with f) main =
    put-each (main_with f) e (Some (Held (held_at place was))) (mains_in n.mains.items)
    ∙ (λ i. each_with (main_with f) (put e (sym accepts.from.left i) (mains_in n.mains.items)))
    ∙ ap (each_with (main_with f)) (sym accepts.puts) in
    ap (accept_offered (silent n.parties) (node_at n) (f place) from) least
    ∙ ap (accept_session (silent n.parties) (node_at n) (f place) from sess) there
    ∙ (λ i. Some (record { state = record (node_at n) { offers = offering from (without sess (offers_of n from)) (offers_of n); main = table i }; posts = [] }))

not_held : (n : Node) (place : Place) (from sess : ℕ) (r : Option (MainAt Spot)) → held_of r ≡ None → accept_session (silent n.parties) (node_at n) place from sess (option_map (main_with (place_in n.table)) r) ≡ None
not_held n place from sess None h = refl
not_held n place from sess (Some (Held x)) h = cc
not_held n place from sess (Some (Closed c)) h = refl
not_held n place from sess (Some (Expected k q d)) h = refl

-- nothing is offered
pub no_offer : (n : Node) (place : Place) (from : ℕ) → smallest (offers_of n from) ≡ None → call_of n (rules.accepts place from) ≡ None
no_offer n place from none = ap (accept_offered (silent n.parties) (node_at n) place from) none

-- what is offered isn't held
pub offer_lost : (n : Node) (place : Place) (from sess : ℕ) → smallest (offers_of n from) ≡ Some sess → held_of (main_of n (offered_end sess)) ≡ None → call_of n (rules.accepts place from) ≡ None
offer_lost n place from sess least lost =
    ap (accept_offered (silent n.parties) (node_at n) place from) least ∙ not_held n place from sess (main_of n (offered_end sess)) lost

-- what is noted
pub accept_noted : (n : Node) (from sess : ℕ) → smallest (offers_of n from) ≡ Some sess → accept_note n from ≡ notes.Accept sess from
accept_noted n from sess least = ap (accepted_note from) least

-- ---- each step is its call

pub requests_by : (n : Node) (p to : ℕ) (place : Spot) → wants_of n ≡ wants.Request p to → steps_of n < 10000 → place_in n.table place ≡ start_in n.table p
    → act_of n ≡ option_map (with_program (opened_of (program_at n.machine) (requested_by n))) (call_of n (rules.requests (place_here n place) to))
requests_by n p to place is steps spot =
    act_at n (wants.Request p to) is steps
    ∙ (λ i. request_act (play_here n) n.party (node_at n) (sym spot i) to)
    ∙ chosen (nat_lt n.requests limit_of_requests) _ _ (with_program (opened_of (program_at n.machine) (requested_by n))) refl

session_by : (n : Node) (place : Place) (from sess : ℕ) (r : Option (MainAt Place))
    → accept_session (play_here n) (node_at n) place from sess r ≡ option_map (with_program (opened_of (program_at n.machine) (offered_end sess))) (accept_session (silent n.parties) (node_at n) place from sess r)
session_by n place from sess None = refl
session_by n place from sess (Some (Held h)) = refl
session_by n place from sess (Some (Closed c)) = refl
session_by n place from sess (Some (Expected k q d)) = refl

least_by : (n : Node) (p from sess : ℕ) (place : Spot) → wants_of n ≡ wants.Accept p from → steps_of n < 10000 → place_in n.table place ≡ start_in n.table p → smallest (offers_of n from) ≡ Some sess
    → act_of n ≡ option_map (with_program (opened_of (program_at n.machine) (offered_end sess))) (call_of n (rules.accepts (place_here n place) from))
least_by n p from sess place is steps spot least =
    act_at n (wants.Accept p from) is steps
    ∙ (λ i. accept_offered (play_here n) (node_at n) (sym spot i) from (least i))
    ∙ session_by n (place_here n place) from sess ((node_at n).main (offered_end sess))
    ∙ (λ i. option_map (with_program (opened_of (program_at n.machine) (offered_end sess))) (accept_offered (silent n.parties) (node_at n) (place_here n place) from (sym least i)))

pub accepts_by : (n : Node) (p from : ℕ) (e : EndId) (place : Spot) → wants_of n ≡ wants.Accept p from → steps_of n < 10000 → place_in n.table place ≡ start_in n.table p → Some e ≡ accepted_by n from
    → act_of n ≡ option_map (with_program (opened_of (program_at n.machine) e)) (call_of n (rules.accepts (place_here n place) from))
accepts_by n p from e place is steps spot opened = by (smallest (offers_of n from)) refl opened
  where
    by : (o : Option ℕ) → smallest (offers_of n from) ≡ o → Some e ≡ option_map offered_end o
        → act_of n ≡ option_map (with_program (opened_of (program_at n.machine) e)) (call_of n (rules.accepts (place_here n place) from))
    by None least opened = cc
    by (Some sess) least opened =
        let same : offered_end sess ≡ e = cc in
        subst (λ (d : EndId). act_of n ≡ option_map (with_program (opened_of (program_at n.machine) d)) (call_of n (rules.accepts (place_here n place) from))) same (least_by n p from sess place is steps spot least)

-- where the call has no row, the step has none
pub accepts_none : (n : Node) (p from : ℕ) (place : Spot) → wants_of n ≡ wants.Accept p from → steps_of n < 10000 → place_in n.table place ≡ start_in n.table p
    → call_of n (rules.accepts (place_here n place) from) ≡ None → act_of n ≡ None
accepts_none n p from place is steps spot none = by (smallest (offers_of n from)) refl
  where
    by : (o : Option ℕ) → smallest (offers_of n from) ≡ o → act_of n ≡ None
    by None least = act_at n (wants.Accept p from) is steps ∙ ap (accept_offered (play_here n) (node_at n) (start_in n.table p) from) least
    by (Some sess) least = least_by n p from sess place is steps spot least ∙ ap (option_map _) none

-- a refusal is the same, whatever an answer would have been
pub refused_so : {T U : Type 0} (e h : Halt) → IsErrOf {T = T} (Err e) h → IsErrOf {T = U} (Err e) h
refused_so e h is = let same : e ≡ h = cc in ap Err same

-- what holds where the answer is no refusal
pub was_ok : {T E : Type 0} {P : Type 0} (r : Result T E) → is_err r ≡ false → OnOk r P → P
was_ok (Ok x) no_err h = h
was_ok (Err e) no_err h = cc
