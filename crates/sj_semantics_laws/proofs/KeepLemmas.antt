-- An act keeps that no end is shared.
use Rattle.std.proofs.Common.{◌≡◌, ℕ, ◌+◌, ◌≤◌, nat_lt, Bool, true, false, cond, List, [], ◌∷◌, Option, Some, None, option_map, sum_by, length, refl, ap, sym, arith, subst, inl, inr}
use Rattle.sj_base.specs.declared.EndId.{EndId}
use Rattle.sj_base.specs.declared.Msg.{Msg}
use Rattle.sj_base.specs.declared.Msg.TheVariants as msgs
use Rattle.sj_lang.specs.Code.{send, delegate, take_value, take_end, outbranch, inbranch, outwhile, inwhile, relay, if_else, let_be, close, request, accept}
use Rattle.sj_semantics.specs.declared.Want.{Want}
use Rattle.sj_semantics.specs.declared.Want.TheVariants as wants
use Rattle.sj_semantics.specs.declared.Passed.{Passed}
use Rattle.sj_semantics.specs.Program.{Program, Thing, statement, turns, passing}
use Rattle.sj_semantics.specs.Steps.{ends_after_sent, ends_after_took, ends_after_closed, local_of, sent_of, closed_of, name_opened}
use Rattle.sj_semantics.specs.World.{World, Change, plain_change, session_message, begun_by, begun_at, change_by_taking, change_by_opening, change_by_accepting, change_by, changed_world, act_of}
use Rattle.sj_semantics.specs.Requests.{first_offer, opened_number}
use Rattle.sj_semantics.specs.declared.Awaits.{Awaits}
use Rattle.sj_semantics.specs.declared.Awaits.TheVariants as awaits
use Rattle.sj_lang.specs.Place.{Place}
use Rattle.sj_lang.specs.Dual.{dual_of}
use Rattle.sj_lang.specs.FileAt.{ProtocolAt, body_named}
use Rattle.std.proofs.lemmas.Bool.{cases_Bool, false_from_ne_true}
use Rattle.sj_semantics.specs.Ends.{Session, end_at, next_for}
use Rattle.sj_semantics.specs.Uses.{sends, takes, delegates, begins, after_uses}
use Rattle.sj_semantics_laws.specs.Unshared.{bindings_of, names_end, carried_in, claims_on, IsToCome, IsUnshared}
use Rattle.sj_semantics_laws.proofs.AlteredLemmas.{sum_by-altered}
use Rattle.sj_semantics_laws.proofs.EndLemmas.{touched}
use Rattle.sj_semantics_laws.proofs.ChangeLemmas.{Rests, rests_on}
use Rattle.sj_semantics_laws.proofs.CommuteLemmas.{Doing, doing_of}
use Rattle.sj_semantics_laws.proofs.ClaimLemmas.{one_if, bindings_of-without_le, bindings_of-bound, carried-sends, carried-hands_on, carried-begins, carried-takes}
use Rattle.sj_semantics_laws.proofs.FreesLemmas.{Frees, want_frees}
use Rattle.sj_semantics_laws.proofs.ToComeLemmas.{OpeningFits, opening_fits, opens, opened_was_to_come, stays_to_come, requests_stay_few}

-- the other steps bind no more than what they took

sent_le : (e : EndId) (ends : List (ℕ × EndId)) (todo : List Thing) → bindings_of e (ends_after_sent ends todo) ≤ bindings_of e ends
sent_le e ends [] = omega arith
sent_le e ends (statement (send x v) ∷ rest) = omega arith
sent_le e ends (statement (delegate x y) ∷ rest) = bindings_of-without_le e ends y
sent_le e ends (statement (take_value x n k) ∷ rest) = omega arith
sent_le e ends (statement (take_end x y p) ∷ rest) = omega arith
sent_le e ends (statement (outbranch x l) ∷ rest) = omega arith
sent_le e ends (statement (inbranch x arms) ∷ rest) = omega arith
sent_le e ends (statement (outwhile x v body) ∷ rest) = omega arith
sent_le e ends (statement (inwhile x body) ∷ rest) = omega arith
sent_le e ends (statement (relay x y body) ∷ rest) = omega arith
sent_le e ends (statement (if_else v first second) ∷ rest) = omega arith
sent_le e ends (statement (let_be n v) ∷ rest) = omega arith
sent_le e ends (statement (close x) ∷ rest) = omega arith
sent_le e ends (statement (request x q b) ∷ rest) = omega arith
sent_le e ends (statement (accept x q b) ∷ rest) = omega arith
sent_le e ends (turns x n body ∷ rest) = omega arith
sent_le e ends (passing x y more body ∷ rest) = omega arith

closed_le : (e : EndId) (ends : List (ℕ × EndId)) (todo : List Thing) → bindings_of e (ends_after_closed ends todo) ≤ bindings_of e ends
closed_le e ends [] = omega arith
closed_le e ends (statement (send x v) ∷ rest) = omega arith
closed_le e ends (statement (delegate x y) ∷ rest) = omega arith
closed_le e ends (statement (take_value x n k) ∷ rest) = omega arith
closed_le e ends (statement (take_end x y p) ∷ rest) = omega arith
closed_le e ends (statement (outbranch x l) ∷ rest) = omega arith
closed_le e ends (statement (inbranch x arms) ∷ rest) = omega arith
closed_le e ends (statement (outwhile x v body) ∷ rest) = omega arith
closed_le e ends (statement (inwhile x body) ∷ rest) = omega arith
closed_le e ends (statement (relay x y body) ∷ rest) = omega arith
closed_le e ends (statement (if_else v first second) ∷ rest) = omega arith
closed_le e ends (statement (let_be n v) ∷ rest) = omega arith
closed_le e ends (statement (close x) ∷ rest) = bindings_of-without_le e ends x
closed_le e ends (statement (request x q b) ∷ rest) = omega arith
closed_le e ends (statement (accept x q b) ∷ rest) = omega arith
closed_le e ends (turns x n body ∷ rest) = omega arith
closed_le e ends (passing x y more body ∷ rest) = omega arith

took_end_le : (e : EndId) (ends : List (ℕ × EndId)) (x y p : ℕ) (rest : List Thing) (m : Msg) → bindings_of e (ends_after_took ends (statement (take_end x y p) ∷ rest) m) ≤ bindings_of e ends + one_if (names_end e m)
took_end_le e ends x y p rest (msgs.Int n) = omega arith
took_end_le e ends x y p rest (msgs.Bool b) = omega arith
took_end_le e ends x y p rest (msgs.Text n) = omega arith
took_end_le e ends x y p rest (msgs.Label l) = omega arith
took_end_le e ends x y p rest (msgs.More b) = omega arith
took_end_le e ends x y p rest (msgs.Sess s d k) = bindings_of-bound e ends y (record { sess = s; side = d })

pub took_le : (e : EndId) (ends : List (ℕ × EndId)) (todo : List Thing) (m : Msg) → bindings_of e (ends_after_took ends todo m) ≤ bindings_of e ends + one_if (names_end e m)
took_le e ends [] m = omega arith
took_le e ends (statement (send x v) ∷ rest) m = omega arith
took_le e ends (statement (delegate x y) ∷ rest) m = omega arith
took_le e ends (statement (take_value x n k) ∷ rest) m = omega arith
took_le e ends (statement (take_end x y p) ∷ rest) m = took_end_le e ends x y p rest m
took_le e ends (statement (outbranch x l) ∷ rest) m = omega arith
took_le e ends (statement (inbranch x arms) ∷ rest) m = omega arith
took_le e ends (statement (outwhile x v body) ∷ rest) m = omega arith
took_le e ends (statement (inwhile x body) ∷ rest) m = omega arith
took_le e ends (statement (relay x y body) ∷ rest) m = omega arith
took_le e ends (statement (if_else v first second) ∷ rest) m = omega arith
took_le e ends (statement (let_be n v) ∷ rest) m = omega arith
took_le e ends (statement (close x) ∷ rest) m = omega arith
took_le e ends (statement (request x q b) ∷ rest) m = omega arith
took_le e ends (statement (accept x q b) ∷ rest) m = omega arith
took_le e ends (turns x n body ∷ rest) m = omega arith
took_le e ends (passing x y more body ∷ rest) m = omega arith

-- ---- a change

-- the party and the sessions together have no more claims than before, but
-- for the end that is opened
abbrev KeepsClaims : EndId → ℕ → World → Program → Change → Type 0
KeepsClaims e p w g c = bindings_of e c.program.ends + sum_by (carried_in e) (after_uses p c.uses w.sessions) ≤ bindings_of e g.ends + sum_by (carried_in e) w.sessions + one_if (opens e w p c.opening)

cond_keeps : (e : EndId) (p : ℕ) (w : World) (g : Program) (b : Bool) (c d : Change) → KeepsClaims e p w g c → cond b (Some c) None ≡ Some d → KeepsClaims e p w g d
cond_keeps e p w g true c d k h = subst (KeepsClaims e p w g) (let it : c ≡ d = cc in it) k
cond_keeps e p w g false c d k h = cc

begun_keeps : (e : EndId) (p : ℕ) (zs : List Session) (place : Place) (m : Msg) → sum_by (carried_in e) (after_uses p (begun_by place m) zs) ≤ sum_by (carried_in e) zs
begun_keeps e p zs place (msgs.Sess s d k) = carried-begins e p zs (record { sess = s; side = d }) place
begun_keeps e p zs place (msgs.Int n) = omega arith
begun_keeps e p zs place (msgs.Bool b) = omega arith
begun_keeps e p zs place (msgs.Text n) = omega arith
begun_keeps e p zs place (msgs.Label l) = omega arith
begun_keeps e p zs place (msgs.More b) = omega arith

begun_at_keeps : (e : EndId) (p : ℕ) (zs : List Session) (ps : List ProtocolAt) (a : Awaits) (m : Msg) → sum_by (carried_in e) (after_uses p (begun_at ps a m) zs) ≤ sum_by (carried_in e) zs
begun_at_keeps e p zs ps (awaits.Session n) m = begun_keeps e p zs (body_named ps n) m
begun_at_keeps e p zs ps (awaits.Value k) m = omega arith
begun_at_keeps e p zs ps awaits.OneOf m = omega arith
begun_at_keeps e p zs ps awaits.MoreOrStop m = omega arith

taking_keeps : (e : EndId) (p : ℕ) (w : World) (g : Program) (d : Change) (f : EndId) (a : Awaits) (o : Option Passed) → next_for w.sessions f ≡ o → option_map (change_by_taking w.protocols g f a) o ≡ Some d → KeepsClaims e p w g d
taking_keeps e p w g d f a None n h = cc
taking_keeps e p w g d f a (Some x) n h =
    cond_keeps e p w g true (change_by_taking w.protocols g f a x) d
    (omega (arith, took_le e g.ends g.todo x.msg, carried-takes e p w.sessions f x n, begun_at_keeps e p (touched p w.sessions (f, takes x.msg)) w.protocols a x.msg)) h

accepting_keeps : (e : EndId) (p : ℕ) (w : World) (g : Program) (d : Change) (q : ℕ) (place : Place) (o : Option ℕ) → option_map (change_by_accepting g q place) o ≡ Some d → KeepsClaims e p w g d
accepting_keeps e p w g d q place None h = cc
accepting_keeps e p w g d q place (Some k) h =
    cond_keeps e p w g true (change_by_accepting g q place k) d
    (omega (arith, bindings_of-bound e g.ends (name_opened g.todo) (record { sess = opened_number q k; side = 1 }), carried-begins e p w.sessions (record { sess = opened_number q k; side = 1 }) place)) h

by_keeps : (e : EndId) (p : ℕ) (w : World) (g : Program) (d : Change) (want : Want) → Frees e g.ends g.todo want → change_by w p g want ≡ Some d → KeepsClaims e p w g d
by_keeps e p w g d wants.Ended f h = cc
by_keeps e p w g d wants.Local f h = cond_keeps e p w g true (plain_change (local_of g) []) d (omega arith) h
by_keeps e p w g d (wants.Send x m) f h =
    cond_keeps e p w g true (plain_change (sent_of g) ((x, sends m) ∷ [])) d
    (omega (arith, sent_le e g.ends g.todo, carried-sends e p w.sessions x m, ap {B = ℕ} one_if f)) h
by_keeps e p w g d (wants.Delegate x y) f h =
    cond_keeps e p w g (nat_lt (end_at w.sessions y).hops 100) (plain_change (sent_of g) ((y, delegates) ∷ (x, sends (session_message y p)) ∷ [])) d
    (omega (arith, f, carried-hands_on e p w.sessions y, carried-sends e p (touched p w.sessions (y, delegates)) x (session_message y p))) h
by_keeps e p w g d (wants.Take x a) f h = taking_keeps e p w g d x a (next_for w.sessions x) refl h
by_keeps e p w g d (wants.Close x) f h = cond_keeps e p w g true (plain_change (closed_of g) []) d (omega (arith, closed_le e g.ends g.todo)) h
by_keeps e p w g d (wants.Request n q) f h =
    let k = length (w.requests p) in
    let place = body_named w.protocols n in
    let first : EndId = record { sess = opened_number p k; side = 0 } in
    let second : EndId = record { sess = opened_number p k; side = 1 } in
    cond_keeps e p w g (nat_lt k 100) (change_by_opening g (opened_number p k) place q) d
    (omega (arith, bindings_of-bound e g.ends (name_opened g.todo) first, carried-begins e p w.sessions first place, carried-begins e p (touched p w.sessions (first, begins place)) second (dual_of place))) h
by_keeps e p w g d (wants.Accept n q) f h = accepting_keeps e p w g d q (body_named w.protocols n) (first_offer p (w.requests q)) h

pub change_keeps : (e : EndId) (p : ℕ) (w : World) (g : Program) (c : Change) → Rests w p g c → KeepsClaims e p w g c
change_keeps e p w g c r = by_keeps e p w g c r.want (want_frees e g r.want r.wants_it) r.by_it

-- an act makes a claim on an end only where it opens the end
pub claims_on-changed : (e : EndId) (w v : World) (p : ℕ) → (a : Doing w p v) → claims_on e (changed_world w p a.change) ≤ claims_on e w + one_if (opens e w p a.change.opening)
claims_on-changed e w v p a =
    omega (
      arith,
      change_keeps e p w a.program a.change (rests_on w p a.program a.change a.made),
      sum_by-altered (λ (g : Program). bindings_of e g.ends) w.parties p (λ g. a.change.program) a.program a.there,
    )

pub doing_fits : (w v : World) (p : ℕ) → (a : Doing w p v) → OpeningFits w p a.change.opening
doing_fits w v p a = opening_fits w p a.program a.change (rests_on w p a.program a.change a.made)

once_after : (w v : World) (p : ℕ) (e : EndId) → IsUnshared w → (a : Doing w p v) → claims_on e (changed_world w p a.change) ≤ 1
once_after w v p e one a =
    elim (cases_Bool (opens e w p a.change.opening)) [
      | inl it ↦ omega (arith, claims_on-changed e w v p a, ap {B = ℕ} one_if it, one.to_come e (opened_was_to_come w p a.change.opening e (doing_fits w v p a) it))
      | inr other ↦ omega (arith, claims_on-changed e w v p a, ap {B = ℕ} one_if other, one.once e)
    ]

to_come_after : (w v : World) (p : ℕ) (e : EndId) → IsUnshared w → (a : Doing w p v) → IsToCome (changed_world w p a.change) e → claims_on e (changed_world w p a.change) ≡ 0
to_come_after w v p e one a h =
    let s = stays_to_come w p a.change e (doing_fits w v p a) one.few h in
    omega (arith, claims_on-changed e w v p a, ap {B = ℕ} one_if s.1, one.to_come e s.0)

pub act_keeps_unshared : (w v : World) (p : ℕ) → IsUnshared w → act_of w p ≡ Some v → IsUnshared v
act_keeps_unshared w v p one h =
    let a = doing_of w p v h in
    subst IsUnshared a.result
    (record {
      once = λ e. once_after w v p e one a;
      to_come = λ e t. to_come_after w v p e one a t;
      few = λ q. requests_stay_few w p a.change.opening q (doing_fits w v p a) (one.few q);
    })

-- an act claims no end that isn't to come
pub claims_on-act : (w v : World) (p : ℕ) (e : EndId) → (IsToCome w e → ⊥) → act_of w p ≡ Some v → claims_on e v ≤ claims_on e w
claims_on-act w v p e here h =
    let a = doing_of w p v h in
    subst (λ (t : World). claims_on e t ≤ claims_on e w) a.result
    (omega (arith, claims_on-changed e w v p a, ap {B = ℕ} one_if (false_from_ne_true (opens e w p a.change.opening) (λ t. here (opened_was_to_come w p a.change.opening e (doing_fits w v p a) t)))))

-- what is to come in the world after an act was to come before
pub come_before : (w v : World) (p : ℕ) (e : EndId) → IsUnshared w → act_of w p ≡ Some v → IsToCome v e → IsToCome w e
come_before w v p e one h t =
    let a = doing_of w p v h in
    (stays_to_come w p a.change e (doing_fits w v p a) one.few (subst (λ (u : World). IsToCome u e) (sym a.result) t)).0
