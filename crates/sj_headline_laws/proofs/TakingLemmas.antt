-- What an act takes is the next message of its end.
use Rattle.std.proofs.Common.{◌≡◌, ℕ, zero, suc, nat_lt, length, Bool, true, false, cond, List, [], ◌∷◌, slice_get, Option, Some, None, option_map, option_and_then, refl, ap, sym, ◌∙◌, subst}
use Rattle.sj_base.specs.declared.EndId.{EndId}
use Rattle.sj_base.specs.declared.Msg.{Msg}
use Rattle.sj_base.specs.declared.Msg.TheVariants as msgs
use Rattle.sj_lang.specs.Place.{Place}
use Rattle.sj_lang.specs.Dual.{dual_of}
use Rattle.sj_lang.specs.FileAt.{ProtocolAt, body_named}
use Rattle.sj_semantics.specs.declared.Awaits.{Awaits}
use Rattle.sj_semantics.specs.declared.Awaits.TheVariants as awaits
use Rattle.sj_semantics.specs.Requests.{first_offer, limit_of_requests, opened_number}
use Rattle.sj_semantics.specs.declared.Passed.{Passed}
use Rattle.sj_semantics.specs.declared.Want.{Want}
use Rattle.sj_semantics.specs.declared.Want.TheVariants as wants
use Rattle.sj_semantics.specs.Ends.{Session, end_at, next_for, limit_of_hops}
use Rattle.sj_semantics.specs.Program.{Program}
use Rattle.sj_semantics.specs.World.{World, Change, plain_change, session_message, begun_at, change_by_taking, change_by_opening, change_by_accepting, change_by, change_of_program}
use Rattle.sj_semantics.specs.Steps.{local_of, sent_of, closed_of}
use Rattle.sj_semantics.specs.Uses.{Use, sends, takes, delegates, begins}
use Rattle.sj_semantics_laws.proofs.ChangeLemmas.{rests_on}

abbrev pub TakesNext : List Session → List (EndId × Use) → Type 0
TakesNext zs us = (n : ℕ) (e : EndId) (m : Msg) → slice_get us n ≡ Some (e, takes m) → (x : Passed) × (next_for zs e ≡ Some x) × (x.msg ≡ m)

no_takes : (zs : List Session) → TakesNext zs []
no_takes zs n e m h = cc

sends_takes : (zs : List Session) (f : EndId) (k : Msg) (us : List (EndId × Use)) → TakesNext zs us → TakesNext zs ((f, sends k) ∷ us)
sends_takes zs f k us rest zero e m h =
    let both : ◌≡◌ {A = EndId × Use} (f, sends k) (e, takes m) = cc in
    let uses : sends k ≡ takes m = ap (λ (u : EndId × Use). u.1) both in cc
sends_takes zs f k us rest (suc n) e m h = rest n e m h

hands_takes : (zs : List Session) (f : EndId) (us : List (EndId × Use)) → TakesNext zs us → TakesNext zs ((f, delegates) ∷ us)
hands_takes zs f us rest zero e m h =
    let both : ◌≡◌ {A = EndId × Use} (f, delegates) (e, takes m) = cc in
    let uses : delegates ≡ takes m = ap (λ (u : EndId × Use). u.1) both in cc
hands_takes zs f us rest (suc n) e m h = rest n e m h

begins_takes : (zs : List Session) (f : EndId) (place : Place) (us : List (EndId × Use)) → TakesNext zs us → TakesNext zs ((f, begins place) ∷ us)
begins_takes zs f place us rest zero e m h =
    let both : ◌≡◌ {A = EndId × Use} (f, begins place) (e, takes m) = cc in
    let uses : begins place ≡ takes m = ap (λ (u : EndId × Use). u.1) both in cc
begins_takes zs f place us rest (suc n) e m h = rest n e m h

begun_takes : (zs : List Session) (ps : List ProtocolAt) (a : Awaits) (m : Msg) → TakesNext zs (begun_at ps a m)
begun_takes zs ps (awaits.Session q) (msgs.Sess s d k) = begins_takes zs (record { sess = s; side = d }) _ [] (no_takes zs)
begun_takes zs ps a m = no_takes zs

taking_takes : (zs : List Session) (f : EndId) (x : Passed) (us : List (EndId × Use)) → next_for zs f ≡ Some x → TakesNext zs us → TakesNext zs ((f, takes x.msg) ∷ us)
taking_takes zs f x us next rest zero e m h =
    let both : ◌≡◌ {A = EndId × Use} (f, takes x.msg) (e, takes m) = cc in
    let same_end : f ≡ e = ap (λ (u : EndId × Use). u.0) both in
    let uses : takes x.msg ≡ takes m = ap (λ (u : EndId × Use). u.1) both in
    let same_message : x.msg ≡ m = cc in
    (x, ap (next_for zs) (sym same_end) ∙ next, same_message)
taking_takes zs f x us next rest (suc n) e m h = rest n e m h

takes_if : (zs : List Session) (b : Bool) (c d : Change) → TakesNext zs c.uses → cond b (Some c) None ≡ Some d → TakesNext zs d.uses
takes_if zs true c d t h = subst (λ (k : Change). TakesNext zs k.uses) (let it : c ≡ d = cc in it) t
takes_if zs false c d t h = cc

takes_option : (zs : List Session) (ps : List ProtocolAt) (g : Program) (f : EndId) (a : Awaits) (c : Change) (o : Option Passed) → next_for zs f ≡ o → option_map (change_by_taking ps g f a) o ≡ Some c → TakesNext zs c.uses
takes_option zs ps g f a c None n h = cc
takes_option zs ps g f a c (Some x) n h = takes_if zs true (change_by_taking ps g f a x) c (taking_takes zs f x (begun_at ps a x.msg) n (begun_takes zs ps a x.msg)) h

accepts_none : (zs : List Session) (g : Program) (q : ℕ) (place : Place) (c : Change) (o : Option ℕ) → option_map (change_by_accepting g q place) o ≡ Some c → TakesNext zs c.uses
accepts_none zs g q place c None h = cc
accepts_none zs g q place c (Some k) h = takes_if zs true (change_by_accepting g q place k) c (begins_takes zs (record { sess = opened_number q k; side = 1 }) place [] (no_takes zs)) h

takes_next : (w : World) (p : ℕ) (g : Program) (c : Change) (want : Want) → change_by w p g want ≡ Some c → TakesNext w.sessions c.uses
takes_next w p g c wants.Ended h = cc
takes_next w p g c wants.Local h = takes_if w.sessions true (plain_change (local_of g) []) c (no_takes w.sessions) h
takes_next w p g c (wants.Send f m) h = takes_if w.sessions true (plain_change (sent_of g) ((f, sends m) ∷ [])) c (sends_takes w.sessions f m [] (no_takes w.sessions)) h
takes_next w p g c (wants.Delegate f y) h =
    takes_if w.sessions (nat_lt (end_at w.sessions y).hops limit_of_hops) (plain_change (sent_of g) ((y, delegates) ∷ (f, sends (session_message y p)) ∷ [])) c
    (hands_takes w.sessions y ((f, sends (session_message y p)) ∷ []) (sends_takes w.sessions f (session_message y p) [] (no_takes w.sessions))) h
takes_next w p g c (wants.Take f a) h = takes_option w.sessions w.protocols g f a c (next_for w.sessions f) refl h
takes_next w p g c (wants.Close f) h = takes_if w.sessions true (plain_change (closed_of g) []) c (no_takes w.sessions) h
takes_next w p g c (wants.Request n q) h =
    let s : ℕ = opened_number p (length (w.requests p)) in
    let place : Place = body_named w.protocols n in
    takes_if w.sessions (nat_lt (length (w.requests p)) limit_of_requests) (change_by_opening g s place q) c
    (begins_takes w.sessions (record { sess = s; side = 0 }) place ((record { sess = s; side = 1 }, begins (dual_of place)) ∷ [])
    (begins_takes w.sessions (record { sess = s; side = 1 }) (dual_of place) [] (no_takes w.sessions))) h
takes_next w p g c (wants.Accept n q) h = accepts_none w.sessions g q (body_named w.protocols n) c (first_offer p (w.requests q)) h

pub change_takes_next : (w : World) (p : ℕ) (c : Change) (o : Option Program) → option_and_then (change_of_program w p) o ≡ Some c → TakesNext w.sessions c.uses
change_takes_next w p c None h = cc
change_takes_next w p c (Some g) h = let r = rests_on w p g c h in takes_next w p g c r.want r.by_it
