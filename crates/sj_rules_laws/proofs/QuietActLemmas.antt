-- Where a party's ends are Held with all that waits for them, an act of the plain world is one of
-- the core.
use Rattle.std.proofs.Common.{◌≡◌, ℕ, ◌+◌, nat_lt, Bool, true, false, ◌&&◌, cond, if◌then◌else◌, List, [], ◌∷◌, slice_get, Option, Some, None, option_map, refl, ap, sym, subst, ◌∙◌}
use Rattle.std.proofs.lemmas.Bool.{and_from}
use Rattle.sj_base.specs.declared.EndId.{EndId}
use Rattle.sj_base.specs.declared.Msg.{Msg}
use Rattle.sj_base.specs.declared.Msg.TheVariants as msgs
use Rattle.sj_lang.specs.declared.proto.Way.TheVariants.{Out, Into}
use Rattle.sj_rules.specs.Record.{HeldAt, MainAt, Held, Closed, Parked, Fin, other_end, offered_end}
use Rattle.std.specs.Prelude.{Contains}
use Rattle.sj_rules.specs.Limits.{limit_of_requests}
use Rattle.sj_rules.specs.Opened.{opened_number, smallest}
use Rattle.sj_rules.specs.Reading.{AreRising}
use Rattle.sj_opened_lemmas.proofs.OpenKeepLemmas.{contains_first}
use Rattle.sj_opened_lemmas.proofs.AcceptKeepLemmas.{first_smallest}
use Rattle.sj_rules.specs.Rows.{Worked}
use Rattle.sj_rules.specs.Node.{Want, ended, local, sends, delegates, takes, closes, requests, accepts, Play, NodeAt, accept_session, accept_offered, with_main, with_old, put, work_of_take, held_behind_take, is_free, send_act, delegate_act, take_act, take_from, close_act, act_by, acts}
use Rattle.sj_rules.specs.PlainSide.{PlainAt}
use Rattle.sj_rules.specs.Linked.{waiting_at}
use Rattle.sj_rules.specs.Moves.{plain_delegates, plain_takes_head, plain_requests, plain_accepts, plain_act_by, plain_act}
use Rattle.sj_rules.specs.HeldStands.{IsWholeAt}
use Rattle.sj_rules.specs.Premises.{FitsDelegate, FitsTake, FitsClose, FitsStep}
use Rattle.sj_rules_laws.proofs.CoreActLemmas.{Has, has_by, has_map}
use Rattle.sj_semantics.specs.World.{session_message}

-- a list that begins with that message
record Begins (ms : List Msg) (m : Msg) : Type 0 where
  later : List Msg
  split : ms ≡ m ∷ later

begins : (ms : List Msg) (m : Msg) → slice_get ms 0 ≡ Some m → Begins ms m
begins [] m h = cc
begins (k ∷ ks) m h = record { later = ks; split = let it : k ≡ m = cc in ap (λ t. t ∷ ks) it }

module _ {P Q : Type 0} (IsOver : P → Type 0) (play : Play P Q) (binds : Q → EndId → Bool) (plain : PlainAt P Q) (p : ℕ) (n : NodeAt P Q)
    (same : n.program ≡ plain.programs p)
    (whole : (e : EndId) → binds (plain.programs p) e ≡ true → IsWholeAt plain n e)
    (counted : n.requests ≡ plain.requests p) (offers : (from : ℕ) → n.offers from ≡ plain.offers from p)
    (rising : (from : ℕ) → AreRising (plain.offers from p))
    (held_there : (from sess : ℕ) → Contains (plain.offers from p) sess → (h : HeldAt P) × (n.main (offered_end sess) ≡ Some (Held h))) where
  abbrev Acts : Want P → Type 0
  Acts want = Has (act_by play p n want)

  send_does : (n' : NodeAt P Q) (e : EndId) (m : Msg) (o : Option (MainAt P)) (h : HeldAt P) (place : P) → o ≡ Some (Held h) → h.end.place ≡ (plain.sides e).place → play.next (plain.sides e).place Out m ≡ Some place
      → Has (send_act play n' e m o)
  send_does n' e m o h place there at next =
      has_by (send_act play n' e m o) (send_act play n' e m (Some (Held h))) (ap (send_act play n' e m) there)
      (has_map _ (play.next h.end.place Out m) (record { some = place; is = ap (λ q. play.next q Out m) at ∙ next }))

  delegate_does : (carrier e : EndId) → FitsDelegate IsOver play binds plain p (plain.programs p) carrier e → nat_lt (plain.sides e).hops 100 ≡ true → Acts (delegates carrier e)
  delegate_does carrier e fit few =
      let own = whole e fit.handed in
      let on = whole carrier fit.bound in
      let parked : NodeAt P Q = with_main e None (with_old e (Some (Parked (record own.record_of.end { hops = own.record_of.end.hops + 1 }))) n) in
      has_by (delegate_act play p n carrier e (n.main e)) (send_act play parked carrier (msgs.Sess e.sess e.side p) (put e None n.main carrier))
      (ap (delegate_act play p n carrier e) own.there
      ∙ ap (λ (b : Bool). cond b (send_act play parked carrier (msgs.Sess e.sess e.side p) (put e None n.main carrier)) None) (ap (λ (k : ℕ). nat_lt k 100) own.hops ∙ few))
      (send_does parked carrier (msgs.Sess e.sess e.side p) (put e None n.main carrier) on.record_of fit.place
      (ap (λ (b : Bool). cond b None (n.main carrier)) fit.apart ∙ on.there) on.place fit.after)

  take_does : (e : EndId) (place : P) (m : Msg) → FitsTake play binds plain (plain.programs p) e place → waiting_at plain e 0 ≡ Some m → Acts (takes e place)
  take_does e place m fit waits =
      let own = whole e fit.bound in
      let head = fit.head m waits in
      let b = begins own.record_of.untaken m (ap (λ ms. slice_get ms 0) (sym own.waits) ∙ waits) in
      let fits : (play.fits n.program m && is_free n m) ≡ true = and_from (play.fits n.program m) (is_free n m) (ap (λ g. play.fits g m) same ∙ head.fits) (own.free m waits) in
      let after = λ (q : P). work_of_take place m (with_main e (Some (Held (held_behind_take own.record_of b.later q))) (record n { program = play.goes n.program (Some m) })) in
      has_by (take_act play n e place (n.main e)) (option_map after (play.next own.record_of.end.place Into m))
      (ap (take_act play n e place) own.there
      ∙ ap (take_from play n e place own.record_of) b.split
      ∙ ap (λ (t : Bool). cond t (option_map after (play.next own.record_of.end.place Into m)) None) fits)
      (has_map after (play.next own.record_of.end.place Into m) (record { some = head.place; is = ap (λ q. play.next q Into m) own.place ∙ head.after }))

  close_does : (e : EndId) → FitsClose IsOver play binds plain (plain.programs p) e → Acts (closes e)
  close_does e fit =
      let own = whole e fit.bound in
      let closed : NodeAt P Q = with_main e (if own.record_of.fin then None else Some (Closed own.record_of.end)) (record n { program = play.goes n.program None }) in
      let done : Worked P (NodeAt P Q) = record { state = closed; posts = record { party = own.record_of.end.peer; body = Fin (other_end own.record_of.end.id) own.record_of.end.conn own.record_of.end.sent } ∷ [] } in
      has_by (close_act play n e (n.main e)) (Some done)
      (ap (close_act play n e) own.there ∙ ap (λ (b : Bool). cond b (Some done) None) (ap play.is_over own.place ∙ fit.is_over))
      (record { some = done; is = refl })

  request_does : (place : P) (to : ℕ) → nat_lt (plain.requests p) limit_of_requests ≡ true → Acts (requests place to)
  request_does place to few =
      let here : nat_lt n.requests limit_of_requests ≡ true = ap (λ k. nat_lt k limit_of_requests) counted ∙ few in
      rw here (record { some = _; is = refl })

  accept_does : (place : P) (from sess : ℕ) (later : List ℕ) → plain.offers from p ≡ sess ∷ later → Acts (accepts place from)
  accept_does place from sess later first =
      let at : smallest (n.offers from) ≡ Some sess = ap smallest (offers from ∙ first) ∙ ap Some (first_smallest sess later (subst AreRising first (rising from)).0) in
      let h = held_there from sess (subst (λ l. Contains l sess) (sym first) (contains_first sess later)) in
      has_by (act_by play p n (accepts place from)) (accept_session play n place from sess (Some (Held h.0)))
      (ap (accept_offered play n place from) at ∙ ap (accept_session play n place from sess) h.1) (record { some = _; is = refl })

  does : (want : Want P) → FitsStep IsOver play binds plain p (plain.programs p) want → (v : PlainAt P Q) → plain_act_by play plain p want ≡ Some v → Acts want
  does ended fit v acted = cc
  does local fit v acted = record { some = _; is = refl }
  does (sends e m) fit v acted = let own = whole e fit.bound in send_does n e m (n.main e) own.record_of fit.place own.there own.place fit.after
  does (delegates carrier e) fit v acted = by (nat_lt (plain.sides e).hops 100) refl acted
    where
      by : (b : Bool) → nat_lt (plain.sides e).hops 100 ≡ b
          → cond b (option_map (λ place. plain_delegates play p carrier e place plain) (play.next (plain.sides carrier).place Out (session_message e p))) None ≡ Some v → Acts (delegates carrier e)
      by true few k = delegate_does carrier e fit few
      by false few k = cc
  does (takes e place) fit v acted = by (waiting_at plain e 0) refl acted
    where
      by : (o : Option Msg) → waiting_at plain e 0 ≡ o → plain_takes_head play p e place plain o ≡ Some v → Acts (takes e place)
      by None waits k = cc
      by (Some m) waits k = take_does e place m fit waits
  does (closes e) fit v acted = close_does e fit
  does (requests place to) fit v acted = by (nat_lt (plain.requests p) limit_of_requests) refl acted
    where
      by : (b : Bool) → nat_lt (plain.requests p) limit_of_requests ≡ b → cond b (Some (plain_requests play p place to (opened_number p (plain.requests p)) plain)) None ≡ Some v → Acts (requests place to)
      by true few k = request_does place to few
      by false few k = cc
  does (accepts place from) fit v acted = by (plain.offers from p) refl acted
    where
      by : (l : List ℕ) → plain.offers from p ≡ l → plain_accepts play p place from plain l ≡ Some v → Acts (accepts place from)
      by [] first k = cc
      by (sess ∷ later) first k = accept_does place from sess later first

  -- a plain act is an act of the core
  pub plain_act_is_core : FitsStep IsOver play binds plain p (plain.programs p) (play.wants (plain.programs p)) → (v : PlainAt P Q) → plain_act play plain p ≡ Some v → Has (acts play p n)
  plain_act_is_core fit v acted =
      has_by (acts play p n) (cond (play.is_worn (plain.programs p)) None (act_by play p n (play.wants (plain.programs p))))
      (ap (λ g. cond (play.is_worn g) None (act_by play p n (play.wants g))) same) (by (play.is_worn (plain.programs p)) acted)
    where
      by : (b : Bool) → cond b None (plain_act_by play plain p (play.wants (plain.programs p))) ≡ Some v → Has (cond b None (act_by play p n (play.wants (plain.programs p))))
      by true k = cc
      by false k = does (play.wants (plain.programs p)) fit v k

  -- where the core does nothing, the plain world does nothing
  pub no_core_act_no_plain_act : FitsStep IsOver play binds plain p (plain.programs p) (play.wants (plain.programs p)) → acts play p n ≡ None → plain_act play plain p ≡ None
  no_core_act_no_plain_act fit none = by (plain_act play plain p) refl
    where
      by : (o : Option (PlainAt P Q)) → plain_act play plain p ≡ o → plain_act play plain p ≡ None
      by None h = h
      by (Some v) h = let d = plain_act_is_core fit v h in let clash : None ≡ Some d.some = sym none ∙ d.is in cc
