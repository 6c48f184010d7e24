-- Where the core does an act, the plain world does.
use Rattle.std.proofs.Common.{◌≡◌, ℕ, ◌+◌, ◌<◌, nat_lt, Bool, true, false, ◌&&◌, cond, List, [], ◌∷◌, ◌++◌, slice_get, Option, Some, None, option_map, refl, ap, sym, subst, ◌∙◌}
use Rattle.std.specs.Bool.{⊤}
use Rattle.sj_base.specs.declared.EndId.{EndId}
use Rattle.sj_base.specs.declared.Msg.{Msg}
use Rattle.sj_base.specs.declared.Msg.TheVariants as msgs
use Rattle.sj_lang.specs.declared.proto.Way.TheVariants.{Out, Into}
use Rattle.sj_rules.specs.Record.{HeldAt, MainAt, Held, Closed, Expected, Parked, is_same_end}
use Rattle.sj_rules.specs.Limits.{limit_of_requests}
use Rattle.sj_rules.specs.Opened.{smallest}
use Rattle.sj_rules.specs.Rows.{Worked}
use Rattle.sj_rules.specs.Node.{Want, ended, local, sends, delegates, takes, closes, requests, accepts, Play, accept_offered, NodeAt, with_main, with_old, put, is_free, send_act, delegate_act, take_act, take_from, act_by, acts, work_of_take, held_behind_take}
use Rattle.sj_rules.specs.PlainSide.{PlainAt}
use Rattle.sj_rules.specs.Linked.{waiting_at}
use Rattle.sj_rules.specs.Moves.{plain_sends, plain_delegates, plain_takes, plain_names, plain_takes_head, plain_accepts, plain_act_by, plain_act}
use Rattle.sj_rules.specs.HeldStands.{HeldStands}
use Rattle.sj_semantics.specs.World.{session_message}

-- an option that has something
pub record Has {X : Type 0} (o : Option X) : Type 0 where
  pub some : X
  pub is : o ≡ Some some

pub has_map : {X Y : Type 0} (f : X → Y) (o : Option X) → Has o → Has (option_map f o)
has_map f o h = record { some = f h.some; is = ap (option_map f) h.is }

pub map_has : {X Y : Type 0} (f : X → Y) (o : Option X) (y : Y) → option_map f o ≡ Some y → Has o
map_has f None y h = cc
map_has f (Some x) y h = record { some = x; is = refl }

pub has_by : {X : Type 0} (o q : Option X) → o ≡ q → Has q → Has o
has_by o q h s = record { some = s.some; is = h ∙ s.is }

module _ {P Q : Type 0} (play : Play P Q) (plain : PlainAt P Q) (p : ℕ) (n : NodeAt P Q)
    (stands : (e : EndId) (h : HeldAt P) → e.side < 2 → (plain.sides e).offered ≡ false → n.main e ≡ Some (Held h) → HeldStands plain e h)
    (counted : n.requests ≡ plain.requests p) (offered : (from : ℕ) → (rest : List ℕ) × (n.offers from ++ rest ≡ plain.offers from p)) where
  -- an end of sides 0 and 1 that was accepted
  abbrev pub IsThere : EndId → Type 0
  IsThere e = (e.side < 2) × ((plain.sides e).offered ≡ false)

  abbrev pub StepSides : Want P → Type 0
  StepSides ended = ⊤
  StepSides local = ⊤
  StepSides (sends e m) = IsThere e
  StepSides (delegates carrier e) = IsThere carrier × IsThere e
  StepSides (takes e place) = IsThere e
  StepSides (closes e) = IsThere e
  StepSides (requests place to) = ⊤
  StepSides (accepts place from) = ⊤

  -- what is sent on a Held end leads on in the plain world
  send_has : (n' : NodeAt P Q) (e : EndId) (m : Msg) (o : Option (MainAt P)) (w : Worked P (NodeAt P Q)) → ((h : HeldAt P) → o ≡ Some (Held h) → h.end.place ≡ (plain.sides e).place)
      → send_act play n' e m o ≡ Some w → Has (play.next (plain.sides e).place Out m)
  send_has n' e m None w place acted = cc
  send_has n' e m (Some (Closed c)) w place acted = cc
  send_has n' e m (Some (Expected keeper q deferred)) w place acted = cc
  send_has n' e m (Some (Held h)) w place acted =
      has_by (play.next (plain.sides e).place Out m) (play.next h.end.place Out m) (ap (λ q. play.next q Out m) (sym (place h refl)))
      (map_has _ (play.next h.end.place Out m) w acted)

  put_held : (e c : EndId) (h : HeldAt P) → put e None n.main c ≡ Some (Held h) → n.main c ≡ Some (Held h)
  put_held e c h k = by (is_same_end c e) k
    where
      by : (b : Bool) → cond b None (n.main c) ≡ Some (Held h) → n.main c ≡ Some (Held h)
      by true t = cc
      by false t = t

  delegate_has : (carrier e : EndId) → IsThere carrier → IsThere e → (o : Option (MainAt P)) → n.main e ≡ o → (w : Worked P (NodeAt P Q))
      → delegate_act play p n carrier e o ≡ Some w → Has (plain_act_by play plain p (delegates carrier e))
  delegate_has carrier e lt lt' None there w acted = cc
  delegate_has carrier e lt lt' (Some (Closed c)) there w acted = cc
  delegate_has carrier e lt lt' (Some (Expected keeper q deferred)) there w acted = cc
  delegate_has carrier e lt lt' (Some (Held h)) there w acted = by (nat_lt h.end.hops 100) refl acted
    where
      by : (b : Bool) → nat_lt h.end.hops 100 ≡ b
          → cond b (send_act play (with_main e None (with_old e (Some (Parked (record h.end { hops = h.end.hops + 1 }))) n)) carrier (msgs.Sess e.sess e.side p) (put e None n.main carrier)) None ≡ Some w
          → Has (plain_act_by play plain p (delegates carrier e))
      by true few k =
          let next = send_has (with_main e None (with_old e (Some (Parked (record h.end { hops = h.end.hops + 1 }))) n)) carrier (msgs.Sess e.sess e.side p) (put e None n.main carrier) w
          (λ c at. (stands carrier c lt.0 lt.1 (put_held e carrier c at)).place) k in
          has_by (plain_act_by play plain p (delegates carrier e)) (option_map (λ place. plain_delegates play p carrier e place plain) (play.next (plain.sides carrier).place Out (session_message e p)))
          (ap (λ (x : ℕ). cond (nat_lt x 100) (option_map (λ place. plain_delegates play p carrier e place plain) (play.next (plain.sides carrier).place Out (session_message e p))) None) (sym (stands e h lt'.0 lt'.1 there).hops)
          ∙ ap (λ (b : Bool). cond b (option_map (λ place. plain_delegates play p carrier e place plain) (play.next (plain.sides carrier).place Out (session_message e p))) None) few)
          (has_map (λ place. plain_delegates play p carrier e place plain) (play.next (plain.sides carrier).place Out (session_message e p)) next)
      by false few k = cc

  head_waits : (e : EndId) (h : HeldAt P) (m : Msg) (ms : List Msg) → IsThere e → n.main e ≡ Some (Held h) → h.untaken ≡ m ∷ ms → waiting_at plain e 0 ≡ Some m
  head_waits e h m ms lt there head = let s = stands e h lt.0 lt.1 there in ap (λ xs. slice_get xs 0) (s.waits ∙ ap (λ t. t ++ s.rest) head)

  take_has : (e : EndId) (place : P) → IsThere e → (o : Option (MainAt P)) → n.main e ≡ o → (w : Worked P (NodeAt P Q)) → take_act play n e place o ≡ Some w
      → Has (plain_takes_head play p e place plain (waiting_at plain e 0))
  take_has e place lt None there w acted = cc
  take_has e place lt (Some (Closed c)) there w acted = cc
  take_has e place lt (Some (Expected keeper q deferred)) there w acted = cc
  take_has e place lt (Some (Held h)) there w acted = by h.untaken refl acted
    where
      by_test : (m : Msg) (ms : List Msg) (b : Bool) → h.untaken ≡ m ∷ ms
          → cond b (option_map (λ after. work_of_take place m (with_main e (Some (Held (held_behind_take h ms after))) (record n { program = play.goes n.program (Some m) }))) (play.next h.end.place Into m)) None ≡ Some w
          → Has (plain_takes_head play p e place plain (waiting_at plain e 0))
      by_test m ms true head k =
          has_by (plain_takes_head play p e place plain (waiting_at plain e 0)) (option_map (λ q. plain_names place m (plain_takes play p e m q plain)) (play.next (plain.sides e).place Into m))
          (ap (plain_takes_head play p e place plain) (head_waits e h m ms lt there head))
          (has_map (λ q. plain_names place m (plain_takes play p e m q plain)) (play.next (plain.sides e).place Into m)
          (has_by (play.next (plain.sides e).place Into m) (play.next h.end.place Into m) (ap (λ q. play.next q Into m) (sym (stands e h lt.0 lt.1 there).place))
          (map_has _ (play.next h.end.place Into m) w k)))
      by_test m ms false head k = cc

      by : (ms : List Msg) → h.untaken ≡ ms → take_from play n e place h ms ≡ Some w → Has (plain_takes_head play p e place plain (waiting_at plain e 0))
      by [] head k = cc
      by (m ∷ ms) head k = by_test m ms (play.fits n.program m && is_free n m) head k

  request_has : (place : P) (to : ℕ) (b : Bool) → nat_lt n.requests limit_of_requests ≡ b → (w : Worked P (NodeAt P Q)) → act_by play p n (requests place to) ≡ Some w → Has (plain_act_by play plain p (requests place to))
  request_has place to true few w acted =
      let below : nat_lt (plain.requests p) limit_of_requests ≡ true = ap (λ k. nat_lt k limit_of_requests) (sym counted) ∙ few in
      rw below (record { some = _; is = refl })
  request_has place to false few w acted = absurd (cc (rw few at acted))

  -- what the node is offered comes first in what was opened to it
  offered_has : (place : P) (from : ℕ) (l rest opened : List ℕ) → l ++ rest ≡ opened → (w : Worked P (NodeAt P Q)) → accept_offered play n place from (smallest l) ≡ Some w → Has (plain_accepts play p place from plain opened)
  offered_has place from [] rest opened all w acted = absurd (cc acted)
  offered_has place from (s ∷ l) rest opened all w acted = subst (λ t. Has (plain_accepts play p place from plain t)) all (record { some = _; is = refl })

  accept_has : (place : P) (from : ℕ) (w : Worked P (NodeAt P Q)) → act_by play p n (accepts place from) ≡ Some w → Has (plain_act_by play plain p (accepts place from))
  accept_has place from w acted = offered_has place from (n.offers from) (offered from).0 (plain.offers from p) (offered from).1 w acted

  act_has : (want : Want P) → StepSides want → (w : Worked P (NodeAt P Q)) → act_by play p n want ≡ Some w → Has (plain_act_by play plain p want)
  act_has ended lt w acted = cc
  act_has local lt w acted = record { some = _; is = refl }
  act_has (sends e m) lt w acted =
      has_map (λ place. plain_sends play p e m place plain) (play.next (plain.sides e).place Out m)
      (send_has n e m (n.main e) w (λ h at. (stands e h lt.0 lt.1 at).place) acted)
  act_has (delegates carrier e) lt w acted = delegate_has carrier e lt.0 lt.1 (n.main e) refl w acted
  act_has (takes e place) lt w acted = take_has e place lt (n.main e) refl w acted
  act_has (closes e) lt w acted = record { some = _; is = refl }
  act_has (requests place to) lt w acted = request_has place to (nat_lt n.requests limit_of_requests) refl w acted
  act_has (accepts place from) lt w acted = accept_has place from w acted

  -- an act of the core is one of the plain world
  pub core_act_is_plain : n.program ≡ plain.programs p → StepSides (play.wants (plain.programs p)) → (w : Worked P (NodeAt P Q)) → acts play p n ≡ Some w → Has (plain_act play plain p)
  core_act_is_plain same lt w acted = by (play.is_worn (plain.programs p)) (ap (λ g. cond (play.is_worn g) None (act_by play p n (play.wants g))) (sym same) ∙ acted)
    where
      by : (b : Bool) → cond b None (act_by play p n (play.wants (plain.programs p))) ≡ Some w → Has (cond b None (plain_act_by play plain p (play.wants (plain.programs p))))
      by true k = cc
      by false k = act_has (play.wants (plain.programs p)) lt w k
