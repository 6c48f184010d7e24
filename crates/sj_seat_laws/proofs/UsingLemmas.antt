-- What a call takes is next, the ends that it uses are held, and why the code makes no call.
use Rattle.std.proofs.Common.{◌≡◌, ℕ, zero, suc, nat_lt, Bool, true, false, not, ◌&&◌, cond, List, [], ◌∷◌, length, slice_get, Option, Some, None, option_map, refl, ap, sym, ◌∙◌, subst}
use Rattle.std.specs.Bool.{⊤}
use Rattle.std.proofs.lemmas.Bool.{ltb-false}
use Rattle.sj_base.specs.declared.EndId.{EndId}
use Rattle.sj_base.specs.declared.Msg.{Msg}
use Rattle.sj_base.specs.declared.Msg.TheVariants as msgs
use Rattle.sj_lang.specs.Dual.{dual_of}
use Rattle.sj_lang.specs.ItemCount.{is_done}
use Rattle.sj_lang.specs.Place.{Place}
use Rattle.sj_semantics.specs.declared.Passed.{Passed}
use Rattle.sj_semantics.specs.Ends.{Session, end_at, next_for}
use Rattle.sj_semantics.specs.Requests.{first_offer, limit_of_requests, opened_number}
use Rattle.sj_semantics.specs.Uses.{Use, begins, delegates, sends, takes}
use Rattle.sj_semantics.specs.World.{World, begun_by, session_message}
use Rattle.sj_semantics_laws.specs.Bound.{UseBound, UsesBound}
use Rattle.sj_headline_laws.proofs.TakingLemmas.{TakesNext}
use Rattle.sj_headline_laws.proofs.TouchedLemmas.{side}
use Rattle.sj_rules.specs.Node as wanted
use Rattle.sj_rules.specs.Node.{Want}
use Rattle.sj_rules.specs.Record.{is_same_end}
use Rattle.sj_seat_laws.specs.Calls as calls
use Rattle.sj_seat_laws.specs.Calls.{Call, Ends, place_held, place_opened}
use Rattle.sj_seat_laws.specs.Guards.{carried_next, may_carry, may_send, may_take, seated_want, want_of_accept, want_of_calls, want_of_close, want_of_delegate, want_of_request, want_of_send, want_of_take, where_allowed}
use Rattle.sj_seat_laws.specs.Resting.{IsResting, handed_enough, left, no_offer, requested_enough, unguarded, waits, worn}
use Rattle.sj_seat_laws.specs.SeatedWorld.{Doing, SeatedWorld, accepting, doing_by, doing_of, plain_doing, requesting}

-- ---- what is taken is next

cons_next : (zs : List Session) (u : EndId × Use) (us : List (EndId × Use)) → ((e : EndId) (m : Msg) → u ≡ (e, takes m) → (x : Passed) × (next_for zs e ≡ Some x) × (x.msg ≡ m)) → TakesNext zs us → TakesNext zs (u ∷ us)
cons_next zs u us head rest zero e m h = head e m (let it : u ≡ (e, takes m) = cc in it)
cons_next zs u us head rest (suc n) e m h = rest n e m h

nil_next : (zs : List Session) → TakesNext zs []
nil_next zs n e m h = cc

begun_next : (zs : List Session) (place : Place) (m : Msg) → TakesNext zs (begun_by place m)
begun_next zs place (msgs.Sess s d k) = cons_next zs (side s d, begins place) [] (λ e m h. let it : begins place ≡ takes m = ap (λ (u : EndId × Use). u.1) h in absurd (cc it)) (nil_next zs)
begun_next zs place m = nil_next zs

module _ (p : ℕ) (w : World) where
  pub doing_next : (want : Want Place) (d : Doing) → doing_by p w want ≡ Some d → TakesNext w.sessions d.uses
  doing_next wanted.ended d h = λ n e m t. absurd (cc h)
  doing_next wanted.local d h = λ n e m t. absurd (cc h)
  doing_next (wanted.requests place to) d h = by (nat_lt (length (w.requests p)) limit_of_requests) h
    where
      by : (b : Bool) → cond b (Some (requesting (opened_number p (length (w.requests p))) place to)) None ≡ Some d → TakesNext w.sessions d.uses
      by true k =
          let num : ℕ = opened_number p (length (w.requests p)) in
          subst (λ (x : Doing). TakesNext w.sessions x.uses) (let it : requesting num place to ≡ d = cc in it)
          (cons_next w.sessions (side num 0, begins place) ((side num 1, begins (dual_of place)) ∷ []) (λ e m t. let it : begins place ≡ takes m = ap (λ (u : EndId × Use). u.1) t in absurd (cc it))
          (cons_next w.sessions (side num 1, begins (dual_of place)) [] (λ e m t. let it : begins (dual_of place) ≡ takes m = ap (λ (u : EndId × Use). u.1) t in absurd (cc it)) (nil_next w.sessions)))
      by false k = λ n e m t. absurd (cc k)
  doing_next (wanted.accepts place from) d h = by (first_offer p (w.requests from)) h
    where
      by : (o : Option ℕ) → option_map (accepting from place) o ≡ Some d → TakesNext w.sessions d.uses
      by None k = λ n e m t. absurd (cc k)
      by (Some j) k =
          subst (λ (x : Doing). TakesNext w.sessions x.uses) (let it : accepting from place j ≡ d = cc in it)
          (cons_next w.sessions (side (opened_number from j) 1, begins place) [] (λ e m t. let it : begins place ≡ takes m = ap (λ (u : EndId × Use). u.1) t in absurd (cc it)) (nil_next w.sessions))
  doing_next (wanted.sends f k) d h =
      subst (λ (x : Doing). TakesNext w.sessions x.uses) (let it : plain_doing None ((f, sends k) ∷ []) ≡ d = cc in it)
      (cons_next w.sessions (f, sends k) [] (λ e m t. let it : sends k ≡ takes m = ap (λ (u : EndId × Use). u.1) t in absurd (cc it)) (nil_next w.sessions))
  doing_next (wanted.delegates c f) d h = by (nat_lt (end_at w.sessions f).hops 100) h
    where
      by : (b : Bool) → cond b (Some (plain_doing None ((f, delegates) ∷ (c, sends (session_message f p)) ∷ []))) None ≡ Some d → TakesNext w.sessions d.uses
      by true k =
          subst (λ (x : Doing). TakesNext w.sessions x.uses) (let it : plain_doing None ((f, delegates) ∷ (c, sends (session_message f p)) ∷ []) ≡ d = cc in it)
          (cons_next w.sessions (f, delegates) ((c, sends (session_message f p)) ∷ []) (λ e m t. let it : delegates ≡ takes m = ap (λ (u : EndId × Use). u.1) t in absurd (cc it))
          (cons_next w.sessions (c, sends (session_message f p)) [] (λ e m t. let it : sends (session_message f p) ≡ takes m = ap (λ (u : EndId × Use). u.1) t in absurd (cc it)) (nil_next w.sessions)))
      by false k = λ n e m t. absurd (cc k)
  doing_next (wanted.takes f place) d h = by (next_for w.sessions f) refl h
    where
      by : (o : Option Passed) → next_for w.sessions f ≡ o → option_map (λ (x : Passed). plain_doing (Some x.msg) ((f, takes x.msg) ∷ begun_by place x.msg)) o ≡ Some d → TakesNext w.sessions d.uses
      by None next k = λ n e m t. absurd (cc k)
      by (Some x) next k =
          subst (λ (y : Doing). TakesNext w.sessions y.uses) (let it : plain_doing (Some x.msg) ((f, takes x.msg) ∷ begun_by place x.msg) ≡ d = cc in it)
          (cons_next w.sessions (f, takes x.msg) (begun_by place x.msg) (λ e m t.
          let same_end : f ≡ e = ap (λ (u : EndId × Use). u.0) t in
          let uses : takes x.msg ≡ takes m = ap (λ (u : EndId × Use). u.1) t in
          let same_message : x.msg ≡ m = cc in
          (x, ap (next_for w.sessions) (sym same_end) ∙ next, same_message)) (begun_next w.sessions place x.msg))
  doing_next (wanted.closes f) d h = subst (λ (x : Doing). TakesNext w.sessions x.uses) (let it : plain_doing None [] ≡ d = cc in it) (nil_next w.sessions)

pub worn_doing : (p : ℕ) (t : SeatedWorld) (d : Doing) (b : Bool) → cond b None (doing_by p t.world (seated_want t.seat)) ≡ Some d → doing_by p t.world (seated_want t.seat) ≡ Some d
worn_doing p t d true h = cc
worn_doing p t d false h = h

-- ---- what is used is the party's

pub use_at : (ends : List (ℕ × EndId)) (us : List (EndId × Use)) (i : ℕ) (e : EndId) (u : Use) → UsesBound ends us → slice_get us i ≡ Some (e, u) → UseBound ends e u
use_at ends [] i e u b h = absurd (cc h)
use_at ends (v ∷ us) zero e u b h = let it : v ≡ (e, u) = cc in subst (λ (x : EndId × Use). UseBound ends x.0 x.1) it b.0
use_at ends (v ∷ us) (suc i) e u b h = use_at ends us i e u b.1 h

-- an end that is used is held, unless the use is its beginning
abbrev pub IsHeldUse : Ends → EndId → Use → Type 0
IsHeldUse bs e (sends m) = (place : Place) × (place_held bs e ≡ Some place)
IsHeldUse bs e (takes m) = (place : Place) × (place_held bs e ≡ Some place)
IsHeldUse bs e delegates = (place : Place) × (place_held bs e ≡ Some place)
IsHeldUse bs e (begins place) = ⊤

module _ (p : ℕ) (t : SeatedWorld) where
  abbrev w : World
  w = t.world

  abbrev bs : Ends
  bs = t.seat.ends

  abbrev Owns : List (EndId × Use) → Type 0
  Owns us = (i : ℕ) (e : EndId) (u : Use) → slice_get us i ≡ Some (e, u) → IsHeldUse bs e u

  cons_own : (f : EndId) (v : Use) (us : List (EndId × Use)) → IsHeldUse bs f v → Owns us → Owns ((f, v) ∷ us)
  cons_own f v us head rest zero e u h = let it : ◌≡◌ {A = EndId × Use} (f, v) (e, u) = cc in subst (λ (x : EndId × Use). IsHeldUse bs x.0 x.1) it head
  cons_own f v us head rest (suc i) e u h = rest i e u h

  nil_own : Owns []
  nil_own i e u h = absurd (cc h)

  begun_own : (place : Place) (m : Msg) → Owns (begun_by place m)
  begun_own place (msgs.Sess s d k) = cons_own (side s d) (begins place) [] tt nil_own
  begun_own place m = nil_own

  has : (e : EndId) (q : Place) → place_held bs e ≡ Some q → (place : Place) × (place_held bs e ≡ Some place)
  has e q there = (q, there)

  send_own : (e : EndId) (m : Msg) (d : Doing) (o : Option Place) → place_held bs e ≡ o → doing_by p w (want_of_send e m o) ≡ Some d → Owns d.uses
  send_own e m d None there h = λ i f u k. absurd (cc h)
  send_own e m d (Some q) there h = by (may_send q m) h
    where
      by : (b : Bool) → doing_by p w (where_allowed b (wanted.sends e m)) ≡ Some d → Owns d.uses
      by true k = subst (λ (x : Doing). Owns x.uses) (let it : plain_doing None ((e, sends m) ∷ []) ≡ d = cc in it) (cons_own e (sends m) [] (has e q there) nil_own)
      by false k = λ i f u l. absurd (cc k)

  delegate_own : (c e : EndId) (d : Doing) (o r : Option Place) → place_held bs c ≡ o → place_held bs e ≡ r → doing_by p w (want_of_delegate c e o r) ≡ Some d → Owns d.uses
  delegate_own c e d None r there own_there h = λ i f u k. absurd (cc h)
  delegate_own c e d (Some q) None there own_there h = λ i f u k. absurd (cc h)
  delegate_own c e d (Some q) (Some r) there own_there h = by (not (is_same_end c e) && may_carry q r) (nat_lt (end_at w.sessions e).hops 100) refl h
    where
      by : (b a : Bool) → nat_lt (end_at w.sessions e).hops 100 ≡ a → doing_by p w (where_allowed b (wanted.delegates c e)) ≡ Some d → Owns d.uses
      by false a is k = λ i f u l. absurd (cc k)
      by true true is k =
          let made : Some (plain_doing None ((e, delegates) ∷ (c, sends (session_message e p)) ∷ [])) ≡ Some d =
          sym (ap (λ (b : Bool). cond b (Some (plain_doing None ((e, delegates) ∷ (c, sends (session_message e p)) ∷ []))) None) is) ∙ k in
          subst (λ (x : Doing). Owns x.uses) (let it : plain_doing None ((e, delegates) ∷ (c, sends (session_message e p)) ∷ []) ≡ d = cc in it)
          (cons_own e delegates ((c, sends (session_message e p)) ∷ []) (has e r own_there) (cons_own c (sends (session_message e p)) [] (has c q there) nil_own))
      by true false is k =
          let none : None ≡ Some d = sym (ap (λ (b : Bool). cond b (Some (plain_doing None ((e, delegates) ∷ (c, sends (session_message e p)) ∷ []))) None) is) ∙ k in
          λ i f u l. absurd (cc none)

  take_own : (e : EndId) (d : Doing) (o : Option Place) → place_held bs e ≡ o → doing_by p w (want_of_take e o) ≡ Some d → Owns d.uses
  take_own e d None there h = λ i f u k. absurd (cc h)
  take_own e d (Some q) there h = by (may_take q) h
    where
      head : (o : Option Passed) → option_map (λ (x : Passed). plain_doing (Some x.msg) ((e, takes x.msg) ∷ begun_by (carried_next q) x.msg)) o ≡ Some d → Owns d.uses
      head None k = λ i f u l. absurd (cc k)
      head (Some x) k =
          subst (λ (y : Doing). Owns y.uses) (let it : plain_doing (Some x.msg) ((e, takes x.msg) ∷ begun_by (carried_next q) x.msg) ≡ d = cc in it)
          (cons_own e (takes x.msg) (begun_by (carried_next q) x.msg) (has e q there) (begun_own (carried_next q) x.msg))

      by : (b : Bool) → doing_by p w (where_allowed b (wanted.takes e (carried_next q))) ≡ Some d → Owns d.uses
      by true k = head (next_for w.sessions e) k
      by false k = λ i f u l. absurd (cc k)

  close_own : (e : EndId) (d : Doing) (o : Option Place) → doing_by p w (want_of_close e o) ≡ Some d → Owns d.uses
  close_own e d None h = λ i f u k. absurd (cc h)
  close_own e d (Some q) h = by (is_done q) h
    where
      by : (b : Bool) → doing_by p w (where_allowed b (wanted.closes e)) ≡ Some d → Owns d.uses
      by true k = subst (λ (x : Doing). Owns x.uses) (let it : plain_doing None [] ≡ d = cc in it) nil_own
      by false k = λ i f u l. absurd (cc k)

  request_own : (q : ℕ) (d : Doing) (o : Option Place) → doing_by p w (want_of_request q o) ≡ Some d → Owns d.uses
  request_own q d None h = λ i f u k. absurd (cc h)
  request_own q d (Some place) h = by (nat_lt (length (w.requests p)) limit_of_requests) h
    where
      by : (b : Bool) → cond b (Some (requesting (opened_number p (length (w.requests p))) place q)) None ≡ Some d → Owns d.uses
      by true k =
          let num : ℕ = opened_number p (length (w.requests p)) in
          subst (λ (x : Doing). Owns x.uses) (let it : requesting num place q ≡ d = cc in it)
          (cons_own (side num 0) (begins place) ((side num 1, begins (dual_of place)) ∷ []) tt (cons_own (side num 1) (begins (dual_of place)) [] tt nil_own))
      by false k = λ i f u l. absurd (cc k)

  accept_own : (q : ℕ) (d : Doing) (o : Option Place) → doing_by p w (want_of_accept q o) ≡ Some d → Owns d.uses
  accept_own q d None h = λ i f u k. absurd (cc h)
  accept_own q d (Some place) h = by (first_offer p (w.requests q)) h
    where
      by : (o : Option ℕ) → option_map (accepting q place) o ≡ Some d → Owns d.uses
      by None k = λ i f u l. absurd (cc k)
      by (Some j) k = subst (λ (x : Doing). Owns x.uses) (let it : accepting q place j ≡ d = cc in it) (cons_own (side (opened_number q j) 1) (begins place) [] tt nil_own)

  pub calls_own : (cs : List Call) (d : Doing) → doing_by p w (want_of_calls t.seat.may bs cs) ≡ Some d → Owns d.uses
  calls_own [] d h = λ i f u k. absurd (cc h)
  calls_own (calls.sends e m ∷ cs) d h = send_own e m d (place_held bs e) refl h
  calls_own (calls.delegates c e ∷ cs) d h = delegate_own c e d (place_held bs c) (place_held bs e) refl refl h
  calls_own (calls.takes e ∷ cs) d h = take_own e d (place_held bs e) refl h
  calls_own (calls.closes e ∷ cs) d h = close_own e d (place_held bs e) h
  calls_own (calls.requests q n ∷ cs) d h = request_own q d (place_opened t.seat.may.requests q n) h
  calls_own (calls.accepts q n ∷ cs) d h = accept_own q d (place_opened t.seat.may.accepts q n) h

  -- ---- why the code makes no call

  take_rests : (e : EndId) (cs : List Call) → t.seat.calls ≡ calls.takes e ∷ cs → (o : Option Place) → place_held bs e ≡ o → doing_by p w (want_of_take e o) ≡ None → IsResting p t
  take_rests e cs is None there h = unguarded (calls.takes e) cs is (ap (want_of_take e) there)
  take_rests e cs is (Some q) there h = by (may_take q) refl h
    where
      head : (o : Option Passed) → next_for w.sessions e ≡ o → ◌≡◌ {A = Option Doing} (option_map (λ (x : Passed). plain_doing (Some x.msg) ((e, takes x.msg) ∷ begun_by (carried_next q) x.msg)) o) None → IsResting p t
      head None next k = waits e cs is next
      head (Some x) next k = absurd (cc k)

      by : (b : Bool) → may_take q ≡ b → doing_by p w (where_allowed b (wanted.takes e (carried_next q))) ≡ None → IsResting p t
      by true can k = head (next_for w.sessions e) refl k
      by false can k = unguarded (calls.takes e) cs is (ap (want_of_take e) there ∙ ap (λ (b : Bool). where_allowed b (wanted.takes e (carried_next q))) can)

  send_rests : (e : EndId) (m : Msg) (cs : List Call) → t.seat.calls ≡ calls.sends e m ∷ cs → (o : Option Place) → place_held bs e ≡ o → doing_by p w (want_of_send e m o) ≡ None → IsResting p t
  send_rests e m cs is None there h = unguarded (calls.sends e m) cs is (ap (want_of_send e m) there)
  send_rests e m cs is (Some q) there h = by (may_send q m) refl h
    where
      by : (b : Bool) → may_send q m ≡ b → doing_by p w (where_allowed b (wanted.sends e m)) ≡ None → IsResting p t
      by true can k = absurd (cc k)
      by false can k = unguarded (calls.sends e m) cs is (ap (want_of_send e m) there ∙ ap (λ (b : Bool). where_allowed b (wanted.sends e m)) can)

  close_rests : (e : EndId) (cs : List Call) → t.seat.calls ≡ calls.closes e ∷ cs → (o : Option Place) → place_held bs e ≡ o → doing_by p w (want_of_close e o) ≡ None → IsResting p t
  close_rests e cs is None there h = unguarded (calls.closes e) cs is (ap (want_of_close e) there)
  close_rests e cs is (Some q) there h = by (is_done q) refl h
    where
      by : (b : Bool) → is_done q ≡ b → doing_by p w (where_allowed b (wanted.closes e)) ≡ None → IsResting p t
      by true can k = absurd (cc k)
      by false can k = unguarded (calls.closes e) cs is (ap (want_of_close e) there ∙ ap (λ (b : Bool). where_allowed b (wanted.closes e)) can)

  delegate_rests : (c e : EndId) (cs : List Call) → t.seat.calls ≡ calls.delegates c e ∷ cs → (o r : Option Place) → place_held bs c ≡ o → place_held bs e ≡ r → doing_by p w (want_of_delegate c e o r) ≡ None → IsResting p t
  delegate_rests c e cs is None r there own_there h = unguarded (calls.delegates c e) cs is (ap (λ o. want_of_delegate c e o (place_held bs e)) there)
  delegate_rests c e cs is (Some q) None there own_there h =
      unguarded (calls.delegates c e) cs is (ap (λ o. want_of_delegate c e o (place_held bs e)) there ∙ ap (want_of_delegate c e (Some q)) own_there)
  delegate_rests c e cs is (Some q) (Some r) there own_there h = by (not (is_same_end c e) && may_carry q r) refl h
    where
      hop : (a : Bool) → nat_lt (end_at w.sessions e).hops 100 ≡ a
          → ◌≡◌ {A = Option Doing} (cond a (Some (plain_doing None ((e, delegates) ∷ (c, sends (session_message e p)) ∷ []))) None) None → IsResting p t
      hop true few k = absurd (cc k)
      hop false few k = handed_enough c e cs is (ltb-false (end_at w.sessions e).hops 100 few)

      by : (b : Bool) → (not (is_same_end c e) && may_carry q r) ≡ b → doing_by p w (where_allowed b (wanted.delegates c e)) ≡ None → IsResting p t
      by true can k = hop (nat_lt (end_at w.sessions e).hops 100) refl k
      by false can k =
          unguarded (calls.delegates c e) cs is
          (ap (λ o. want_of_delegate c e o (place_held bs e)) there ∙ ap (want_of_delegate c e (Some q)) own_there ∙ ap (λ (b : Bool). where_allowed b (wanted.delegates c e)) can)

  request_rests : (q n : ℕ) (cs : List Call) → t.seat.calls ≡ calls.requests q n ∷ cs → (o : Option Place) → place_opened t.seat.may.requests q n ≡ o → doing_by p w (want_of_request q o) ≡ None → IsResting p t
  request_rests q n cs is None there h = unguarded (calls.requests q n) cs is (ap (want_of_request q) there)
  request_rests q n cs is (Some place) there h = by (nat_lt (length (w.requests p)) limit_of_requests) refl h
    where
      by : (b : Bool) → nat_lt (length (w.requests p)) limit_of_requests ≡ b → ◌≡◌ {A = Option Doing} (cond b (Some (requesting (opened_number p (length (w.requests p))) place q)) None) None → IsResting p t
      by true few k = absurd (cc k)
      by false few k = requested_enough q n cs is (ltb-false (length (w.requests p)) limit_of_requests few)

  accept_rests : (q n : ℕ) (cs : List Call) → t.seat.calls ≡ calls.accepts q n ∷ cs → (o : Option Place) → place_opened t.seat.may.accepts q n ≡ o → doing_by p w (want_of_accept q o) ≡ None → IsResting p t
  accept_rests q n cs is None there h = unguarded (calls.accepts q n) cs is (ap (want_of_accept q) there)
  accept_rests q n cs is (Some place) there h = by (first_offer p (w.requests q)) refl h
    where
      by : (o : Option ℕ) → first_offer p (w.requests q) ≡ o → ◌≡◌ {A = Option Doing} (option_map (accepting q place) o) None → IsResting p t
      by None first k = no_offer q n cs is first
      by (Some j) first k = absurd (cc k)

  calls_rest : (cs : List Call) → t.seat.calls ≡ cs → doing_by p w (want_of_calls t.seat.may bs cs) ≡ None → IsResting p t
  calls_rest [] is h = left is
  calls_rest (calls.sends e m ∷ cs) is h = send_rests e m cs is (place_held bs e) refl h
  calls_rest (calls.delegates c e ∷ cs) is h = delegate_rests c e cs is (place_held bs c) (place_held bs e) refl refl h
  calls_rest (calls.takes e ∷ cs) is h = take_rests e cs is (place_held bs e) refl h
  calls_rest (calls.closes e ∷ cs) is h = close_rests e cs is (place_held bs e) refl h
  calls_rest (calls.requests q n ∷ cs) is h = request_rests q n cs is (place_opened t.seat.may.requests q n) refl h
  calls_rest (calls.accepts q n ∷ cs) is h = accept_rests q n cs is (place_opened t.seat.may.accepts q n) refl h

  pub rests : doing_of p t ≡ None → IsResting p t
  rests h = by (nat_lt t.seat.steps 10000) refl h
    where
      by : (b : Bool) → nat_lt t.seat.steps 10000 ≡ b → cond (not b) None (doing_by p w (want_of_calls t.seat.may bs t.seat.calls)) ≡ None → IsResting p t
      by true few k = calls_rest t.seat.calls refl k
      by false few k = worn (ltb-false t.seat.steps 10000 few)
