-- A call makes no further holder of an end, and an end that it closes nobody has after it.
use Rattle.std.proofs.Common.{◌≡◌, ℕ, ◌+◌, ◌≤◌, nat_lt, Bool, true, false, not, ◌&&◌, cond, List, [], ◌∷◌, length, Option, Some, None, option_map, option_and_then, sum_by, refl, ap, sym, ◌∙◌, subst, arith}
use Rattle.sj_base.specs.declared.EndId.{EndId}
use Rattle.sj_base.specs.declared.Msg.{Msg}
use Rattle.sj_base.specs.declared.Msg.TheVariants as msgs
use Rattle.sj_lang.specs.declared.proto.Way.{Way}
use Rattle.sj_lang.specs.declared.proto.Way.TheVariants.{Into, Out}
use Rattle.sj_lang.specs.Dual.{dual_of}
use Rattle.sj_lang.specs.FileAt.{FileAt}
use Rattle.sj_lang.specs.ItemCount.{is_done}
use Rattle.sj_lang.specs.Place.{Place}
use Rattle.sj_semantics.specs.declared.Passed.{Passed}
use Rattle.sj_semantics.specs.declared.Want.{Want as Step}
use Rattle.sj_semantics.specs.Ends.{Session, end_at, next_for}
use Rattle.sj_semantics.specs.Program.{Program}
use Rattle.sj_semantics.specs.Requests.{first_offer, limit_of_requests, opened_number}
use Rattle.sj_semantics.specs.Uses.{after_uses, begins, delegates, place_behind, sends, takes}
use Rattle.sj_semantics.specs.Wants.{want_of}
use Rattle.sj_semantics.specs.World.{World, begun_by, session_message}
use Rattle.sj_semantics_laws.specs.Unshared.{carried_in, claims_on, names_end}
use Rattle.sj_semantics_laws.proofs.BoundLemmas.{is_end-self}
use Rattle.sj_semantics_laws.proofs.ClaimLemmas.{carried-begins, carried-hands_on, carried-sends, carried-takes, one_if}
use Rattle.sj_semantics_laws.proofs.EndLemmas.{touched}
use Rattle.sj_semantics_laws.proofs.ToComeLemmas.{opens}
use Rattle.sj_headline_laws.proofs.TouchedLemmas.{side}
use Rattle.sj_rules.specs.Node as wanted
use Rattle.sj_rules.specs.Node.{Want}
use Rattle.sj_rules.specs.Record.{is_same_end}
use Rattle.sj_seat_laws.specs.Calls as calls
use Rattle.sj_seat_laws.specs.Calls.{Call, Ends, moved, place_held, place_opened, without_end}
use Rattle.sj_seat_laws.specs.Guards.{called_by, carried_next, ends_taken, may_carry, may_send, may_take, seated_want, want_of_accept, want_of_calls, want_of_close, want_of_delegate, want_of_request, want_of_send, want_of_take, where_allowed, with_carried, with_opened}
use Rattle.sj_seat_laws.specs.SeatedWorld.{Doing, SeatedWorld, accepting, after_doing, doing_by, doing_of, plain_doing, requesting, seat_by, world_after}
use Rattle.sj_seat_laws.proofs.CallLemmas.{names_nothing, sends_on}
use Rattle.sj_seat_laws.proofs.HeldLemmas.{held_by_place, holds, holds-moved, holds-push, holds-without, holds-without_le, place-moved}
use Rattle.sj_seat_laws.proofs.SeatedLemmas.{IsSeat}

-- in how many ways an end is had or on its way
abbrev pub total : EndId → SeatedWorld → ℕ
total e t = claims_on e t.world + holds e t.seat.ends

some_moved : (bs : Ends) (c : EndId) (way : Way) (m : Msg) (e : EndId) (q : Place) → place_held bs e ≡ Some q → (r : Place) × (place_held (moved bs c way m) e ≡ Some r)
some_moved bs c way m e q h = (cond (is_same_end e c) (place_behind q way m) q, place-moved bs c way m e ∙ ap (option_map (λ q. cond (is_same_end e c) (place_behind q way m) q)) h)

module _ (p : ℕ) (t : SeatedWorld) (f : EndId) where
  abbrev w : World
  w = t.world

  abbrev zs : List Session
  zs = w.sessions

  abbrev bs : Ends
  bs = t.seat.ends

  -- none further after a call
  abbrev Fewer : List Call → Doing → Type 0
  Fewer cs d = sum_by (carried_in f) (after_uses p d.uses zs) + holds f (seat_by t.seat cs d.taken d.opened).ends ≤ sum_by (carried_in f) zs + holds f bs

  -- unless it opens the end
  abbrev FewerElse : List Call → Doing → Type 0
  FewerElse cs d = opens f w p d.opening ≡ false → Fewer cs d

  send_fewer : (e : EndId) (m : Msg) (cs : List Call) (d : Doing) (o : Option Place) → doing_by p w (want_of_send e m o) ≡ Some d → Fewer (calls.sends e m ∷ cs) d
  send_fewer e m cs d None h = absurd (cc h)
  send_fewer e m cs d (Some q) h = by (may_send q m) refl h
    where
      by : (b : Bool) → may_send q m ≡ b → doing_by p w (where_allowed b (wanted.sends e m)) ≡ Some d → Fewer (calls.sends e m ∷ cs) d
      by true can k =
          let on = sends_on zs q m can in
          subst (Fewer (calls.sends e m ∷ cs)) (let it : plain_doing None ((e, sends m) ∷ []) ≡ d = cc in it)
          (omega (arith, carried-sends f p zs e m, ap {B = ℕ} one_if (names_nothing m f on.none), holds-moved f bs e Out m))
      by false can k = absurd (cc k)

  delegate_fewer : (c e : EndId) (cs : List Call) (d : Doing) (o r : Option Place) → place_held bs e ≡ r → doing_by p w (want_of_delegate c e o r) ≡ Some d → Fewer (calls.delegates c e ∷ cs) d
  delegate_fewer c e cs d None r own h = absurd (cc h)
  delegate_fewer c e cs d (Some q) None own h = absurd (cc h)
  delegate_fewer c e cs d (Some q) (Some r) own h = by (not (is_same_end c e) && may_carry q r) (nat_lt (end_at zs e).hops 100) refl h
    where
      by : (b a : Bool) → nat_lt (end_at zs e).hops 100 ≡ a → doing_by p w (where_allowed b (wanted.delegates c e)) ≡ Some d → Fewer (calls.delegates c e ∷ cs) d
      by false a is k = absurd (cc k)
      by true false is k =
          let none : None ≡ Some d = sym (ap (λ (b : Bool). cond b (Some (plain_doing None ((e, delegates) ∷ (c, sends (session_message e p)) ∷ []))) None) is) ∙ k in absurd (cc none)
      by true true is k =
          let made : Some (plain_doing None ((e, delegates) ∷ (c, sends (session_message e p)) ∷ [])) ≡ Some d =
          sym (ap (λ (b : Bool). cond b (Some (plain_doing None ((e, delegates) ∷ (c, sends (session_message e p)) ∷ []))) None) is) ∙ k in
          let m0 : Msg = session_message e 0 in
          let there = some_moved bs c Out m0 e r own in
          subst (Fewer (calls.delegates c e ∷ cs)) (let it : plain_doing None ((e, delegates) ∷ (c, sends (session_message e p)) ∷ []) ≡ d = cc in it)
          (omega (arith, carried-hands_on f p zs e, carried-sends f p (touched p zs (e, delegates)) c (session_message e p), holds-without f (moved bs c Out m0) e there.0 there.1, holds-moved f bs c Out m0))

  value_fewer : (e : EndId) (x : Passed) → next_for zs e ≡ Some x → sum_by (carried_in f) (touched p zs (e, takes x.msg)) + holds f (moved bs e Into x.msg) ≤ sum_by (carried_in f) zs + holds f bs
  value_fewer e x next = omega (arith, carried-takes f p zs e x next, holds-moved f bs e Into x.msg)

  head_fewer : (e : EndId) (place : Place) (x : Passed) → next_for zs e ≡ Some x → (m : Msg) → x.msg ≡ m
      → sum_by (carried_in f) (after_uses p ((e, takes m) ∷ begun_by place m) zs) + holds f (with_carried (moved bs e Into m) place m) ≤ sum_by (carried_in f) zs + holds f bs
  head_fewer e place x next (msgs.Sess s d k) is =
      let taken = carried-takes f p zs e x next in
      let same : sum_by (carried_in f) (touched p zs (e, takes x.msg)) ≡ sum_by (carried_in f) (touched p zs (e, takes (msgs.Sess s d k))) = ap (λ (m : Msg). sum_by (carried_in f) (touched p zs (e, takes m))) is in
      omega (
        arith,
        taken,
        same,
        ap {B = ℕ} one_if (ap (names_end f) is),
        carried-begins f p (touched p zs (e, takes (msgs.Sess s d k))) (side s d) place,
        holds-push f (moved bs e Into (msgs.Sess s d k)) (side s d, place),
        holds-moved f bs e Into (msgs.Sess s d k),
      )
  head_fewer e place x next (msgs.Int i) is = subst (λ (m : Msg). sum_by (carried_in f) (touched p zs (e, takes m)) + holds f (moved bs e Into m) ≤ sum_by (carried_in f) zs + holds f bs) is (value_fewer e x next)
  head_fewer e place x next (msgs.Bool i) is = subst (λ (m : Msg). sum_by (carried_in f) (touched p zs (e, takes m)) + holds f (moved bs e Into m) ≤ sum_by (carried_in f) zs + holds f bs) is (value_fewer e x next)
  head_fewer e place x next (msgs.Text i) is = subst (λ (m : Msg). sum_by (carried_in f) (touched p zs (e, takes m)) + holds f (moved bs e Into m) ≤ sum_by (carried_in f) zs + holds f bs) is (value_fewer e x next)
  head_fewer e place x next (msgs.Label i) is = subst (λ (m : Msg). sum_by (carried_in f) (touched p zs (e, takes m)) + holds f (moved bs e Into m) ≤ sum_by (carried_in f) zs + holds f bs) is (value_fewer e x next)
  head_fewer e place x next (msgs.More i) is = subst (λ (m : Msg). sum_by (carried_in f) (touched p zs (e, takes m)) + holds f (moved bs e Into m) ≤ sum_by (carried_in f) zs + holds f bs) is (value_fewer e x next)

  take_fewer : (e : EndId) (cs : List Call) (d : Doing) (o : Option Place) → place_held bs e ≡ o → doing_by p w (want_of_take e o) ≡ Some d → Fewer (calls.takes e ∷ cs) d
  take_fewer e cs d None there h = absurd (cc h)
  take_fewer e cs d (Some q) there h = by (may_take q) h
    where
      head : (o : Option Passed) → next_for zs e ≡ o → option_map (λ (x : Passed). plain_doing (Some x.msg) ((e, takes x.msg) ∷ begun_by (carried_next q) x.msg)) o ≡ Some d → Fewer (calls.takes e ∷ cs) d
      head None next k = absurd (cc k)
      head (Some x) next k =
          subst (Fewer (calls.takes e ∷ cs)) (let it : plain_doing (Some x.msg) ((e, takes x.msg) ∷ begun_by (carried_next q) x.msg) ≡ d = cc in it)
          (subst (λ (o : Option Place). sum_by (carried_in f) (after_uses p ((e, takes x.msg) ∷ begun_by (carried_next q) x.msg) zs) + holds f (ends_taken bs e o (Some x.msg)) ≤ sum_by (carried_in f) zs + holds f bs) (sym there)
          (head_fewer e (carried_next q) x next x.msg refl))

      by : (b : Bool) → doing_by p w (where_allowed b (wanted.takes e (carried_next q))) ≡ Some d → Fewer (calls.takes e ∷ cs) d
      by true k = head (next_for zs e) refl k
      by false k = absurd (cc k)

  close_fewer : (e : EndId) (cs : List Call) (d : Doing) (o : Option Place) → doing_by p w (want_of_close e o) ≡ Some d → Fewer (calls.closes e ∷ cs) d
  close_fewer e cs d None h = absurd (cc h)
  close_fewer e cs d (Some q) h = by (is_done q) h
    where
      by : (b : Bool) → doing_by p w (where_allowed b (wanted.closes e)) ≡ Some d → Fewer (calls.closes e ∷ cs) d
      by true k = subst (Fewer (calls.closes e ∷ cs)) (let it : plain_doing None [] ≡ d = cc in it) (omega (arith, holds-without_le f bs e))
      by false k = absurd (cc k)

  request_fewer : (q n : ℕ) (cs : List Call) (d : Doing) (o : Option Place) → place_opened t.seat.may.requests q n ≡ o → doing_by p w (want_of_request q o) ≡ Some d → FewerElse (calls.requests q n ∷ cs) d
  request_fewer q n cs d None there h = absurd (cc h)
  request_fewer q n cs d (Some place) there h = by (nat_lt (length (w.requests p)) limit_of_requests) h
    where
      num : ℕ
      num = opened_number p (length (w.requests p))

      by : (b : Bool) → cond b (Some (requesting num place q)) None ≡ Some d → FewerElse (calls.requests q n ∷ cs) d
      by true k =
          subst (FewerElse (calls.requests q n ∷ cs)) (let it : requesting num place q ≡ d = cc in it) (λ none.
          subst (λ (o : Option Place). sum_by (carried_in f) (after_uses p (requesting num place q).uses zs) + holds f (with_opened bs (side num 0) o) ≤ sum_by (carried_in f) zs + holds f bs) (sym there)
          (omega (
            arith,
            carried-begins f p zs (side num 0) place,
            carried-begins f p (touched p zs (side num 0, begins place)) (side num 1) (dual_of place),
            holds-push f bs (side num 0, place),
            ap {B = ℕ} one_if none,
          )))
      by false k = absurd (cc k)

  accept_fewer : (q n : ℕ) (cs : List Call) (d : Doing) (o : Option Place) → place_opened t.seat.may.accepts q n ≡ o → doing_by p w (want_of_accept q o) ≡ Some d → FewerElse (calls.accepts q n ∷ cs) d
  accept_fewer q n cs d None there h = absurd (cc h)
  accept_fewer q n cs d (Some place) there h = by (first_offer p (w.requests q)) h
    where
      by : (o : Option ℕ) → option_map (accepting q place) o ≡ Some d → FewerElse (calls.accepts q n ∷ cs) d
      by None k = absurd (cc k)
      by (Some j) k =
          let y : EndId = side (opened_number q j) 1 in
          subst (FewerElse (calls.accepts q n ∷ cs)) (let it : accepting q place j ≡ d = cc in it) (λ none.
          subst (λ (o : Option Place). sum_by (carried_in f) (after_uses p (accepting q place j).uses zs) + holds f (with_opened bs y o) ≤ sum_by (carried_in f) zs + holds f bs) (sym there)
          (omega (arith, carried-begins f p zs y place, holds-push f bs (y, place), ap {B = ℕ} one_if none)))

  calls_fewer : (cs : List Call) (d : Doing) → doing_by p w (want_of_calls t.seat.may bs cs) ≡ Some d → FewerElse cs d
  calls_fewer [] d h = absurd (cc h)
  calls_fewer (calls.sends e m ∷ cs) d h = λ none. send_fewer e m cs d (place_held bs e) h
  calls_fewer (calls.delegates c e ∷ cs) d h = λ none. delegate_fewer c e cs d (place_held bs c) (place_held bs e) refl h
  calls_fewer (calls.takes e ∷ cs) d h = λ none. take_fewer e cs d (place_held bs e) refl h
  calls_fewer (calls.closes e ∷ cs) d h = λ none. close_fewer e cs d (place_held bs e) h
  calls_fewer (calls.requests q n ∷ cs) d h = request_fewer q n cs d (place_opened t.seat.may.requests q n) refl h
  calls_fewer (calls.accepts q n ∷ cs) d h = accept_fewer q n cs d (place_opened t.seat.may.accepts q n) refl h

  pub worn_fewer : (b : Bool) (d : Doing) → cond b None (doing_by p w (want_of_calls t.seat.may bs t.seat.calls)) ≡ Some d → FewerElse t.seat.calls d
  worn_fewer true d h = absurd (cc h)
  worn_fewer false d h = calls_fewer t.seat.calls d h

-- ---- a close

-- the call that closes, and the place of its end
pub record ClosesBy (t : SeatedWorld) (e : EndId) : Type 0 where
  pub later : List Call
  pub calls : t.seat.calls ≡ calls.closes e ∷ later
  pub place : Place
  pub there : place_held t.seat.ends e ≡ Some place

no_close : (b : Bool) (x : Want Place) (e : EndId) → (x ≡ wanted.closes e → ⊥) → where_allowed b x ≡ wanted.closes e → ⊥
no_close true x e other h = other h
no_close false x e other h = absurd (cc h)

pub closes_by : (t : SeatedWorld) (e : EndId) (cs : List Call) → t.seat.calls ≡ cs → want_of_calls t.seat.may t.seat.ends cs ≡ wanted.closes e → ClosesBy t e
closes_by t e [] is h = absurd (cc h)
closes_by t e (calls.sends f m ∷ cs) is h = by (place_held t.seat.ends f) h
  where
    by : (o : Option Place) → want_of_send f m o ≡ wanted.closes e → ClosesBy t e
    by None k = absurd (cc k)
    by (Some q) k = absurd (no_close (may_send q m) (wanted.sends f m) e (λ x. absurd (cc x)) k)
closes_by t e (calls.delegates c f ∷ cs) is h = by (place_held t.seat.ends c) (place_held t.seat.ends f) h
  where
    by : (o r : Option Place) → want_of_delegate c f o r ≡ wanted.closes e → ClosesBy t e
    by None r k = absurd (cc k)
    by (Some q) None k = absurd (cc k)
    by (Some q) (Some r) k = absurd (no_close (not (is_same_end c f) && may_carry q r) (wanted.delegates c f) e (λ x. absurd (cc x)) k)
closes_by t e (calls.takes f ∷ cs) is h = by (place_held t.seat.ends f) h
  where
    by : (o : Option Place) → want_of_take f o ≡ wanted.closes e → ClosesBy t e
    by None k = absurd (cc k)
    by (Some q) k = absurd (no_close (may_take q) (wanted.takes f (carried_next q)) e (λ x. absurd (cc x)) k)
closes_by t e (calls.requests q n ∷ cs) is h = by (place_opened t.seat.may.requests q n) h
  where
    by : (o : Option Place) → want_of_request q o ≡ wanted.closes e → ClosesBy t e
    by None k = absurd (cc k)
    by (Some place) k = absurd (cc k)
closes_by t e (calls.accepts q n ∷ cs) is h = by (place_opened t.seat.may.accepts q n) h
  where
    by : (o : Option Place) → want_of_accept q o ≡ wanted.closes e → ClosesBy t e
    by None k = absurd (cc k)
    by (Some place) k = absurd (cc k)
closes_by t e (calls.closes f ∷ cs) is h = by (place_held t.seat.ends f) refl h
  where
    by : (o : Option Place) → place_held t.seat.ends f ≡ o → want_of_close f o ≡ wanted.closes e → ClosesBy t e
    by None there k = absurd (cc k)
    by (Some q) there k = done_by (is_done q) k
      where
        done_by : (b : Bool) → where_allowed b (wanted.closes f) ≡ wanted.closes e → ClosesBy t e
        done_by false k = absurd (cc k)
        done_by true k =
            let it : f ≡ e = cc in
            record { later = cs; calls = is ∙ ap (λ (x : EndId). calls.closes x ∷ cs) it; place = q; there = ap (place_held t.seat.ends) (sym it) ∙ there }

-- after it the end is had by nobody
pub own_closed : (file : FileAt) (p : ℕ) (t : SeatedWorld) (d : Doing) (e : EndId) → IsSeat file p t → seated_want t.seat ≡ wanted.closes e → doing_of p t ≡ Some d → total e (after_doing p t d) ≡ 0
own_closed file p t d e s want h =
    let c = closes_by t e t.seat.calls refl want in
    let held = held_by_place t.seat.ends e c.place c.there in
    let made : plain_doing None [] ≡ d = closed (not (nat_lt t.seat.steps 10000)) h in
    let gone : total e (record { world = world_after p [] t.world; seat = called_by t.seat (calls.closes e ∷ c.later) None }) ≡ 0 =
    omega (arith, s.guarded.once e, held, holds-without e t.seat.ends e c.place c.there, ap {B = ℕ} one_if (is_end-self e)) in
    subst (λ (y : Doing). total e (after_doing p t y) ≡ 0) made
    (subst (λ (cs : List Call). total e (record { world = world_after p [] t.world; seat = called_by t.seat cs None }) ≡ 0) (sym c.calls) gone)
  where
    closed : (b : Bool) → cond b None (doing_by p t.world (seated_want t.seat)) ≡ Some d → plain_doing None [] ≡ d
    closed true k = absurd (cc k)
    closed false k = let made : Some (plain_doing None []) ≡ Some d = sym (ap (doing_by p t.world) want) ∙ k in cc

pub step_there : (o : Option Program) (want : Step) → option_and_then want_of o ≡ Some want → (g : Program) × (o ≡ Some g) × (want_of g ≡ Some want)
step_there None want h = absurd (cc h)
step_there (Some g) want h = (g, refl, h)
