-- A party that is played by code isn't ready where its next call can't be made.
use Rattle.std.proofs.Common.{◌≡◌, nat_lt, not, Bool, true, false, cond, List, [], ◌∷◌, Option, Some, None, refl, ap, sym, ◌∙◌, ℕ}
use Rattle.std.specs.Bool.{⊤}
use Rattle.sj_base.specs.declared.EndId.{EndId}
use Rattle.sj_base.specs.declared.Msg.{Msg}
use Rattle.sj_lang.specs.ItemCount.{is_done}
use Rattle.sj_lang.specs.Place.{Place}
use Rattle.std.specs.Prelude.{◌&&◌}
use Rattle.sj_semantics.specs.declared.Limit.TheVariants as limits
use Rattle.sj_semantics.specs.declared.State.TheVariants as states
use Rattle.sj_semantics.specs.Program.{Program}
use Rattle.sj_semantics.specs.State.{state_if}
use Rattle.sj_semantics.specs.World.{World, act_of}
use Rattle.sj_semantics_laws.proofs.StateLemmas.{ready_can_act}
use Rattle.std.specs.Prelude.{slice_get}
use Rattle.sj_rules.specs.Node as wanted
use Rattle.sj_rules.specs.Node.{Want}
use Rattle.sj_rules.specs.Record.{is_same_end}
use Rattle.sj_seat_laws.specs.Calls as calls
use Rattle.sj_seat_laws.specs.Calls.{Call, Ends, Openings, SeatedAt, place_held, place_opened}
use Rattle.sj_seat_laws.specs.Guards.{carried_next, may_carry, may_send, may_take, seated_want, want_of_accept, want_of_call, want_of_calls, want_of_close, want_of_delegate, want_of_request, want_of_send, want_of_take, where_allowed}
use Rattle.sj_seat_laws.specs.SeatedWorld.{after_doing, beside, doing_by, doing_of}
use Rattle.sj_seat_laws.specs.SeatsWorld.{SeatsWorld, seat_of, seats_act, seats_act_by, with_seat}
use Rattle.sj_seat_told_laws.specs.FirstOpen.{first_open}
use Rattle.sj_seat_told_laws.specs.SeatsStands.{player_state, state_of_seat}
use Rattle.sj_seat_told_laws.specs.StillSeats.{still_by_open, still_calling, still_holding}
use Rattle.sj_seat_told_laws.proofs.StandLemmas.{no_doing, no_world, seat_stands_still}

-- no call is of another kind
abbrev IsOfCall : Want Place → Type 0
IsOfCall wanted.ended = ⊤
IsOfCall (wanted.sends e m) = ⊤
IsOfCall (wanted.delegates c e) = ⊤
IsOfCall (wanted.takes e place) = ⊤
IsOfCall (wanted.closes e) = ⊤
IsOfCall (wanted.requests place to) = ⊤
IsOfCall (wanted.accepts place from) = ⊤
IsOfCall wanted.local = ⊥

where_of : (b : Bool) (want : Want Place) → IsOfCall want → IsOfCall (where_allowed b want)
where_of true want h = h
where_of false want h = tt

send_of : (e : EndId) (m : Msg) (o : Option Place) → IsOfCall (want_of_send e m o)
send_of e m None = tt
send_of e m (Some place) = where_of (may_send place m) (wanted.sends e m) tt

delegate_of : (c e : EndId) (o r : Option Place) → IsOfCall (want_of_delegate c e o r)
delegate_of c e None r = tt
delegate_of c e (Some place) None = tt
delegate_of c e (Some place) (Some own) = where_of (not (is_same_end c e) && may_carry place own) (wanted.delegates c e) tt

take_of : (e : EndId) (o : Option Place) → IsOfCall (want_of_take e o)
take_of e None = tt
take_of e (Some place) = where_of (may_take place) (wanted.takes e (carried_next place)) tt

close_of : (e : EndId) (o : Option Place) → IsOfCall (want_of_close e o)
close_of e None = tt
close_of e (Some place) = where_of (is_done place) (wanted.closes e) tt

request_of : (q : ℕ) (o : Option Place) → IsOfCall (want_of_request q o)
request_of q None = tt
request_of q (Some place) = tt

accept_of : (q : ℕ) (o : Option Place) → IsOfCall (want_of_accept q o)
accept_of q None = tt
accept_of q (Some place) = tt

call_of : (os : Openings) (bs : Ends) (c : Call) → IsOfCall (want_of_call os bs c)
call_of os bs (calls.sends e m) = send_of e m (place_held bs e)
call_of os bs (calls.delegates c e) = delegate_of c e (place_held bs c) (place_held bs e)
call_of os bs (calls.takes e) = take_of e (place_held bs e)
call_of os bs (calls.closes e) = close_of e (place_held bs e)
call_of os bs (calls.requests q n) = request_of q (place_opened os.requests q n)
call_of os bs (calls.accepts q n) = accept_of q (place_opened os.accepts q n)

calls_of : (os : Openings) (bs : Ends) (cs : List Call) → IsOfCall (want_of_calls os bs cs)
calls_of os bs [] = tt
calls_of os bs (c ∷ cs) = call_of os bs c

module _ (p : ℕ) (w : World) where
  calling_rests : (want : Want Place) → IsOfCall want → doing_by p w want ≡ None → still_calling want ≡ states.Ready → want ≡ wanted.ended
  calling_rests wanted.ended of_call h ready = refl
  calling_rests wanted.local of_call h ready = absurd of_call
  calling_rests (wanted.sends e m) of_call h ready = cc
  calling_rests (wanted.closes e) of_call h ready = cc
  calling_rests (wanted.requests place to) of_call h ready = cc
  calling_rests (wanted.accepts place from) of_call h ready = cc
  calling_rests (wanted.takes e place) of_call h ready = cc
  calling_rests (wanted.delegates c e) of_call h ready = cc

  steps_rest : (b : Bool) (want : Want Place) → IsOfCall want → cond (not b) None (doing_by p w want) ≡ None → cond b (still_calling want) (states.AtLimit limits.Steps) ≡ states.Ready → want ≡ wanted.ended
  steps_rest true want of_call h ready = calling_rests want of_call h ready
  steps_rest false want of_call h ready = cc

  holding_rests : (e : EndId) (steps : ℕ) (want : Want Place) → IsOfCall want → cond (not (nat_lt steps 10000)) None (doing_by p w want) ≡ None → still_holding e steps want ≡ states.Ready → ⊥
  holding_rests e steps wanted.ended of_call h ready = cc ready
  holding_rests e steps wanted.local of_call h ready = of_call
  holding_rests e steps (wanted.sends f m) of_call h ready = cc (steps_rest (nat_lt steps 10000) (wanted.sends f m) tt h ready)
  holding_rests e steps (wanted.closes f) of_call h ready = cc (steps_rest (nat_lt steps 10000) (wanted.closes f) tt h ready)
  holding_rests e steps (wanted.requests place to) of_call h ready = cc (steps_rest (nat_lt steps 10000) (wanted.requests place to) tt h ready)
  holding_rests e steps (wanted.accepts place from) of_call h ready = cc (steps_rest (nat_lt steps 10000) (wanted.accepts place from) tt h ready)
  holding_rests e steps (wanted.takes f place) of_call h ready = cc (steps_rest (nat_lt steps 10000) (wanted.takes f place) tt h ready)
  holding_rests e steps (wanted.delegates c f) of_call h ready = cc (steps_rest (nat_lt steps 10000) (wanted.delegates c f) tt h ready)

  open_rests : (steps : ℕ) (want : Want Place) (o : Option EndId) → IsOfCall want → cond (not (nat_lt steps 10000)) None (doing_by p w want) ≡ None → still_by_open steps want o ≡ states.Ready → ⊥
  open_rests steps want None of_call h ready = cc ready
  open_rests steps want (Some e) of_call h ready = holding_rests e steps want of_call h ready

  seat_rests : (s : SeatedAt) → doing_of p (beside s w) ≡ None → state_of_seat w p s ≡ states.Ready → ⊥
  seat_rests s h ready = open_rests s.steps (seated_want s) (first_open s.ends) (calls_of s.may s.ends s.calls) h (sym (seat_stands_still p w s h) ∙ ready)

module _ (t : SeatsWorld) where
  none_ready_by : (p : ℕ) (g : Program) → slice_get t.world.parties p ≡ Some g → (o : Option SeatedAt) → seats_act_by t p o ≡ None → player_state t.world p g o ≡ states.Ready → ⊥
  none_ready_by p g there None h ready =
      let v = ready_can_act t.world p (ap (state_if t.world p) there ∙ ready) in
      let e = sym (no_world t.seats (act_of t.world p) h) ∙ v.1 in cc e
  none_ready_by p g there (Some s) h ready = seat_rests p t.world s (no_doing (λ d. with_seat p t.seats (after_doing p (beside s t.world) d)) (doing_of p (beside s t.world)) h) ready

  pub none_ready : (p : ℕ) (g : Program) → slice_get t.world.parties p ≡ Some g → seats_act t p ≡ None → player_state t.world p g (seat_of t.seats p) ≡ states.Ready → ⊥
  none_ready p g there h ready = none_ready_by p g there (seat_of t.seats p) h ready
