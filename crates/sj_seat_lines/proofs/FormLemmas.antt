-- What each line says is refused by the rule that refuses it in a talk that sees the same.
use Rattle.std.proofs.Common.{if◌then◌else◌, ◌≡◌, ℕ, Bool, true, false, not, ◌&&◌, nat_le, List, [], ◌∷◌, Option, Some, None, is_some, is_none, refl, ap, sym, ◌∙◌}
use Rattle.std.specs.Prelude.{unwrap_or}
use Rattle.sj_base.specs.declared.EndId.{EndId}
use Rattle.sj_base.specs.declared.Msg.TheVariants as msgs
use Rattle.sj_lang.specs.ItemCount as items
use Rattle.sj_lang.specs.Place.{Place, done}
use Rattle.sj_rules.specs.Limits.{limit_of_steps}
use Rattle.sj_seat.specs.Fronts as seats
use Rattle.sj_seat.specs.Rules.{names_text}
use Rattle.sj_seat.specs.declared.refusal.SeatRefusal.TheVariants as refusals
use Rattle.sj_seat.specs.declared.wish.Wish.TheVariants.{Send, Take, TakeEnd, Close}
use Rattle.sj_seat_laws.specs.Calls.{place_held}
use Rattle.sj_seat_laws.specs.Guards.{may_send}
use Rattle.sj_semantics.specs.Ends.{end_at}
use Rattle.sj_talk.specs.Forms.{ValueAt}
use Rattle.sj_talk.specs.Names.{end_named}
use Rattle.sj_talk.specs.Rules.{at_limit, begins_otherwise, first_rule, is_done, is_full, is_next, not_bound, nothing_there, offers, selects, sends_value, takes_end, takes_no_end, turns, wrong_end, wrong_kind}
use Rattle.sj_talk.specs.TalkWorld.{TalkWorld}
use Rattle.sj_seat_lines.specs.Rules.{SeesAlike, Seen, rule_of_step, rule_or}
use Rattle.sj_seat_lines.specs.Steps.{at_end, by_label, by_name, message_at}
use Rattle.sj_seat_lines.specs.declared.steps.Step.TheVariants.{Call, Refused}
use Rattle.sj_seat_lines.proofs.SendLemmas.{label_same, no_label_same, seat_rule, send_same, turn_same}
use Rattle.sj_seat_lines.proofs.TakeLemmas.{close_same, not_used_same, take_end_same, take_same, takes_end_alike, used_same}

-- the place of an end that is there, by where a guard looks for it
abbrev pub at : Option Place → Place
at q = unwrap_or q done

module _ (s : Seen) (t : TalkWorld) (alike : SeesAlike s t) where
  -- the place in the talk of what is found under a name
  abbrev pub place_by : Option EndId → Place
  place_by o = (end_at t.world.sessions (unwrap_or o (record { sess = 0; side = 0 }))).place

  pub full_is : is_full t ≡ nat_le limit_of_steps s.calls
  full_is = ap (nat_le limit_of_steps) (sym alike.calls)

  -- the places are the same
  abbrev pub Held : Option EndId → Type 0
  Held o = (e : EndId) → o ≡ Some e → place_held s.ends e ≡ Some (place_by o)

  pub held_at : (x : List ℕ) → Held (end_named t.ends x)
  held_at x e is = alike.places x e is ∙ ap (λ o. Some (place_by o)) (sym is)

  -- ---- send

  abbrev pub send_rule : Option Place → ValueAt → Bool → Option ℕ
  send_rule q v full =
      let m = message_at s.texts (at q) v in
      seat_rule ((refusals.NotHeld, is_none q) ∷ (refusals.BeginsOtherwise, not (seats.begins_with (at q) m)) ∷ (refusals.WrongKind, not (may_send (at q) m && names_text s.known m)) ∷ (refusals.AtLimit, full) ∷ [])

  pub send_by : (v : ValueAt) (o : Option EndId) → Held o
      → first_rule ((not_bound, is_none o) ∷ (begins_otherwise, not (sends_value (place_by o))) ∷ (wrong_kind, not (is_next (place_by o) v)) ∷ (at_limit, is_full t) ∷ [])
      ≡ rule_of_step s (at_end o (λ e. Call (Send e (message_at s.texts (at (place_held s.ends e)) v))))
  send_by v None held = refl
  send_by v (Some e) held =
      send_same s.texts s.known alike.texts (place_by (Some e)) v (is_full t)
      ∙ ap (λ q. send_rule q v (is_full t)) (sym (held e refl))
      ∙ ap (send_rule (place_held s.ends e) v) full_is

  -- ---- more and stop

  abbrev pub turn_rule : Option Place → Bool → Bool → Option ℕ
  turn_rule q more full =
      seat_rule ((refusals.NotHeld, is_none q) ∷ (refusals.BeginsOtherwise, not (seats.begins_with (at q) (msgs.More more)))
      ∷ (refusals.WrongKind, not (may_send (at q) (msgs.More more) && names_text s.known (msgs.More more))) ∷ (refusals.AtLimit, full) ∷ [])

  pub turn_by : (more : Bool) (o : Option EndId) → Held o → first_rule ((not_bound, is_none o) ∷ (begins_otherwise, not (turns (place_by o))) ∷ (at_limit, is_full t) ∷ [])
      ≡ rule_of_step s (at_end o (λ e. Call (Send e (msgs.More more))))
  turn_by more None held = refl
  turn_by more (Some e) held =
      turn_same s.known (place_by (Some e)) more (is_full t)
      ∙ ap (λ q. turn_rule q more (is_full t)) (sym (held e refl))
      ∙ ap (turn_rule (place_held s.ends e) more) full_is

  -- ---- select

  abbrev pub label_rule : Option Place → ℕ → Bool → Option ℕ
  label_rule q l full =
      seat_rule ((refusals.NotHeld, is_none q) ∷ (refusals.BeginsOtherwise, not (seats.begins_with (at q) (msgs.Label l)))
      ∷ (refusals.WrongKind, not (may_send (at q) (msgs.Label l) && names_text s.known (msgs.Label l))) ∷ (refusals.AtLimit, full) ∷ [])

  pub select_by : (l : Option ℕ) (o : Option EndId) → Held o
      → first_rule ((not_bound, is_none o) ∷ (begins_otherwise, not (selects (place_by o))) ∷ (wrong_kind, not (offers (place_by o) l)) ∷ (at_limit, is_full t) ∷ [])
      ≡ rule_of_step s (at_end o (λ e. by_label (at (place_held s.ends e)) l e))
  select_by l None held = refl
  select_by (Some l) (Some e) held =
      label_same s.known (place_by (Some e)) l (is_full t)
      ∙ ap (λ q. label_rule q l (is_full t)) (sym (held e refl))
      ∙ ap (label_rule (place_held s.ends e) l) full_is
  select_by None (Some e) held =
      no_label_same (place_by (Some e)) (is_full t)
      ∙ ap (λ q. rule_of_step s (Refused (if selects (at q) then wrong_kind else begins_otherwise))) (sym (held e refl))

  -- ---- take

  abbrev pub nothing_if : Bool → Option ℕ
  nothing_if none = if none then Some nothing_there else None

  abbrev pub take_rule : Option Place → Bool → Option ℕ
  take_rule q full = seat_rule ((refusals.NotHeld, is_none q) ∷ (refusals.BeginsOtherwise, not (seats.takes_no_end (at q))) ∷ (refusals.AtLimit, full) ∷ [])

  pub take_by : (none : Bool) (o : Option EndId) → Held o
      → first_rule ((not_bound, is_none o) ∷ (begins_otherwise, not (takes_no_end (place_by o))) ∷ (at_limit, is_full t) ∷ (nothing_there, none) ∷ [])
      ≡ rule_or (rule_of_step s (at_end o (λ e. Call (Take e)))) (nothing_if none)
  take_by none None held = refl
  take_by none (Some e) held =
      take_same (place_by (Some e)) (is_full t) none
      ∙ ap (λ q. rule_or (take_rule q (is_full t)) (nothing_if none)) (sym (held e refl))
      ∙ ap (λ full. rule_or (take_rule (place_held s.ends e) full) (nothing_if none)) full_is

  -- ---- take of an end

  abbrev pub end_rule : Option Place → Bool → Option ℕ
  end_rule q full = seat_rule ((refusals.NotHeld, is_none q) ∷ (refusals.BeginsOtherwise, not (seats.takes_end (at q))) ∷ (refusals.AtLimit, full) ∷ [])

  -- the same, with the name's test
  abbrev pub named_rule : Option Place → Option EndId → EndId → Option ℕ
  named_rule q used e = rule_of_step s (by_name (at q) used e)

  pub end_by : (none : Bool) (used o : Option EndId) → Held o
      → first_rule ((not_bound, is_none o) ∷ (begins_otherwise, not (takes_end (place_by o))) ∷ (wrong_end, not (is_none used)) ∷ (at_limit, is_full t) ∷ (nothing_there, none) ∷ [])
      ≡ rule_or (rule_of_step s (at_end o (λ e. by_name (at (place_held s.ends e)) used e))) (nothing_if none)
  end_by none used None held = refl
  end_by none used (Some e) held = by used (takes_end p) refl ∙ ap (λ q. rule_or (named_rule q used e) (nothing_if none)) (sym (held e refl))
    where
      p : Place
      p = place_by (Some e)

      call_is : end_rule (Some p) (is_full t) ≡ rule_of_step s (Call (TakeEnd e))
      call_is = ap (λ q. end_rule q (is_full t)) (sym (held e refl)) ∙ ap (end_rule (place_held s.ends e)) full_is

      begins : (b : Bool) → takes_end p ≡ b → (u : Option EndId) → rule_of_step s (by_name p u e) ≡ rule_of_step s (if b && is_some u then Refused wrong_end else Call (TakeEnd e))
      begins b is u = ap (λ (c : Bool). rule_of_step s (if c && is_some u then Refused wrong_end else Call (TakeEnd e))) is

      by : (u : Option EndId) (b : Bool) → takes_end p ≡ b
          → first_rule ((begins_otherwise, not (takes_end p)) ∷ (wrong_end, not (is_none u)) ∷ (at_limit, is_full t) ∷ (nothing_there, none) ∷ []) ≡ rule_or (named_rule (Some p) u e) (nothing_if none)
      by None true is = take_end_same p (is_full t) none ∙ ap (λ r. rule_or r (nothing_if none)) (call_is ∙ sym (begins true is None))
      by None false is = take_end_same p (is_full t) none ∙ ap (λ r. rule_or r (nothing_if none)) (call_is ∙ sym (begins false is None))
      by (Some d) true is = used_same p (is_full t) none is ∙ ap (λ r. rule_or r (nothing_if none)) (sym (begins true is (Some d)))
      by (Some d) false is =
          not_used_same p (is_full t) none is
          ∙ ap (λ (b : Bool). rule_or (seat_rule ((refusals.BeginsOtherwise, not b) ∷ (refusals.AtLimit, is_full t) ∷ [])) (nothing_if none)) (takes_end_alike p)
          ∙ ap (λ r. rule_or r (nothing_if none)) (call_is ∙ sym (begins false is (Some d)))

  -- ---- close

  abbrev pub close_rule : Option Place → Bool → Option ℕ
  close_rule q full = seat_rule ((refusals.NotHeld, is_none q) ∷ (refusals.BeginsOtherwise, not (items.is_done (at q))) ∷ (refusals.AtLimit, full) ∷ [])

  pub close_by : (o : Option EndId) → Held o → first_rule ((not_bound, is_none o) ∷ (begins_otherwise, not (is_done (place_by o))) ∷ (at_limit, is_full t) ∷ [])
      ≡ rule_of_step s (at_end o (λ e. Call (Close e)))
  close_by None held = refl
  close_by (Some e) held =
      close_same (place_by (Some e)) (is_full t)
      ∙ ap (λ q. close_rule q (is_full t)) (sym (held e refl))
      ∙ ap (close_rule (place_held s.ends e)) full_is
