-- Where the lanes are empty all that waits for an end is at its last record.
use Rattle.std.proofs.Common.{◌≡◌, ℕ, zero, suc, ◌<◌, List, [], ◌++◌, refl, sym, ap, ◌∙◌, arith, append-nil}
use Rattle.std.specs.Prelude.{map, Bool}
use Rattle.sj_base.specs.declared.EndId.{EndId}
use Rattle.sj_rules.specs.Record.{other_end}
use Rattle.sj_rules.specs.PlainSide.{PlainAt}
use Rattle.sj_rules.specs.PlainChanges.{waits_of}
use Rattle.sj_forward_rules.specs.Record.{SentAt, StateAt, Held, Parked, Passing, Closed, FrameAt, stored}
use Rattle.sj_forward_rules.specs.World.{WorldAt}
use Rattle.sj_forward_laws.specs.Roads.{behind_of, Road, inward, outward, claiming, start_of, goal_of, on_road, messages_in}
use Rattle.sj_forward_laws.specs.Pipe.{traffic, from_last, from_first, in_part, out_part, pipe}
use Rattle.sj_forward_laws.specs.Kept.{IsLeft, IsKept}

last_alone : (part : ℕ → List SentAt) (t : ℕ) → ((h : ℕ) → h < t → part h ≡ []) → from_last part t ≡ part t
last_alone part zero none = refl
last_alone part (suc k) none =
    ap (λ z. part (suc k) ++ z) (last_alone part k (λ h l. none h (omega (arith, l))) ∙ none k (omega arith)) ∙ append-nil (part (suc k))

none_first : (part : ℕ → List SentAt) (t : ℕ) → ((h : ℕ) → h < t → part h ≡ []) → from_first part t ≡ []
none_first part zero none = refl
none_first part (suc k) none =
    ap (λ z. z ++ part k) (none_first part k (λ h l. none h (omega (arith, l)))) ∙ none k (omega arith)

-- a record without a Claim to come has nothing stored
left_empty : (e : EndId) (h next : ℕ) (claims : List FrameAt) (st : StateAt) → claims ≡ [] → IsLeft e h next claims st → stored st ≡ []
left_empty e h next claims (Held ms) none left = absurd left
left_empty e h next claims (Parked ms) none left = absurd (cc (none, left))
left_empty e h next claims (Passing p) none left = refl
left_empty e h next claims Closed none left = absurd left

module _ {P Q : Type 0} (IsOver : P → Type 0) (binds : Q → EndId → Bool) (parties : ℕ) (w : WorldAt Q) (plain : PlainAt P Q)
    (kept : IsKept IsOver binds parties w plain)
    (some : 0 < parties) (empty : (from to : ℕ) → from < parties → to < parties → w.lanes from to ≡ []) where
  behind_below : (e : EndId) (h : ℕ) → behind_of kept.chains e h < parties
  behind_below e zero = kept.below some (other_end e) 0
  behind_below e (suc h) = kept.below some e h

  pub start_below : (r : Road) → start_of kept.chains r < parties
  start_below (inward e h) = behind_below e h
  start_below (outward e h) = kept.below some e (suc h)
  start_below (claiming e h) = kept.below some e (suc h)

  pub goal_below : (r : Road) → goal_of kept.chains r < parties
  goal_below (inward e h) = kept.below some e h
  goal_below (outward e h) = kept.below some e h
  goal_below (claiming e h) = kept.below some e h

  traffic_empty : (r : Road) → traffic w.lanes kept.chains r ≡ []
  traffic_empty r = ap (λ l. on_road r l) (empty (start_of kept.chains r) (goal_of kept.chains r) (start_below r) (goal_below r))

  in_empty : (e : EndId) (h : ℕ) → e.side < 2 → h < kept.chains.top e → in_part w.lanes kept.chains kept.states e h ≡ []
  in_empty e h low lt =
      ap (λ s. s ++ messages_in (traffic w.lanes kept.chains (inward e h)))
      (left_empty e h (kept.chains.at e (suc h)) (traffic w.lanes kept.chains (claiming e h)) (kept.states e h) (traffic_empty (claiming e h))
      (kept.joined.left e h low lt))
      ∙ ap (λ l. messages_in l) (traffic_empty (inward e h))

  pipe_rests : (e : EndId) → e.side < 2 → pipe w.lanes kept.chains kept.states e ≡ stored (kept.states e (kept.chains.top e))
  pipe_rests e low =
      ap (λ z. z ++ from_first (out_part w.lanes kept.chains kept.states (other_end e)) (kept.chains.top (other_end e)))
      (last_alone (in_part w.lanes kept.chains kept.states e) (kept.chains.top e) (λ h lt. in_empty e h low lt))
      ∙ ap (λ z. in_part w.lanes kept.chains kept.states e (kept.chains.top e) ++ z)
      (none_first (out_part w.lanes kept.chains kept.states (other_end e)) (kept.chains.top (other_end e))
      (λ h lt. ap (λ l. messages_in l) (traffic_empty (outward (other_end e) h))))
      ∙ append-nil (in_part w.lanes kept.chains kept.states e (kept.chains.top e))
      ∙ ap (λ l. stored (kept.states e (kept.chains.top e)) ++ messages_in l) (traffic_empty (inward e (kept.chains.top e)))
      ∙ append-nil (stored (kept.states e (kept.chains.top e)))

  pub waits_rest : (e : EndId) → e.side < 2 → waits_of plain e ≡ map (λ (m : SentAt). m.msg) (stored (kept.states e (kept.chains.top e)))
  waits_rest e low = sym (kept.waits e low) ∙ ap (λ l. map (λ (m : SentAt). m.msg) l) (pipe_rests e low)
