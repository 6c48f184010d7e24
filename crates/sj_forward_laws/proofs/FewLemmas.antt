-- In a kept world hop numbers are small where messages come, and records store few messages.
use Rattle.std.proofs.Common.{Bool, ◌≡◌, ℕ, zero, suc, ◌<◌, ◌≤◌, List, [], ◌∷◌, ◌++◌, length, Option, Some, None, refl, sym, subst, ap, ◌∙◌}
use Rattle.std.proofs.Common.{arith, inl, inr, ◌⊎◌, length-append}
use Rattle.std.specs.List.{AllByRecursion}
use Rattle.std.proofs.lemmas.Bool.{cases_lt}
use Rattle.std.proofs.lemmas.List.{length-map, length-drop}
use Rattle.sj_base.specs.declared.EndId.{EndId}
use Rattle.sj_base.specs.declared.Msg.{Msg}
use Rattle.sj_rules.specs.Limits.{limit_of_messages}
use Rattle.sj_rules.specs.Play.{Play}
use Rattle.sj_rules.specs.Premises.{IsLawful}
use Rattle.sj_rules.specs.Record.{other_end}
use Rattle.sj_rules.specs.PlainSide.{PlainSide, PlainAt}
use Rattle.sj_rules.specs.PlainChanges.{waits_of}
use Rattle.sj_forward_rules.specs.Record.{SentAt, StateAt, Held, Parked, Passing, Closed, RecordAt, FrameAt, In, Out, Claim, Open, stored}
use Rattle.sj_forward_rules.specs.World.{WorldAt}
use Rattle.sj_forward_laws.specs.Roads.{inward, claiming, behind_of, IsOnRoad, messages_in}
use Rattle.sj_forward_laws.specs.Pipe.{traffic, from_last, from_first, in_part, out_part, pipe}
use Rattle.sj_forward_laws.specs.Kept.{Seat, in_use, on_its_way, at_its_end, in_open, IsLast, IsLeft, IsRecorded, IsKept}
use Rattle.sj_forward_laws.proofs.InLemmas.{came}
use Rattle.sj_forward_laws.proofs.WeightLemmas.{MeetsFew}

-- a part is no longer than the whole
part_le : (part : ℕ → List SentAt) (t h : ℕ) → h ≤ t → length (part h) ≤ length (from_last part t)
part_le part zero h le = (let i : h ≡ 0 = omega (arith, le) in omega (arith, ap (λ (x : ℕ). length (part x)) i))
part_le part (suc k) h le = by (λ l. part_le part k h l) (cases_lt h (suc k))
  where
    by : (h ≤ k → length (part h) ≤ length (from_last part k)) → (h < suc k) ⊎ (suc k ≤ h)
        → length (part h) ≤ length (part (suc k) ++ from_last part k)
    by below (inl lt) = let le' = below (omega (arith, lt)) in omega (arith, le', length-append (part (suc k)) (from_last part k))
    by below (inr ge) =
        let i : h ≡ suc k = omega (arith, le, ge) in omega (arith, ap (λ (x : ℕ). length (part x)) i, length-append (part (suc k)) (from_last part k))

-- the last hop number is that of the handovers, or one less
top_few : {P : Type 0} (IsOver : P → Type 0) (x : PlainSide P) (waits : List Msg) (top : ℕ) (seat : Seat) (st : StateAt)
    → IsLast IsOver x waits top seat st → (waits ≡ [] → ⊥) → top ≤ x.hops
top_few IsOver x waits top in_use (Held ms) last some = omega (arith, last)
top_few IsOver x waits top (on_its_way e n) (Parked ms) last some = omega (arith, last)
top_few IsOver x waits top at_its_end Closed last some = absurd (some last.1)
top_few IsOver x waits top in_open Closed last some = omega (arith, last.1)
top_few IsOver x waits top in_open (Held ms) last some = absurd last
top_few IsOver x waits top in_open (Parked ms) last some = absurd last
top_few IsOver x waits top in_open (Passing p) last some = absurd last
top_few IsOver x waits top in_use (Parked ms) last some = absurd last
top_few IsOver x waits top in_use (Passing p) last some = absurd last
top_few IsOver x waits top in_use Closed last some = absurd last
top_few IsOver x waits top (on_its_way e n) (Held ms) last some = absurd last
top_few IsOver x waits top (on_its_way e n) (Passing p) last some = absurd last
top_few IsOver x waits top (on_its_way e n) Closed last some = absurd last
top_few IsOver x waits top at_its_end (Held ms) last some = absurd last
top_few IsOver x waits top at_its_end (Parked ms) last some = absurd last
top_few IsOver x waits top at_its_end (Passing p) last some = absurd last

abbrev stored_of : Option RecordAt → List SentAt
stored_of None = []
stored_of (Some r) = stored r.state

module _ {P Q : Type 0} (IsOver : P → Type 0) (play : Play P Q) (binds : Q → EndId → Bool) (parties : ℕ) (w : WorldAt Q) (plain : PlainAt P Q)
    (kept : IsKept IsOver binds parties w plain)
    (lawful : IsLawful IsOver play binds parties plain) (q p : ℕ) where
  pipe_few : (e : EndId) → e.side < 2 → length (pipe w.lanes kept.chains kept.states e) ≤ limit_of_messages
  pipe_few e low =
      let sent = (lawful.counts (other_end e) (omega arith)).messages in
      let same : length (waits_of plain e) ≡ length (pipe w.lanes kept.chains kept.states e) =
      ap (λ l. length l) (sym (kept.waits e low)) ∙ length-map (pipe w.lanes kept.chains kept.states e) (λ (m : SentAt). m.msg) in
      omega (arith, sent, same, length-drop (plain.sides e).taken (plain.sides (other_end e)).sent)

  part_few : (e : EndId) (h : ℕ) → h ≤ kept.chains.top e
      → length (in_part w.lanes kept.chains kept.states e h) ≤ length (pipe w.lanes kept.chains kept.states e)
  part_few e h le =
      omega (
        arith,
        part_le (in_part w.lanes kept.chains kept.states e) (kept.chains.top e) h le,
        length-append (from_last (in_part w.lanes kept.chains kept.states e) (kept.chains.top e))
            (from_first (out_part w.lanes kept.chains kept.states (other_end e)) (kept.chains.top (other_end e))),
      )

  hop_few : (e : EndId) (h : ℕ) (m : SentAt) (rest : List FrameAt) → w.lanes q p ≡ In e h m ∷ rest → h ≤ 200
  hop_few e h m rest front =
      let few = (lawful.counts e on.there.0).hops in
      let top =
      top_few IsOver (plain.sides e) (waits_of plain e) (kept.chains.top e) (kept.seats e) (kept.states e (kept.chains.top e))
      (kept.last e on.there.0) some in
      omega (arith, few, top, on.there.1)
    where
      on : IsOnRoad kept.chains q p (In e h m)
      on = (subst (λ l. AllByRecursion (IsOnRoad kept.chains q p) l) front (kept.joined.lanes q p)).0

      some : waits_of plain e ≡ [] → ⊥
      some none =
          let same : length (pipe w.lanes kept.chains kept.states e) ≡ 0 =
          sym (length-map (pipe w.lanes kept.chains kept.states e) (λ (m : SentAt). m.msg)) ∙ ap (λ l. length l) (kept.waits e on.there.0 ∙ none) in
          let one = ap (λ l. length l) (came w kept.chains kept.states kept.joined q p e h m rest front) in
          omega (
            arith,
            same,
            one,
            part_few e h on.there.1,
            length-append (stored (kept.states e h))
                (messages_in (traffic w.lanes kept.chains (inward e h))),
          )

  claim_few : (e : EndId) (h : ℕ) (rest : List FrameAt) → w.lanes q p ≡ Claim e h ∷ rest → (behind : ℕ) (ms : List SentAt)
      → (w.nodes p).records e h ≡ Some (record { behind = behind; state = Parked ms }) → length ms ≤ limit_of_messages
  claim_few e h rest front behind ms there = by (kept.states e h) refl
    where
      on : IsOnRoad kept.chains q p (Claim e h)
      on = (subst (λ l. AllByRecursion (IsOnRoad kept.chains q p) l) front (kept.joined.lanes q p)).0

      found : IsRecorded ((w.nodes p).records e h) (behind_of kept.chains e h) (kept.states e h)
      found =
          subst (λ (x : ℕ). IsRecorded ((w.nodes x).records e h) (behind_of kept.chains e h) (kept.states e h)) on.goal
          (kept.joined.records e h on.there.0 (omega (arith, on.there.1)))

      left : (st : StateAt) → kept.states e h ≡ st → IsLeft e h (kept.chains.at e (suc h)) (traffic w.lanes kept.chains (claiming e h)) st
      left st is =
          subst (λ s. IsLeft e h (kept.chains.at e (suc h)) (traffic w.lanes kept.chains (claiming e h)) s) is
          (kept.joined.left e h on.there.0 on.there.1)

      there_is : (st : StateAt) → kept.states e h ≡ st → IsRecorded ((w.nodes p).records e h) (behind_of kept.chains e h) st
      there_is st is = subst (λ s. IsRecorded ((w.nodes p).records e h) (behind_of kept.chains e h) s) is found

      by : (st : StateAt) → kept.states e h ≡ st → length ms ≤ limit_of_messages
      by (Held xs) is = absurd (left (Held xs) is)
      by (Parked xs) is =
          let same : ms ≡ xs = ap stored_of (sym there ∙ there_is (Parked xs) is) in
          let here : stored (kept.states e h) ≡ xs = ap stored is in
          omega (
            arith,
            ap (λ l. length l) same,
            ap (λ l. length l) here,
            part_few e h (omega (arith, on.there.1)),
            pipe_few e on.there.0,
            length-append (stored (kept.states e h)) (messages_in (traffic w.lanes kept.chains (inward e h))),
          )
      by (Passing k) is =
          let same : ms ≡ [] = ap stored_of (sym there ∙ there_is (Passing k) is) in
          omega (arith, ap (λ l. length l) same)
      by Closed is = absurd (left Closed is)

  -- the first frame of a lane meets few
  pub front_meets_few : (f : FrameAt) (rest : List FrameAt) → w.lanes q p ≡ f ∷ rest → MeetsFew limit_of_messages (w.nodes p) f
  front_meets_few (In e h m) rest front = hop_few e h m rest front
  front_meets_few (Out e h m) rest front = tt
  front_meets_few (Claim e h) rest front = claim_few e h rest front
  front_meets_few (Open sess) rest front = tt
