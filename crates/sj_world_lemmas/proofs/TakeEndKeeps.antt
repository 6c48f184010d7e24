-- A party takes an end: the world stays kept.
use Rattle.std.proofs.Common.{◌≡◌, ℕ, ◌+◌, ◌<◌, ◌≤◌, List, [], ◌∷◌, length, refl, sym, ap, subst, ◌∙◌, arith}
use Rattle.std.specs.Prelude.{Bool, true, false, if◌then◌else◌, drop, slice_get, Some, None}
use Rattle.std.proofs.lemmas.Bool.{eq-eqb}
use Rattle.sj_base.specs.declared.EndId.{EndId}
use Rattle.sj_base.specs.declared.Msg.{Msg}
use Rattle.sj_lang.specs.declared.proto.Way.TheVariants.{Into}
use Rattle.sj_rules.specs.PlainSteps.{PlainTakeEnd}
use Rattle.sj_rules.specs.Acts.{plain_taken, plain_placed}
use Rattle.sj_rules.specs.Limits.{limit_of_conns}
use Rattle.sj_rules.specs.Shown.{Shows}
use Rattle.sj_rules.specs.PlainChanges.{CountsHold, waits_of}
use Rattle.sj_world_lemmas.proofs.SwapLemmas.{other_other}
use Rattle.sj_world_lemmas.proofs.DelegateLemmas.{claimed_placed}
use Rattle.sj_rules.specs.Record.{EndAt, Claim, HeldAt, Held, Expected, Mail, other_end, is_same_end}
use Rattle.sj_rules.specs.Node.{Play, NodeAt, takes, with_main, held_behind_take}
use Rattle.sj_rules.specs.World.{WorldAt, Act, happens}
use Rattle.sj_rules.specs.Seat.{Seat, held, parked, claimed, signalled, given, closed, gone, Side, side_of}
use Rattle.sj_rules.specs.PlainSide.{PlainSide, PlainAt, CountsFit, untaken_of}
use Rattle.sj_rules.specs.Invariant.{IsSound}
use Rattle.sj_rules.specs.Linked.{Sessions, IsKept, IsParkedAt, user_of}
use Rattle.sj_world_lemmas.proofs.TableLemmas.{with_tables}
use Rattle.sj_world_lemmas.proofs.PostLemmas.{with_posts}
use Rattle.sj_world_lemmas.proofs.OutcomeLemmas.{Outcome, Goes, goes_on}
use Rattle.sj_world_lemmas.proofs.ActLaws.{ActLaws}
use Rattle.sj_world_lemmas.proofs.EventLemmas.{other_not, apart_from, same_end}
use Rattle.sj_world_lemmas.proofs.LinkLemmas.{KeepAlike, links_stay, same_is}
use Rattle.sj_world_lemmas.proofs.UnlinkLemmas.{links_shrink_end}
use Rattle.sj_world_lemmas.proofs.SeenLemmas.{Here, here_at, here_held, seen_sessions, seen_twice}
use Rattle.sj_world_lemmas.proofs.WaitLemmas.{waits_but_one, waits_less, kept_by, bound_but, bound_new}
use Rattle.sj_world_lemmas.proofs.ActLemmas.{takes_off}
use Rattle.sj_world_lemmas.proofs.ClaimingLemmas.{claims_end}
use Rattle.sj_world_lemmas.proofs.CloseKeeps.{seats_after}
use Rattle.sj_semantics.specs.World.{session_message}

-- an end that is parked somewhere
parked_seat : {P : Type 0} → (keeper : ℕ) (seat : Seat P) → IsParkedAt keeper seat → (e : EndAt P) × (seat ≡ parked keeper e)
parked_seat keeper (parked at e) i = (e, rw i refl)
parked_seat keeper (held at h) i = absurd i
parked_seat keeper (claimed at to e) i = absurd i
parked_seat keeper (signalled at to e ds) i = absurd i
parked_seat keeper (given at to e r ds) i = absurd i
parked_seat keeper (closed at e) i = absurd i
parked_seat keeper gone i = absurd i

module _ {P Q : Type 0} (IsOver : P → Type 0) (binds : Q → EndId → Bool) (play : Play P Q) (pick : ℕ → ℕ → ℕ) (w : WorldAt P Q) (plain plain' : PlainAt P Q) (kept : IsKept IsOver binds w plain) (p : ℕ)
    (fresh : play.is_worn (plain.programs p) ≡ false) (c d : EndId) (keeper : ℕ) (place next : P) (h : HeldAt P) (rest : List Msg) (wants : play.wants (plain.programs p) ≡ takes c place)
    (main : (w.nodes p).main c ≡ Some (Held h)) (waits : h.untaken ≡ session_message d keeper ∷ rest)
    (laws : ActLaws IsOver (plain.sides (other_end c)) (plain.sides c)) (facts : PlainTakeEnd IsOver binds play plain plain' p c d keeper place next) where
  -- where an end is
  abbrev seat_of : EndId → Seat P
  seat_of e = (kept.sessions.sides e).seat

  -- the session message
  abbrev message : Msg
  message = session_message d keeper

  -- the tables after the first step
  abbrev node1 : NodeAt P Q
  node1 = with_main c (Some (Held (held_behind_take h rest next))) (record (w.nodes p) { program = play.goes (w.nodes p).program (Some message) })

  -- the tables after both steps
  abbrev node2 : NodeAt P Q
  node2 = with_main d (Some (Expected keeper place [])) node1

  -- the clock after the event
  abbrev now : ℕ
  now = (w.nodes p).clock + 1

  -- the world between the steps
  abbrev mid : WorldAt P Q
  mid = with_tables w p now node1

  -- the Claim
  abbrev claim_posts : List (Mail P)
  claim_posts = record { party = keeper; body = Claim d } ∷ []

  -- the world after both steps
  abbrev twice : WorldAt P Q
  twice = with_posts (with_tables mid p now node2) p now claim_posts

  -- the world after the act
  abbrev after_it : WorldAt P Q
  after_it = with_posts (with_tables w p now node2) p now claim_posts

  -- the session of the end on which it is taken
  here_on : Here IsOver w (plain.sides (other_end c)) (plain.sides c) (kept.sessions.sides (other_end c)) (kept.sessions.sides c) c (held p h)
  here_on = here_held IsOver w plain.sides kept.sessions c facts.below p h main

  -- the end on which it was taken
  abbrev taken_end : Side P
  taken_end = side_of c next (held p (held_behind_take h rest next)) (kept.sessions.sides c).old (kept.sessions.sides c).live

  -- that end takes the message
  law : (later : List Msg) × (untaken_of (plain.sides (other_end c)) (plain.sides c) ≡ message ∷ later) × IsSound IsOver here_on.pace (plain.sides (other_end c)) (plain_taken (plain.sides c) next) (kept.sessions.sides (other_end c)) taken_end
  law = laws.take (kept.sessions.sides (other_end c)) c (kept.sessions.sides c).place facts.below here_on.pace p h (kept.sessions.sides c).old (kept.sessions.sides c).live message rest next waits here_on.sound

  -- the end that it names is parked at that keeper
  is_parked : (d.side < 2) × IsParkedAt keeper (seat_of d)
  is_parked = kept.linked.parks c 0 d.sess d.side keeper facts.below (ap (λ l. slice_get l 0) law.1)

  -- where the end was
  was_parked : (e : EndAt P) × (seat_of d ≡ parked keeper e)
  was_parked = parked_seat keeper (seat_of d) is_parked.1

  -- and isn't the one on which it was taken
  apart : is_same_end d c ≡ false
  apart = by (is_same_end d c) refl
    where
      by : (k : Bool) → is_same_end d c ≡ k → is_same_end d c ≡ false
      by true j = absurd (subst (λ z. IsParkedAt keeper z) (ap seat_of (same_is d c j) ∙ here_on.seat_is) is_parked.1)
      by false j = j

  -- nor the other way round
  apart_back : is_same_end c d ≡ false
  apart_back = by (is_same_end c d) refl
    where
      by : (k : Bool) → is_same_end c d ≡ k → is_same_end c d ≡ false
      by true j = let o : is_same_end d c ≡ true = ap (λ z. is_same_end d z) (same_is c d j) ∙ same_end d in absurd (cc (o, apart))
      by false j = j

  -- the plain world before the end that is taken gets its place
  abbrev plain1 : PlainAt P Q
  plain1 = record plain' { sides = λ e. if is_same_end e d then plain.sides d else plain'.sides e }

  side1 : plain1.sides c ≡ plain_taken (plain.sides c) next
  side1 = rw apart_back facts.side

  sides1 : (e : EndId) → is_same_end e c ≡ false → plain1.sides e ≡ plain.sides e
  sides1 e i = by (is_same_end e d) refl
    where
      by : (k : Bool) → is_same_end e d ≡ k → (if k then plain.sides d else plain'.sides e) ≡ plain.sides e
      by true j = ap plain.sides (sym (same_is e d j))
      by false j = facts.sides e i j

  -- they differ in that place alone
  differs : {A : Type 0} → (f : PlainSide P → A) → f (plain_placed (plain.sides d) place) ≡ f (plain.sides d) → (e : EndId) → f (plain'.sides e) ≡ f (plain1.sides e)
  differs {A} f same e = by (is_same_end e d) refl
    where
      by : (k : Bool) → is_same_end e d ≡ k → f (plain'.sides e) ≡ f (if k then plain.sides d else plain'.sides e)
      by true j = ap (λ z. f (plain'.sides z)) (same_is e d j) ∙ ap f facts.side_it ∙ same
      by false j = refl

  waits_same : (e : EndId) → e.side < 2 → waits_of plain' e ≡ waits_of plain1 e
  waits_same e low = ap (λ (n : ℕ). drop n (plain'.sides (other_end e)).sent) (differs (λ z. z.taken) refl e) ∙ ap (λ l. drop (plain1.sides e).taken l) (differs (λ z. z.sent) refl (other_end e))

  counts1 : CountsHold plain' → CountsHold plain1
  counts1 counts e low = record {
    fewer = (
        let k : (plain'.sides (other_end e)).taken ≤ length (plain'.sides e).sent = (counts e low).fewer in
        let t : (plain'.sides (other_end e)).taken ≡ (plain1.sides (other_end e)).taken = differs (λ z. z.taken) refl (other_end e) in
        let n : length (plain'.sides e).sent ≡ length (plain1.sides e).sent = ap length (differs (λ z. z.sent) refl e) in
        omega (arith, k, t, n)
        );
    hops = (
        let k : (plain'.sides (other_end e)).hops + (plain'.sides e).hops < limit_of_conns = (counts e low).hops in
        let t : (plain'.sides (other_end e)).hops ≡ (plain1.sides (other_end e)).hops = differs (λ z. z.hops) refl (other_end e) in
        let n : (plain'.sides e).hops ≡ (plain1.sides e).hops = differs (λ z. z.hops) refl e in
        omega (arith, k, t, n)
        );
  }

  -- first the message is taken
  takes_it : Goes IsOver w mid plain.sides plain1.sides kept.sessions c (kept.sessions.sides (other_end c)) taken_end
  takes_it =
      let s : Side P = kept.sessions.sides (other_end c) in
      let r : Side P = kept.sessions.sides c in
      let out : Outcome IsOver w mid c here_on.pace (plain.sides (other_end c)) (plain_taken (plain.sides c) next) s taken_end =
      takes_off IsOver w now c facts.below (plain.sides (other_end c)) (plain.sides c) s r.place r.old r.live here_on.pace p h (record (w.nodes p) { program = play.goes (w.nodes p).program (Some message) }) (λ e. refl) (λ e. refl)
      here_on.shows here_on.shown here_on.sound message rest next waits law.2 in
      goes_on IsOver w mid plain.sides plain1.sides kept.sessions c here_on.pace s taken_end facts.below
      (subst (λ a. Outcome IsOver w mid c here_on.pace a (plain1.sides c) s taken_end) (sym (sides1 (other_end c) (other_not c facts.below)))
      (subst (λ a. Outcome IsOver w mid c here_on.pace (plain.sides (other_end c)) a s taken_end) (sym side1) out))
      (λ e i. sides1 e (apart_from e c i))

  module _ (t : Sessions IsOver mid plain1.sides) (seat_is : (t.sides d).seat ≡ parked keeper was_parked.0) (laws_it : ActLaws IsOver (plain1.sides (other_end d)) (plain1.sides d)) where
    here_it : Here IsOver mid (plain1.sides (other_end d)) (plain1.sides d) (t.sides (other_end d)) (t.sides d) d (parked keeper was_parked.0)
    here_it = here_at IsOver mid plain1.sides t d is_parked.0 (parked keeper was_parked.0) seat_is

    abbrev claimed_end : Side P
    claimed_end = side_of d place (claimed keeper p was_parked.0) (t.sides d).old (t.sides d).live

    -- of a Parked end no place is shown
    shows_placed : Shows mid (t.sides (other_end d)).seat (side_of d place (parked keeper was_parked.0) (t.sides d).old (t.sides d).live)
    shows_placed = record { mains = here_it.shows.mains; olds = here_it.shows.olds; frames = here_it.shows.frames; claims = here_it.shows.claims; gives = here_it.shows.gives }

    claims_it : Goes IsOver mid twice plain1.sides plain'.sides t d (t.sides (other_end d)) claimed_end
    claims_it =
        let s : Side P = t.sides (other_end d) in
        let r : Side P = t.sides d in
        let mains : (e : EndId) → node1.main e ≡ (mid.nodes p).main e = λ e. rw (eq-eqb p p refl) refl in
        let olds : (e : EndId) → node1.old e ≡ (mid.nodes p).old e = λ e. rw (eq-eqb p p refl) refl in
        let sound : IsSound IsOver here_it.pace (plain1.sides (other_end d)) (plain_placed (plain1.sides d) place) s claimed_end =
        claimed_placed IsOver (plain1.sides (other_end d)) (plain1.sides d) s.id d keeper p was_parked.0 place here_it.pace s.place r.place s.seat s.old s.live r.old r.live
        (laws_it.take_end s d r.place is_parked.0 here_it.pace keeper p was_parked.0 r.old r.live here_it.sound) in
        let out : Outcome IsOver mid twice d here_it.pace (plain1.sides (other_end d)) (plain_placed (plain1.sides d) place) s claimed_end =
        claims_end IsOver mid now d is_parked.0 (plain1.sides (other_end d)) (plain_placed (plain1.sides d) place) s place r.old r.live here_it.pace keeper p was_parked.0 node1 mains olds shows_placed here_it.shown here_it.sound.others sound in
        let other_is : plain1.sides (other_end d) ≡ plain'.sides (other_end d) = rw (other_not d is_parked.0) refl in
        let own_is : plain_placed (plain1.sides d) place ≡ plain'.sides d = rw (same_end d) (sym facts.side_it) in
        goes_on IsOver mid twice plain1.sides plain'.sides t d here_it.pace s claimed_end is_parked.0
        (subst (λ a. Outcome IsOver mid twice d here_it.pace a (plain'.sides d) s claimed_end) other_is (subst (λ a. Outcome IsOver mid twice d here_it.pace (plain1.sides (other_end d)) a s claimed_end) own_is out))
        (λ e i. rw (apart_from e d i) refl)

  -- it is a row of the node
  row_is : happens play pick w p Act ≡ Some after_it
  row_is =
      let fresh1 : play.is_worn (w.nodes p).program ≡ false = ap play.is_worn (kept.programs p) ∙ fresh in
      let wants1 : play.wants (w.nodes p).program ≡ takes c place = ap play.wants (kept.programs p) ∙ wants in
      let wanted1 : play.fits (w.nodes p).program message ≡ true = ap (λ z. play.fits z message) (kept.programs p) ∙ facts.wanted in
      let fits : play.next h.end.place Into message ≡ Some next = ap (λ z. play.next z Into message) (here_on.sound.there.fits.1 facts.accepted) ∙ facts.fits in
      let free : (w.nodes p).main d ≡ None = (here_at IsOver w plain.sides kept.sessions d is_parked.0 (parked keeper was_parked.0) was_parked.1).shows.mains p in
      rw (fresh1, wants1, main, waits, wanted1, free, fits) refl

  -- the end is claimed
  pub take_end_keeps : ((x y : PlainSide P) → CountsFit x y → CountsFit y x → ActLaws IsOver x y) → CountsHold plain' → (v : WorldAt P Q) × (happens play pick w p Act ≡ Some v) × IsKept IsOver binds v plain'
  take_end_keeps laws_all counts =
      let fit : CountsHold plain1 = counts1 counts in
      let laws_it : (d.side < 2) → ActLaws IsOver (plain1.sides (other_end d)) (plain1.sides d) =
      λ low. laws_all (plain1.sides (other_end d)) (plain1.sides d) (fit d low) (subst (λ z. CountsFit (plain1.sides z) (plain1.sides (other_end d))) (other_other d low) (fit (other_end d) (omega arith))) in
      let goes1 : Goes IsOver w mid plain.sides plain1.sides kept.sessions c (kept.sessions.sides (other_end c)) taken_end = takes_it in
      let t : Sessions IsOver mid plain1.sides = goes1.after in
      let on_else : (e : EndId) → e.side < 2 → is_same_end e c ≡ false → (t.sides e).seat ≡ seat_of e = seats_after IsOver w mid plain.sides plain1.sides kept.sessions c (kept.sessions.sides (other_end c)) taken_end facts.below goes1 refl in
      let seat_is : (t.sides d).seat ≡ parked keeper was_parked.0 = on_else d is_parked.0 apart ∙ was_parked.1 in
      let goes2 : Goes IsOver mid twice plain1.sides plain'.sides t d (t.sides (other_end d)) (claimed_end t seat_is (laws_it is_parked.0)) = claims_it t seat_is (laws_it is_parked.0) in
      let after : Sessions IsOver after_it plain'.sides = seen_sessions after_it twice (seen_twice w p now now node1 node2 claim_posts) IsOver plain'.sides goes2.after in
      let seat_after : EndId → Seat P = λ e. (goes2.after.sides e).seat in
      let it_else : (e : EndId) → e.side < 2 → is_same_end e d ≡ false → seat_after e ≡ (t.sides e).seat = seats_after IsOver mid twice plain1.sides plain'.sides t d (t.sides (other_end d)) (claimed_end t seat_is (laws_it is_parked.0)) is_parked.0 goes2 refl in
      let at_d : seat_after d ≡ claimed keeper p was_parked.0 = ap (λ z. z.seat) goes2.here in
      let at_c : (t.sides c).seat ≡ held p (held_behind_take h rest next) = ap (λ z. z.seat) goes1.here in
      let user : (e : EndId) → e.side < 2 → is_same_end e d ≡ false → user_of (seat_after e) ≡ user_of (seat_of e) =
      λ e i j. ap user_of (it_else e i j) ∙ by_c (λ e. user_of (t.sides e).seat ≡ user_of (seat_of e)) e (is_same_end e c) refl (ap user_of at_c ∙ sym (ap user_of here_on.seat_is)) (λ k. ap user_of (on_else e i k)) in
      let keep : (e : EndId) → e.side < 2 → is_same_end e d ≡ false → KeepAlike (seat_of e) (seat_after e) =
      λ e i j. subst (λ z. KeepAlike (seat_of e) z) (sym (it_else e i j)) (by_c (λ e. KeepAlike (seat_of e) (t.sides e).seat) e (is_same_end e c) refl
      (subst (λ z. KeepAlike z (t.sides c).seat) (sym here_on.seat_is) (subst (λ z. KeepAlike (held p h) z) (sym at_c) (λ keeper. (λ z. z, λ z. z))))
      (λ k. subst (λ z. KeepAlike (seat_of e) z) (sym (on_else e i k)) (λ keeper. (λ z. z, λ z. z)))) in
      let program : node2.program ≡ play.goes (plain.programs p) (Some message) = ap (λ z. play.goes z (Some message)) (kept.programs p) in (
        after_it,
        row_is,
        kept_by IsOver binds w after_it plain plain' kept p now node2 (play.goes (plain.programs p) (Some message)) facts.proceeds program (λ k. refl) after
            (links_stay plain1 plain' seat_after seat_after (links_shrink_end plain plain1 seat_of seat_after kept.linked c facts.below message
            (waits_less plain plain1 c facts.below sides1 message law.0 (ap (λ z. z.taken) side1) law.1)
            (waits_but_one plain plain1 c facts.below sides1 (ap (λ z. z.sent) side1)) d keeper refl (λ k i. subst (λ z. IsParkedAt k z) at_d i) keep) waits_same (λ z i k. (λ q. q, λ q. q)))
            (bound_but IsOver binds w after_it plain plain' kept p now node2 (play.goes (plain.programs p) (Some message)) facts.proceeds program (λ k. refl) d seat_after facts.binds_else user
            (bound_new IsOver binds w after_it plain plain' kept p now node2 (play.goes (plain.programs p) (Some message)) facts.proceeds program (λ k. refl) d is_parked.0 (ap user_of was_parked.1) facts.binds_it (seat_after d) (ap user_of at_d))),
      )
    where
      by_c : (Is : EndId → Type 0) (e : EndId) (k : Bool) → is_same_end e c ≡ k → Is c → (is_same_end e c ≡ false → Is e) → Is e
      by_c Is e true i at away = subst Is (sym (same_is e c i)) at
      by_c Is e false i at away = away i
