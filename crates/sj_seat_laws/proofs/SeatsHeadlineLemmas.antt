-- What was sent and taken in a run with several seats, what fits, and who has which end.
use Rattle.std.proofs.Common.{◌≡◌, ℕ, nat_lt, not, List, [], ◌∷◌, ◌++◌, map, drop, length, slice_get, Option, Some, None, option_map, option_and_then, unwrap_or, refl, ap, sym, ◌∙◌, subst, arith, append-nil, append_assoc, inl, inr}
use Rattle.std.proofs.lemmas.Bool.{cases_eq}
use Rattle.sj_base.specs.declared.EndId.{EndId}
use Rattle.sj_lang.specs.FileAt.{FileAt}
use Rattle.sj_semantics.specs.declared.Passed.{Passed}
use Rattle.sj_semantics.specs.Acts.{acts_on, sent_by, sent_on, taken_by, taken_on, uses_on}
use Rattle.sj_semantics.specs.Ends.{EndAt, Session, end_at, other_end, untaken_for}
use Rattle.sj_semantics.specs.Program.{Program}
use Rattle.sj_semantics.specs.Uses.{Use, after_uses, begins, delegates, sends, takes}
use Rattle.sj_semantics.specs.World.{Change, World, change_of, change_of_program, changed_world}
use Rattle.sj_semantics_laws.specs.Bound.{UseBound}
use Rattle.sj_semantics_laws.specs.Unshared.{bindings_of}
use Rattle.sj_semantics_laws.proofs.AlteredLemmas.{one-le-sum_by}
use Rattle.sj_semantics_laws.proofs.ChangeLemmas.{rests_on}
use Rattle.sj_semantics_laws.proofs.FrontLemmas.{Taking, by_taking, front_whole}
use Rattle.sj_semantics_laws.proofs.HolderLemmas.{act_uses_bound}
use Rattle.sj_semantics_laws.proofs.MomentLemmas.{holder_is_one}
use Rattle.sj_headline_laws.specs.Begins.{IsOnItsWay, IsTakenIn}
use Rattle.sj_headline_laws.specs.Headline.{FitsTaker, IsFront, messages}
use Rattle.sj_headline_laws.proofs.DoneLemmas.{same_end_at}
use Rattle.sj_headline_laws.proofs.EndedLemmas.{done_is_taken}
use Rattle.sj_headline_laws.proofs.FittingLemmas.{next_has_a_place}
use Rattle.sj_headline_laws.proofs.FreeLemmas.{AllFree, Free, change_free, comes, fetched, none_begun}
use Rattle.sj_headline_laws.proofs.GoesLemmas.{AllLocated, IsLocated}
use Rattle.sj_headline_laws.proofs.TakingLemmas.{TakesNext, change_takes_next}
use Rattle.sj_headline_laws.proofs.UnnamedLemmas.{bound_claims, come_uncarried, named_carried}
use Rattle.sj_seat_laws.specs.Calls.{SeatedAt}
use Rattle.sj_seat_laws.specs.Guards.{seated_want}
use Rattle.sj_seat_laws.specs.SeatedWorld.{Doing, after_doing, beside, doing_of}
use Rattle.sj_seat_laws.specs.SeatsActs.{seats_acts, uses_by, uses_of_change, uses_of_doing}
use Rattle.sj_seat_laws.specs.SeatsHeadline.{BeginFreeEnds, HasOneHolderEach, IsAllDone, IsNowhere, IsOwnUse, OfEachEnd, TakesWhatFits, UsesItsOwn, uses_of}
use Rattle.sj_seat_laws.specs.SeatsStart.{Callers, IsSeatsRun, seats_start}
use Rattle.sj_seat_laws.specs.SeatsWorld.{SeatsWorld, after_seats, all_beside, seat_of, seats_act, seats_act_by, with_seat}
use Rattle.sj_seat_laws.proofs.BeginningLemmas.{doing_free}
use Rattle.sj_seat_laws.proofs.HeadlineLemmas.{So, doing_taking, fresh_at, uses_so}
use Rattle.sj_seat_laws.proofs.HeldLemmas.{held_by_place, place_by_held}
use Rattle.sj_seat_laws.proofs.LocatedLemmas.{IsFound}
use Rattle.sj_seat_laws.proofs.SeatsLemmas.{IsSeats, all_hold, holder_of, one_holds, two_hold}
use Rattle.sj_seat_laws.proofs.SeatsRunLemmas.{between}
use Rattle.sj_seat_laws.proofs.UsingLemmas.{IsHeldUse, calls_own, doing_next, use_at, worn_doing}

-- ---- what an act uses

-- the world after an act has the sessions after its uses, and what it takes is next
pub record StepFacts (t : SeatsWorld) (q : ℕ) (v : SeatsWorld) : Type 0 where
  pub sessions : v.world.sessions ≡ after_uses q (uses_of t q) t.world.sessions
  pub taking : (e : EndId) → Taking t.world.sessions e q (uses_of t q)

pub step_facts : (t : SeatsWorld) (q : ℕ) (v : SeatsWorld) → seats_act t q ≡ Some v → StepFacts t q v
step_facts t q v h = by (seat_of t.seats q) refl h
  where
    facts : (o : Option SeatedAt) → seat_of t.seats q ≡ o → (us : List (EndId × Use)) → uses_by t q o ≡ us → v.world.sessions ≡ after_uses q us t.world.sessions → ((e : EndId) → Taking t.world.sessions e q us) → StepFacts t q v
    facts o at us is sessions taking =
        let same : uses_of t q ≡ us = ap (uses_by t q) at ∙ is in
        record {
          sessions = sessions ∙ ap (λ (x : List (EndId × Use)). after_uses q x t.world.sessions) (sym same);
          taking = λ e. subst (Taking t.world.sessions e q) (sym same) (taking e);
        }

    own : (s : SeatedAt) → seat_of t.seats q ≡ Some s → (o : Option Doing) → doing_of q (beside s t.world) ≡ o → option_map (λ d. with_seat q t.seats (after_doing q (beside s t.world) d)) o ≡ Some v → StepFacts t q v
    own s at None is k = cc
    own s at (Some d) is k =
        let same : with_seat q t.seats (after_doing q (beside s t.world) d) ≡ v = cc in
        facts (Some s) at d.uses (ap uses_of_doing is) (ap (λ (x : SeatsWorld). x.world.sessions) (sym same))
        (λ e. doing_taking q (beside s t.world) e (seated_want s) d (worn_doing q (beside s t.world) d (not (nat_lt s.steps 10000)) is))

    changed : (c : Change) → change_of t.world q ≡ Some c → (e : EndId) (o : Option Program) → slice_get t.world.parties q ≡ o → Taking t.world.sessions e q c.uses
    changed c change e None there = let none : None ≡ Some c = sym (ap (option_and_then (change_of_program t.world q)) there) ∙ change in cc
    changed c change e (Some g) there =
        let made : change_of_program t.world q g ≡ Some c = sym (ap (option_and_then (change_of_program t.world q)) there) ∙ change in
        let r = rests_on t.world q g c made in
        by_taking t.world e q g c r.want r.by_it

    by_file : seat_of t.seats q ≡ None → (c : Option Change) → change_of t.world q ≡ c → option_map (all_beside t.seats) (option_map (changed_world t.world q) c) ≡ Some v → StepFacts t q v
    by_file at None is k = cc
    by_file at (Some c) is k =
        let same : all_beside t.seats (changed_world t.world q c) ≡ v = cc in
        facts None at c.uses (ap uses_of_change is) (ap (λ (x : SeatsWorld). x.world.sessions) (sym same)) (λ e. changed c is e (slice_get t.world.parties q) refl)

    by : (o : Option SeatedAt) → seat_of t.seats q ≡ o → seats_act_by t q o ≡ Some v → StepFacts t q v
    by None at k = by_file at (change_of t.world q) refl k
    by (Some s) at k = own s at (doing_of q (beside s t.world)) refl k

-- ---- in order

run_so : (t u : SeatsWorld) (qs : List ℕ) (e : EndId) (ts ss : List Passed) → after_seats t qs ≡ Some u → So t.world.sessions e ts ss
    → So u.world.sessions e (ts ++ taken_on e (seats_acts t qs)) (ss ++ sent_on (other_end e) (seats_acts t qs))
run_so t u [] e ts ss run so =
    let it : t ≡ u = cc in
    subst (λ (xs : List Passed). So u.world.sessions e xs (ss ++ [])) (sym (append-nil ts))
    (subst (λ (xs : List Passed). So u.world.sessions e ts xs) (sym (append-nil ss)) (subst (λ (x : SeatsWorld). So x.world.sessions e ts ss) it so))
run_so t u (q ∷ qs) e ts ss run so =
    let m = between t u q qs run in
    let f = step_facts t q m.world m.before in
    let us = uses_of t q in
    let acts : seats_acts t (q ∷ qs) ≡ record { by = q; uses = us } ∷ seats_acts m.world qs = ap (λ o. unwrap_or (option_map (λ v. record { by = q; uses = us } ∷ seats_acts v qs) o) []) m.before in
    let step : So m.world.world.sessions e (ts ++ uses_on e taken_by q us) (ss ++ uses_on (other_end e) sent_by q us) =
    subst (λ (x : List Session). So x e (ts ++ uses_on e taken_by q us) (ss ++ uses_on (other_end e) sent_by q us)) (sym f.sessions) (uses_so q us t.world.sessions e ts ss so (f.taking e)) in
    let rest = run_so m.world u qs e (ts ++ uses_on e taken_by q us) (ss ++ uses_on (other_end e) sent_by q us) m.afterwards step in
    subst (λ (xs : List Passed). So u.world.sessions e xs (ss ++ sent_on (other_end e) (seats_acts t (q ∷ qs))))
    (append_assoc ts (uses_on e taken_by q us) (taken_on e (seats_acts m.world qs)) ∙ ap (λ as'. ts ++ acts_on e taken_by as') (sym acts))
    (subst (λ (xs : List Passed). So u.world.sessions e ((ts ++ uses_on e taken_by q us) ++ taken_on e (seats_acts m.world qs)) xs)
    (append_assoc ss (uses_on (other_end e) sent_by q us) (sent_on (other_end e) (seats_acts m.world qs)) ∙ ap (λ as'. ss ++ acts_on (other_end e) sent_by as') (sym acts))
    rest)

module _ (file : FileAt) (calls : Callers) (acts : List ℕ) (t : SeatsWorld) (run : IsSeatsRun file calls acts t) where
  -- what was taken on an end, with what is untaken there, is what was sent on the other one
  run_untaken : (e : EndId) → messages (taken_on e (seats_acts (seats_start file calls) acts)) ++ untaken_for t.world.sessions e ≡ messages (sent_on (other_end e) (seats_acts (seats_start file calls) acts))
  run_untaken e =
      let ts = taken_on e (seats_acts (seats_start file calls) acts) in
      let sent = (end_at t.world.sessions (other_end e)).sent in
      let so = run_so (seats_start file calls) t acts e [] [] run (record {
        front = tt;
        counted = ap (λ (xs : List ℕ). length xs) (sym (fresh_at file file.connects e.sess e.side).1);
        sent = (fresh_at file file.connects (other_end e).sess (other_end e).side).0;
      }) in
      ap (λ (n : ℕ). messages ts ++ map (λ x. x.msg) (drop n sent)) (sym so.counted) ∙ front_whole ts sent so.front ∙ ap (map (λ x. x.msg)) so.sent

  pub takes_in_order : OfEachEnd file calls acts IsFront
  takes_in_order e = (untaken_for t.world.sessions e, sym (run_untaken e))

  -- ---- all of it, where all is done

  module _ (n : ℕ) (i : IsSeats file n t) (over : IsAllDone t) where
    located : AllLocated t.world
    located e is_open = by (i.found e is_open)
      where
        by : IsFound t.world (λ f. all_hold f t.seats) e → IsLocated t.world e
        by (inl l) = l
        by (inr h) =
            let b = holder_of t.seats e h in
            let r = place_by_held b.1.ends e b.3 in
            absurd (is_open (ap (λ (x : EndAt). x.place) (same_end_at t.world.sessions e r.0 r.1) ∙ i.places b.0 b.1 b.2 r.0 r.2.0 r.2.1 ∙ over.codes b.0 b.1 b.2 r.0 r.2.0 r.2.1))

    pub takes_all : OfEachEnd file calls acts (λ taken sent. taken ≡ sent)
    takes_all e =
        let taken = messages (taken_on e (seats_acts (seats_start file calls) acts)) in
        sym (append-nil taken) ∙ ap (λ ms. taken ++ ms) (sym (done_is_taken file t.world i.sound located over.others e)) ∙ run_untaken e

-- ---- at each moment

module _ (file : FileAt) (n : ℕ) (t : SeatsWorld) (i : IsSeats file n t) where
  abbrev w : World
  w = t.world

  -- ---- what is taken fits

  pub seats_take_what_fits : (q : ℕ) → TakesWhatFits t q
  seats_take_what_fits q k e m there = by (seat_of t.seats q) there
    where
      fits : (us : List (EndId × Use)) → TakesNext w.sessions us → slice_get us k ≡ Some (e, takes m) → FitsTaker w.sessions e m
      fits us next h = let x = next k e m h in subst (FitsTaker w.sessions e) x.2 (next_has_a_place file w i.sound e x.0 x.1)

      by_change : (c : Option Change) → change_of w q ≡ c → slice_get (uses_of_change c) k ≡ Some (e, takes m) → FitsTaker w.sessions e m
      by_change None is h = absurd (cc h)
      by_change (Some c) is h = fits c.uses (change_takes_next w q c (slice_get w.parties q) is) h

      by_doing : (s : SeatedAt) (o : Option Doing) → doing_of q (beside s w) ≡ o → slice_get (uses_of_doing o) k ≡ Some (e, takes m) → FitsTaker w.sessions e m
      by_doing s None is h = absurd (cc h)
      by_doing s (Some d) is h = fits d.uses (doing_next q w (seated_want s) d (worn_doing q (beside s w) d (not (nat_lt s.steps 10000)) is)) h

      by : (o : Option SeatedAt) → slice_get (uses_by t q o) k ≡ Some (e, takes m) → FitsTaker w.sessions e m
      by None h = by_change (change_of w q) refl h
      by (Some s) h = by_doing s (doing_of q (beside s w)) refl h

  -- ---- who has which end

  pub one_holder_each : HasOneHolderEach t
  one_holder_each e q r (inl a) (inl b) = holder_is_one w q r e i.sound.unshared a b
  one_holder_each e q r (inl a) (inr b) = absurd (omega (arith, i.once e, held_by_place b.0.ends e b.2.0 b.2.1, one_holds t.seats r b.0 b.1 e, bound_claims w q a.0 e a.1 a.2))
  one_holder_each e q r (inr a) (inl b) = absurd (omega (arith, i.once e, held_by_place a.0.ends e a.2.0 a.2.1, one_holds t.seats q a.0 a.1 e, bound_claims w r b.0 e b.1 b.2))
  one_holder_each e q r (inr a) (inr b) =
      elim (cases_eq q r) [
        | inl same ↦ same
        | inr other ↦ absurd (omega (arith, i.once e, held_by_place a.0.ends e a.2.0 a.2.1, held_by_place b.0.ends e b.2.0 b.2.1, two_hold t.seats q r a.0 b.0 e a.1 b.1 other))
      ]

  -- ---- what is used is the party's

  own_held : (q : ℕ) (s : SeatedAt) → seat_of t.seats q ≡ Some s → (e : EndId) (u : Use) → IsHeldUse s.ends e u → IsOwnUse t q e u
  own_held q s at e (sends m) h = inr (s, at, h)
  own_held q s at e (takes m) h = inr (s, at, h)
  own_held q s at e delegates h = inr (s, at, h)
  own_held q s at e (begins place) h = tt

  own_bound : (q : ℕ) (g : Program) (e : EndId) (u : Use) → slice_get w.parties q ≡ Some g → UseBound g.ends e u → IsOwnUse t q e u
  own_bound q g e (sends m) there b = inl (g, there, b)
  own_bound q g e (takes m) there b = inl (g, there, b)
  own_bound q g e delegates there b = inl (g, there, b)
  own_bound q g e (begins place) there b = tt

  uses_own : (q k : ℕ) (e : EndId) (u : Use) → slice_get (uses_of t q) k ≡ Some (e, u) → IsOwnUse t q e u
  uses_own q k e u there = by (seat_of t.seats q) refl there
    where
      by_doing : (s : SeatedAt) → seat_of t.seats q ≡ Some s → (o : Option Doing) → doing_of q (beside s w) ≡ o → slice_get (uses_of_doing o) k ≡ Some (e, u) → IsOwnUse t q e u
      by_doing s at None is h = absurd (cc h)
      by_doing s at (Some d) is h = own_held q s at e u (calls_own q (beside s w) s.calls d (worn_doing q (beside s w) d (not (nat_lt s.steps 10000)) is) k e u h)

      by_change : (g : Option Program) → slice_get w.parties q ≡ g → (c : Option Change) → change_of w q ≡ c → slice_get (uses_of_change c) k ≡ Some (e, u) → IsOwnUse t q e u
      by_change g at None is h = absurd (cc h)
      by_change None at (Some c) is h = let none : None ≡ Some c = sym (ap (option_and_then (change_of_program w q)) at) ∙ is in absurd (cc none)
      by_change (Some g) at (Some c) is h = own_bound q g e u at (use_at g.ends c.uses k e u (act_uses_bound w q g c at is) h)

      by : (o : Option SeatedAt) → seat_of t.seats q ≡ o → slice_get (uses_by t q o) k ≡ Some (e, u) → IsOwnUse t q e u
      by None at h = by_change (slice_get w.parties q) refl (change_of w q) refl h
      by (Some s) at h = by_doing s at (doing_of q (beside s w)) refl h

  free_ends : (all : List (EndId × Use)) → AllFree w all all → BeginFreeEnds t all
  free_ends all free e begun = by (free e begun.0 begun.1 begun.2)
    where
      by : Free w all e → IsNowhere t e × (IsOnItsWay w e → IsTakenIn all e)
      by (comes come) = (
        λ q has. elim has [
          | inl b ↦ absurd (omega (arith, i.sound.unshared.to_come e come, b.2.some_name, one-le-sum_by (λ (g : Program). bindings_of e g.ends) w.parties q b.0 b.1))
          | inr h ↦ absurd (omega (arith, i.apart e come, held_by_place h.0.ends e h.2.0 h.2.1, one_holds t.seats q h.0 h.1 e))
        ],
        λ on. absurd (omega (arith, on, come_uncarried w e i.sound.unshared come)),
      )
      by (fetched f x next names taken) = (
        λ q has. elim has [
          | inl b ↦ absurd (omega (arith, i.once e, b.2.some_name, one-le-sum_by (λ (g : Program). bindings_of e g.ends) w.parties q b.0 b.1, named_carried w e f x next names))
          | inr h ↦ absurd (omega (arith, i.once e, held_by_place h.0.ends e h.2.0 h.2.1, one_holds t.seats q h.0 h.1 e, named_carried w e f x next names))
        ],
        λ on. taken,
      )

  begins_free : (q : ℕ) → BeginFreeEnds t (uses_of t q)
  begins_free q = by (seat_of t.seats q)
    where
      by_doing : (s : SeatedAt) (o : Option Doing) → doing_of q (beside s w) ≡ o → BeginFreeEnds t (uses_of_doing o)
      by_doing s None is = free_ends [] (none_begun w [])
      by_doing s (Some d) is = free_ends d.uses (doing_free q w (seated_want s) d (worn_doing q (beside s w) d (not (nat_lt s.steps 10000)) is))

      by_change : (o : Option Change) → change_of w q ≡ o → BeginFreeEnds t (uses_of_change o)
      by_change None is = free_ends [] (none_begun w [])
      by_change (Some c) is = free_ends c.uses (change_free w q c (slice_get w.parties q) is)

      by : (o : Option SeatedAt) → BeginFreeEnds t (uses_by t q o)
      by None = by_change (change_of w q) refl
      by (Some s) = by_doing s (doing_of q (beside s w)) refl

  pub seats_use_their_own : (q : ℕ) → UsesItsOwn t q
  seats_use_their_own q = record { own = uses_own q; begun = begins_free q }
