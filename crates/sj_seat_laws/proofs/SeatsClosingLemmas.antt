-- An end that is closed is nowhere from its close on, and one that is delegated until its session
-- message is taken, in a run with several seats.
use Rattle.std.proofs.Common.{◌≡◌, ℕ, ◌+◌, ◌≤◌, nat_lt, not, List, [], ◌∷◌, ◌++◌, length, slice_get, Option, Some, None, option_map, refl, ap, sym, ◌∙◌, subst, arith, inl, inr}
use Rattle.std.proofs.lemmas.Bool.{false_from_ne_true}
use Rattle.sj_base.specs.declared.EndId.{EndId}
use Rattle.sj_lang.specs.FileAt.{FileAt}
use Rattle.sj_acceptance.specs.Accepted.{IsAccepted}
use Rattle.sj_semantics.specs.declared.Want.TheVariants as steps
use Rattle.sj_semantics.specs.Ends.{end_at}
use Rattle.sj_semantics.specs.World.{World, act_of, session_message}
use Rattle.sj_semantics_laws.specs.Runs.{IsUntaken}
use Rattle.sj_semantics_laws.specs.Unshared.{IsToCome, claims_on}
use Rattle.sj_semantics_laws.proofs.BoundLemmas.{is_end-self, want_bound}
use Rattle.sj_semantics_laws.proofs.EndLemmas.{Extends, end_at-after_uses_extends}
use Rattle.sj_semantics_laws.proofs.HolderLemmas.{closed_nowhere}
use Rattle.sj_semantics_laws.proofs.KeepLemmas.{claims_on-act, come_before}
use Rattle.sj_semantics_laws.proofs.OnItsWayLemmas.{delegating_sends, on_its_way}
use Rattle.sj_headline_laws.specs.Headline.{next_step}
use Rattle.sj_headline_laws.proofs.UnnamedLemmas.{bound_claims}
use Rattle.sj_rules.specs.Node as wanted
use Rattle.sj_seat_laws.specs.Calls.{SeatedAt}
use Rattle.sj_seat_laws.specs.Guards.{seated_want}
use Rattle.sj_seat_laws.specs.SeatedWorld.{Doing, SeatedWorld, after_doing, beside, doing_of}
use Rattle.sj_seat_laws.specs.SeatsHeadline.{Closes, ClosesForGood, Delegates, DelegatesAtOnce, FromEachActOn, IsNowhere, uses_of}
use Rattle.sj_seat_laws.specs.SeatsStart.{Callers, seats_start}
use Rattle.sj_seat_laws.specs.SeatsWorld.{SeatsWorld, after_seats, all_beside, seat_of, seats_act, seats_act_by, with_seat}
use Rattle.sj_seat_laws.proofs.BeginningLemmas.{doing_fits}
use Rattle.sj_seat_laws.proofs.UsingLemmas.{worn_doing}
use Rattle.sj_semantics_laws.proofs.ToComeLemmas.{opened_was_to_come, opens}
use Rattle.sj_seat_laws.proofs.ClosingLemmas.{closes_by, own_closed, step_there, worn_fewer}
use Rattle.sj_seat_laws.proofs.DelegatingLemmas.{own_sends, unheld}
use Rattle.sj_seat_laws.proofs.OpeningLemmas.{come_then}
use Rattle.sj_seat_laws.proofs.HeldLemmas.{held_by_place}
use Rattle.sj_seat_laws.proofs.SeatsHeadlineLemmas.{step_facts}
use Rattle.sj_seat_laws.proofs.SeatsLemmas.{IsSeats, all_hold, held_altered, one_holds, seat_in, seats_keep}
use Rattle.sj_seat_laws.proofs.SeatsRunLemmas.{between, seats_run}

-- in how many ways an end is had or on its way
abbrev pub all_total : EndId → SeatsWorld → ℕ
all_total e t = claims_on e t.world + all_hold e t.seats

-- the act of a party, as it is played
pub record ByCode (t v : SeatsWorld) (q : ℕ) (s : SeatedAt) : Type 0 where
  pub doing : Doing
  pub done_so : doing_of q (beside s t.world) ≡ Some doing
  pub result : with_seat q t.seats (after_doing q (beside s t.world) doing) ≡ v

by_code : (t v : SeatsWorld) (q : ℕ) (s : SeatedAt) → seat_of t.seats q ≡ Some s → seats_act t q ≡ Some v → ByCode t v q s
by_code t v q s at h = by (doing_of q (beside s t.world)) refl (sym (ap (seats_act_by t q) at) ∙ h)
  where
    by : (o : Option Doing) → doing_of q (beside s t.world) ≡ o → option_map (λ d. with_seat q t.seats (after_doing q (beside s t.world) d)) o ≡ Some v → ByCode t v q s
    by None is k = cc
    by (Some d) is k = record { doing = d; done_so = is; result = let it : with_seat q t.seats (after_doing q (beside s t.world) d) ≡ v = cc in it }

pub record ByFile (t v : SeatsWorld) (q : ℕ) : Type 0 where
  pub world : World
  pub acted : act_of t.world q ≡ Some world
  pub result : all_beside t.seats world ≡ v

by_file : (t v : SeatsWorld) (q : ℕ) → seat_of t.seats q ≡ None → seats_act t q ≡ Some v → ByFile t v q
by_file t v q at h = by (act_of t.world q) refl (sym (ap (seats_act_by t q) at) ∙ h)
  where
    by : (o : Option World) → act_of t.world q ≡ o → option_map (all_beside t.seats) o ≡ Some v → ByFile t v q
    by None is k = cc
    by (Some u) is k = record { world = u; acted = is; result = let it : all_beside t.seats u ≡ v = cc in it }

-- ---- an act makes no further holder of an end that isn't to come, and none comes

pub record Keeps (e : EndId) (t v : SeatsWorld) : Type 0 where
  pub fewer : all_total e v ≤ all_total e t
  pub come : IsToCome v.world e → IsToCome t.world e

act_total : (file : FileAt) (n : ℕ) (t v : SeatsWorld) (q : ℕ) (e : EndId) → IsSeats file n t → (IsToCome t.world e → ⊥) → seats_act t q ≡ Some v → Keeps e t v
act_total file n t v q e i here h = by (seat_of t.seats q) refl
  where
    by : (o : Option SeatedAt) → seat_of t.seats q ≡ o → Keeps e t v
    by None at =
        let a = by_file t v q at h in
        subst (Keeps e t) a.result (record { fewer = omega (arith, claims_on-act t.world a.world q e here a.acted); come = λ c. come_before t.world a.world q e i.sound.unshared a.acted c })
    by (Some s) at =
        let a = by_code t v q s at h in
        let u : SeatedWorld = after_doing q (beside s t.world) a.doing in
        let fits = doing_fits q t.world (seated_want s) a.doing (worn_doing q (beside s t.world) a.doing (not (nat_lt s.steps 10000)) a.done_so) in
        let none = false_from_ne_true (opens e t.world q a.doing.opening) (λ it. here (opened_was_to_come t.world q a.doing.opening e fits it)) in
        subst (Keeps e t) a.result (record {
          fewer = omega (arith, worn_fewer q (beside s t.world) e (not (nat_lt s.steps 10000)) a.doing a.done_so none, held_altered t.seats q s at e (Some u.seat));
          come = λ c. (come_then file q t.world i.sound a.doing.opening a.doing.uses fits e c).0;
        })

run_total : (file : FileAt) (n : ℕ) (t u : SeatsWorld) (qs : List ℕ) (e : EndId) → IsSeats file n t → (IsToCome t.world e → ⊥) → after_seats t qs ≡ Some u → all_total e u ≤ all_total e t
run_total file n t u [] e i here run = let it : t ≡ u = cc in subst (λ (x : SeatsWorld). all_total e x ≤ all_total e t) it (omega arith)
run_total file n t u (q ∷ qs) e i here run =
    let m = between t u q qs run in
    let k = act_total file n t m.world q e i here m.before in
    omega (arith, k.fewer, run_total file (n + 1) m.world u qs e (seats_keep file n t m.world q i m.before) (λ c. here (k.come c)) m.afterwards)

nowhere_by : (u : SeatsWorld) (e : EndId) → all_total e u ≡ 0 → IsNowhere u e
nowhere_by u e none q (inl b) = absurd (omega (arith, none, bound_claims u.world q b.0 e b.1 b.2))
nowhere_by u e none q (inr h) = absurd (omega (arith, none, held_by_place h.0.ends e h.2.0 h.2.1, one_holds u.seats q h.0 h.1 e))

-- ---- a close

-- after it the end is had by nobody
code_closed : (file : FileAt) (n : ℕ) (t v : SeatsWorld) (q : ℕ) (e : EndId) (s : SeatedAt) → IsSeats file n t → seat_of t.seats q ≡ Some s → seated_want s ≡ wanted.closes e → seats_act t q ≡ Some v
    → (all_total e v ≡ 0) × (IsToCome v.world e → ⊥)
code_closed file n t v q e s i at want h =
    let a = by_code t v q s at h in
    let view : SeatedWorld = beside s t.world in
    let u : SeatedWorld = after_doing q view a.doing in
    let c = closes_by view e s.calls refl want in
    let held = held_by_place s.ends e c.place c.there in
    let gone = own_closed file q view a.doing e (seat_in file n t i q s at) want a.done_so in
    let not_here : IsToCome t.world e → ⊥ = λ come. absurd (omega (arith, i.apart e come, held, one_holds t.seats q s at e)) in (
      subst (λ (x : SeatsWorld). all_total e x ≡ 0) a.result (omega (arith, gone, i.once e, held, held_altered t.seats q s at e None, held_altered t.seats q s at e (Some u.seat))),
      λ come. not_here ((act_total file n t v q e i not_here h).come come),
    )

file_closed : (file : FileAt) (n : ℕ) (t v : SeatsWorld) (q : ℕ) (e : EndId) → IsSeats file n t → seat_of t.seats q ≡ None → next_step t.world q ≡ Some (steps.Close e) → seats_act t q ≡ Some v
    → (all_total e v ≡ 0) × (IsToCome v.world e → ⊥)
file_closed file n t v q e i at step h =
    let g = step_there (slice_get t.world.parties q) (steps.Close e) step in
    let bound = bound_claims t.world q g.0 e g.1 (want_bound g.0 (steps.Close e) g.2) in
    let not_here : IsToCome t.world e → ⊥ = λ come. absurd (omega (arith, i.sound.unshared.to_come e come, bound)) in
    let k = act_total file n t v q e i not_here h in
    let a = by_file t v q at h in (
      subst (λ (x : SeatsWorld). all_total e x ≡ 0) a.result (omega (arith, i.once e, bound, closed_nowhere t.world a.world q g.0 e i.sound.unshared g.1 g.2 a.acted)),
      λ come. not_here (k.come come),
    )

-- ---- from the close on

-- the acts after the first ones
rest_of : (s t u : SeatsWorld) (front qs : List ℕ) → after_seats s front ≡ Some t → after_seats s (front ++ qs) ≡ Some u → after_seats t qs ≡ Some u
rest_of s t u [] qs run all = let it : s ≡ t = cc in subst (λ (x : SeatsWorld). after_seats x qs ≡ Some u) it all
rest_of s t u (q ∷ front) qs run all =
    let m = between s t q front run in
    let k = between s u q (front ++ qs) all in
    let same : k.world ≡ m.world = (let both : Some k.world ≡ Some m.world = sym k.before ∙ m.before in cc) in
    rest_of m.world t u front qs m.afterwards (subst (λ (x : SeatsWorld). after_seats x (front ++ qs) ≡ Some u) same k.afterwards)

pub gone_once_closed : (file : FileAt) (calls : Callers) (acts : List ℕ) → IsAccepted file → FromEachActOn file calls acts ClosesForGood
gone_once_closed file calls acts accepted front between' rest q t u parted run all e closes =
    let i = seats_run file calls accepted front t run in
    let m = between t u q between' (rest_of (seats_start file calls) t u front (q ∷ between') run all) in
    let c = by i m.world m.before closes in
    nowhere_by u e (omega (arith, c.0, run_total file (length front + 1) m.world u between' e (seats_keep file (length front) t m.world q i m.before) c.1 m.afterwards))
  where
    by : IsSeats file (length front) t → (v : SeatsWorld) → seats_act t q ≡ Some v → Closes t q e → (all_total e v ≡ 0) × (IsToCome v.world e → ⊥)
    by i v h (inl own) = code_closed file (length front) t v q e own.0 i own.1 own.2 h
    by i v h (inr other) = file_closed file (length front) t v q e i other.0 other.1 h

-- ---- an end that is delegated

-- an end that an untaken message names is nowhere
unnamed : (file : FileAt) (n : ℕ) (t : SeatsWorld) → IsSeats file n t → (e y : EndId) (k q : ℕ) → IsUntaken t.world e k → slice_get (end_at t.world.sessions e).sent k ≡ Some (record { msg = session_message y q; by = q }) → IsNowhere t y
unnamed file n t i e y k q untaken there r (inl b) = on_its_way t.world y e k (record { msg = session_message y q; by = q }) i.sound.unshared untaken there (is_end-self y) r b
unnamed file n t i e y k q untaken there r (inr h) = unheld file r (beside h.0 t.world) (seat_in file n t i r h.0 h.1) e y k q untaken there h.2.0 h.2.1

-- what was sent stays sent
run_extends : (t u : SeatsWorld) (qs : List ℕ) (e : EndId) → after_seats t qs ≡ Some u → Extends (end_at u.world.sessions e).sent (end_at t.world.sessions e).sent
run_extends t u [] e run = let it : t ≡ u = cc in subst (λ (x : SeatsWorld). Extends (end_at x.world.sessions e).sent (end_at t.world.sessions e).sent) it (λ k x h. h)
run_extends t u (q ∷ qs) e run =
    let m = between t u q qs run in
    let f = step_facts t q m.world m.before in
    λ k x h. run_extends m.world u qs e m.afterwards k x (ap (λ zs. slice_get (end_at zs e).sent k) f.sessions ∙ end_at-after_uses_extends q (uses_of t q) t.world.sessions e k x h)

-- the act sends the session message next
sends_next : (t v : SeatsWorld) (q : ℕ) (e y : EndId) → Delegates t q e y → seats_act t q ≡ Some v
    → slice_get (end_at v.world.sessions e).sent (length (end_at t.world.sessions e).sent) ≡ Some (record { msg = session_message y q; by = q })
sends_next t v q e y (inl own) h =
    let a = by_code t v q own.0 own.1 h in
    let view : SeatedWorld = beside own.0 t.world in
    subst (λ (x : SeatsWorld). slice_get (end_at x.world.sessions e).sent (length (end_at t.world.sessions e).sent) ≡ Some (record { msg = session_message y q; by = q })) a.result
    (own_sends q view a.doing e y own.2 a.done_so)
sends_next t v q e y (inr other) h =
    let a = by_file t v q other.0 h in
    let g = step_there (slice_get t.world.parties q) (steps.Delegate e y) other.1 in
    subst (λ (x : SeatsWorld). slice_get (end_at x.world.sessions e).sent (length (end_at t.world.sessions e).sent) ≡ Some (record { msg = session_message y q; by = q })) a.result
    (delegating_sends t.world a.world q g.0 e y g.1 g.2 a.acted)

pub nowhere_on_its_way : (file : FileAt) (calls : Callers) (acts : List ℕ) → IsAccepted file → FromEachActOn file calls acts DelegatesAtOnce
nowhere_on_its_way file calls acts accepted front between' rest q t u parted run all e y delegating untaken =
    let m = between t u q between' (rest_of (seats_start file calls) t u front (q ∷ between') run all) in
    unnamed file (length (front ++ q ∷ between')) u (seats_run file calls accepted (front ++ q ∷ between') u all) e y (length (end_at t.world.sessions e).sent) q untaken
    (run_extends m.world u between' e m.afterwards (length (end_at t.world.sessions e).sent) (record { msg = session_message y q; by = q }) (sends_next t m.world q e y delegating m.before))
