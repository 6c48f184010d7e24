-- Where all have ended and each session was accepted, nothing is untaken.
use Rattle.std.proofs.Common.{◌≡◌, ℕ, zero, suc, ◌+◌, ◌<◌, nat_lt, Bool, true, false, cond, List, [], ◌∷◌, ◌++◌, ◌&&◌, length, slice_get, Some, is_some, refl, ap, sym, ◌∙◌, subst, arith}
use Rattle.std.specs.List.{list_any, list_all}
use Rattle.std.proofs.lemmas.Bool.{and_parts}
use Rattle.sj_base.specs.declared.EndId.{EndId}
use Rattle.sj_semantics.specs.declared.Opened.{Opened}
use Rattle.sj_semantics.specs.declared.Want.{Want}
use Rattle.sj_semantics.specs.declared.Want.TheVariants as wants
use Rattle.sj_semantics.specs.declared.State.{State}
use Rattle.sj_semantics.specs.declared.State.TheVariants as states
use Rattle.sj_semantics.specs.declared.Limit.{Limit}
use Rattle.sj_semantics.specs.declared.Limit.TheVariants as limits
use Rattle.sj_semantics.specs.declared.Verdict.TheVariants as verdicts
use Rattle.sj_lang.specs.FileAt.{FileAt, party_names}
use Rattle.sj_semantics.specs.Program.{Thing, Program, limit_of_steps}
use Rattle.sj_semantics.specs.Requests.{Request, Requests, limit_of_requests, first_offer, opened_by, opened_from}
use Rattle.sj_semantics.specs.State.{state_wanting, state_wanting_if, state_of_program, states_from, states_of, opened_in, is_accepted, is_at_limit, has_ended, is_done, verdict_of}
use Rattle.sj_semantics.specs.World.{World}
use Rattle.sj_semantics.specs.Ends.{end_at, next_for, untaken_for, limit_of_hops}
use Rattle.sj_semantics_laws.proofs.ToComeLemmas.{below_by_get}
use Rattle.sj_headline_laws.proofs.TypedLemmas.{DoesTodo}
use Rattle.sj_headline_laws.proofs.StepLemmas.{fits_step}
use Rattle.sj_headline_laws.proofs.WorldLemmas.{Sound}
use Rattle.sj_headline_laws.proofs.LocatedLemmas.{ends_go, named_none as no_name}
use Rattle.sj_headline_laws.proofs.DoneLemmas.{IsComing, AllComing, all_taken}
use Rattle.sj_headline_laws.proofs.GoesLemmas.{Held, Offered, IsLocated, held, on_its_way, offered, AllLocated}

-- ---- parties that have ended

NotEnded : State → Type 0
NotEnded s = has_ended s ≡ true → ⊥

not_ended_if : (b : Bool) (s t : State) → NotEnded s → NotEnded t → NotEnded (cond b s t)
unfolding NotEnded
not_ended_if true s t n m h = n h
not_ended_if false s t n m h = m h

ready_not_ended : NotEnded states.Ready
unfolding NotEnded
ready_not_ended h = cc

limit_not_ended : (l : Limit) → NotEnded (states.AtLimit l)
unfolding NotEnded
limit_not_ended l h = cc

waits_not_ended : (e : EndId) → NotEnded (states.Waits e)
unfolding NotEnded
waits_not_ended e h = cc

waits_open_not_ended : (q : ℕ) → NotEnded (states.WaitsOpen q)
unfolding NotEnded
waits_open_not_ended q h = cc

steps_not_ended : (steps : ℕ) (s : State) → NotEnded s → NotEnded (cond (nat_lt steps limit_of_steps) s (states.AtLimit limits.Steps))
steps_not_ended steps s n = not_ended_if (nat_lt steps limit_of_steps) s (states.AtLimit limits.Steps) n (limit_not_ended limits.Steps)

ended_by : (w : World) (p steps : ℕ) (want : Want) → has_ended (state_wanting w p steps want) ≡ true → want ≡ wants.Ended
unfolding NotEnded
ended_by w p steps wants.Ended h = refl
ended_by w p steps wants.Local h = absurd (steps_not_ended steps states.Ready ready_not_ended h)
ended_by w p steps (wants.Send e m) h = absurd (steps_not_ended steps states.Ready ready_not_ended h)
ended_by w p steps (wants.Close e) h = absurd (steps_not_ended steps states.Ready ready_not_ended h)
ended_by w p steps (wants.Delegate e y) h =
    absurd (steps_not_ended steps _ (not_ended_if (nat_lt (end_at w.sessions y).hops limit_of_hops) states.Ready (states.AtLimit (limits.Hops y)) ready_not_ended (limit_not_ended (limits.Hops y))) h)
ended_by w p steps (wants.Take e a) h = absurd (steps_not_ended steps _ (not_ended_if (is_some (next_for w.sessions e)) states.Ready (states.Waits e) ready_not_ended (waits_not_ended e)) h)
ended_by w p steps (wants.Request n q) h =
    absurd (steps_not_ended steps _ (not_ended_if (nat_lt (length (w.requests p)) limit_of_requests) states.Ready (states.AtLimit limits.Requests) ready_not_ended (limit_not_ended limits.Requests)) h)
ended_by w p steps (wants.Accept n q) h = absurd (steps_not_ended steps _ (not_ended_if (is_some (first_offer p (w.requests q))) states.Ready (states.WaitsOpen q) ready_not_ended (waits_open_not_ended q)) h)

pub ended_holds_none : (file : FileAt) (w : World) (p : ℕ) (g : Program) → Sound file w → slice_get w.parties p ≡ Some g → has_ended (state_of_program w p g) ≡ true → (e : EndId) → Held e g.ends → ⊥
ended_holds_none file w p g sound there ended e h =
    let f = sound.programs p g there in
    let st = fits_step file.protocols (party_names file.parties) w.sessions g f in
    let want : st.want ≡ wants.Ended = ended_by w p g.steps st.want (sym (ap (λ o. has_ended (state_wanting_if w p g.steps o)) st.wants_it) ∙ ended) in
    let empty : g.todo ≡ [] = ends_go g wants.Ended (st.wants_it ∙ ap Some want) in
    no_name w.sessions g.ends h.name h.end (f.agrees.places h.name ∙ subst (λ (t : List Thing). DoesTodo file.protocols (party_names file.parties) t f.env) empty f.does h.name) h.is_named

-- the state of a party among those of all
state_at : (w : World) (k : ℕ) (gs : List Program) (q : ℕ) (g : Program) → list_all has_ended (states_from w k gs) ≡ true → slice_get gs q ≡ Some g → has_ended (state_of_program w (k + q) g) ≡ true
state_at w k [] q g h at = cc
state_at w k (x ∷ gs) zero g h at =
    let it : x ≡ g = cc in
    ap (λ n. has_ended (state_of_program w n g)) (let e : k + 0 ≡ k = omega arith in e) ∙ ap (λ t. has_ended (state_of_program w k t)) (sym it)
    ∙ (and_parts (has_ended (state_of_program w k x)) (list_all has_ended (states_from w (k + 1) gs)) h).0
state_at w k (x ∷ gs) (suc q) g h at =
    ap (λ n. has_ended (state_of_program w n g)) (let e : k + suc q ≡ k + 1 + q = omega arith in e)
    ∙ state_at w (k + 1) gs q g (and_parts (has_ended (state_of_program w k x)) (list_all has_ended (states_from w (k + 1) gs)) h).1 at

-- ---- sessions that were accepted

all_front : (xs ys : List Opened) → list_all is_accepted (xs ++ ys) ≡ true → (list_all is_accepted xs ≡ true) × (list_all is_accepted ys ≡ true)
all_front [] ys h = (refl, h)
all_front (x ∷ xs) ys h =
    let parts = and_parts (is_accepted x) (list_all is_accepted (xs ++ ys)) h in
    let r = all_front xs ys parts.1 in
    ((λ i. parts.0 i && r.0 i), r.1)

accepted_at : (p k : ℕ) (rs : List Request) (n : ℕ) (r : Request) → list_all is_accepted (opened_by p k rs) ≡ true → slice_get rs n ≡ Some r → is_some r.second ≡ true
accepted_at p k [] n r h at = cc
accepted_at p k (x ∷ rs) zero r h at =
    let it : x ≡ r = cc in
    ap (λ (t : Request). is_some t.second) (sym it) ∙ (and_parts (is_some x.second) (list_all is_accepted (opened_by p (k + 1) rs)) h).0
accepted_at p k (x ∷ rs) (suc n) r h at = accepted_at p (k + 1) rs n r (and_parts (is_some x.second) (list_all is_accepted (opened_by p (k + 1) rs)) h).1 at

accepted_from : (all : Requests) (n p a k : ℕ) (r : Request) → list_all is_accepted (opened_from all n p) ≡ true → a < n → slice_get (all (p + a)) k ≡ Some r → is_some r.second ≡ true
accepted_from all zero p a k r h lt at = absurd (omega arith)
accepted_from all (suc n) p zero k r h lt at =
    accepted_at p 0 (all p) k r (all_front (opened_by p 0 (all p)) (opened_from all n (p + 1)) h).0 (ap (λ i. slice_get (all i) k) (let e : p ≡ p + 0 = omega arith in e) ∙ at)
accepted_from all (suc n) p (suc a) k r h lt at =
    accepted_from all n (p + 1) a k r (all_front (opened_by p 0 (all p)) (opened_from all n (p + 1)) h).1 (omega (arith, lt))
    (ap (λ i. slice_get (all i) k) (let e : p + 1 + a ≡ p + suc a = omega arith in e) ∙ at)

none_offered : (file : FileAt) (w : World) (e : EndId) → Sound file w → list_all is_accepted (opened_in w) ≡ true → Offered w e → ⊥
none_offered file w e sound all o =
    let asks = (sound.offered o.by o.number o.request o.there o.none).asks in
    let lt : o.by < length w.parties = omega (arith, sound.many, below_by_get file.parties o.by asks.0 asks.1) in
    let some = accepted_from w.requests (length w.parties) 0 o.by o.number o.request all lt (ap (λ i. slice_get (w.requests i) o.number) (let e : 0 + o.by ≡ o.by = omega arith in e) ∙ o.there) in
    let clash : true ≡ false = sym some ∙ ap is_some o.none in cc

-- ---- where all is done

done_means : (a b : Bool) → cond a verdicts.Long (cond b verdicts.Done verdicts.Blocked) ≡ verdicts.Done → b ≡ true
done_means true b h = cc
done_means false true h = refl
done_means false false h = cc

all_coming : (file : FileAt) (w : World) → Sound file w → AllLocated w → verdict_of w ≡ verdicts.Done → AllComing w.sessions
all_coming file w sound all verdict e is_open = by (all e is_open)
  where
    parts : (list_all has_ended (states_of w) ≡ true) × (list_all is_accepted (opened_in w) ≡ true)
    parts = and_parts (list_all has_ended (states_of w)) (list_all is_accepted (opened_in w)) (done_means (list_any is_at_limit (states_of w)) (is_done w) verdict)

    by : IsLocated w e → (f : EndId) × IsComing w.sessions e f
    by (on_its_way f c) = (f, c)
    by (held q g at h) = absurd (ended_holds_none file w q g sound at (ap (λ n. has_ended (state_of_program w n g)) (let same : q ≡ 0 + q = omega arith in same) ∙ state_at w 0 w.parties q g parts.0 at) e h)
    by (offered o) = absurd (none_offered file w e sound parts.1 o)

pub done_is_taken : (file : FileAt) (w : World) → Sound file w → AllLocated w → verdict_of w ≡ verdicts.Done → (e : EndId) → untaken_for w.sessions e ≡ []
done_is_taken file w sound all verdict = all_taken file w sound (all_coming file w sound all verdict)
