-- Each end that is bound or on its way has its session in the world's list, and so has each
-- session that was opened.
use Rattle.std.proofs.Common.{◌≡◌, ℕ, ◌+◌, ◌≤◌, ◌<◌, ◌==◌, nat_lt, Bool, true, false, cond, List, [], ◌∷◌, ◌++◌, length, Option, Some, None, option_map, ap, sym, subst, arith, inl, inr}
use Rattle.std.specs.Bool.{⊤}
use Rattle.std.proofs.lemmas.Bool.{cases_Bool, cases_lt, eqb-true}
use Rattle.std.proofs.lemmas.List.{length-map}
use Rattle.sj_base.specs.declared.EndId.{EndId}
use Rattle.sj_lang.specs.Dual.{dual_of}
use Rattle.sj_lang.specs.FileAt.{FileAt, body_named}
use Rattle.sj_semantics.specs.declared.Want.{Want}
use Rattle.sj_semantics.specs.declared.Want.TheVariants as wants
use Rattle.sj_semantics.specs.Ends.{Session, end_at, next_for, limit_of_hops}
use Rattle.sj_semantics.specs.Program.{Program}
use Rattle.sj_semantics.specs.Requests.{limit_of_requests, opened_number, first_offer, Opening, no_opening, requests, accepts, requests_after, accepted_as}
use Rattle.sj_semantics.specs.Run.{IsRun, after_acts}
use Rattle.sj_semantics.specs.Steps.{sent_of}
use Rattle.sj_semantics.specs.Uses.{Use, sends, delegates, begins, end_after, on_side, altered_list, after_uses}
use Rattle.sj_semantics.specs.World.{World, Change, plain_change, session_message, change_by_taking, change_by_opening, change_by_accepting, change_by, changed_world, act_of, session_of, start_of}
use Rattle.sj_semantics_laws.specs.Runs.{HasSessions}
use Rattle.sj_semantics_laws.specs.Unshared.{claims_on}
use Rattle.sj_semantics_laws.proofs.AlteredLemmas.{length-altered, length-altered_session_le, below_altered_session}
use Rattle.sj_semantics_laws.proofs.ChangeLemmas.{Rests, rests_on}
use Rattle.sj_semantics_laws.proofs.ClaimLemmas.{one_if}
use Rattle.sj_semantics_laws.proofs.CommuteLemmas.{doing_of}
use Rattle.sj_semantics_laws.proofs.EndLemmas.{touched}
use Rattle.sj_semantics_laws.proofs.KeepLemmas.{claims_on-changed, doing_fits}
use Rattle.sj_semantics_laws.proofs.RunLemmas.{between}
use Rattle.sj_semantics_laws.proofs.StartLemmas.{no_program_binds, nothing_carried}
use Rattle.sj_semantics_laws.proofs.ToComeLemmas.{OpeningFits, opens, session_of_end, pushed_length, below_by_get}

pub length-uses_le : (p : ℕ) (us : List (EndId × Use)) (zs : List Session) → length zs ≤ length (after_uses p us zs)
length-uses_le p [] zs = omega arith
length-uses_le p (u ∷ us) zs = omega (arith, length-altered_session_le zs u.0.sess (on_side u.0.side (end_after p u.1)), length-uses_le p us (touched p zs u))

-- ---- a request makes room for its session

abbrev RoomFor : World → ℕ → Change → Opening → Type 0
RoomFor w p c no_opening = ⊤
RoomFor w p c (requests r) = opened_number p (length (w.requests p)) < length (after_uses p c.uses w.sessions)
RoomFor w p c (accepts q k y) = ⊤

abbrev RoomIf : World → ℕ → Option Change → Type 0
RoomIf w p None = ⊤
RoomIf w p (Some c) = RoomFor w p c c.opening

option_room : {X : Type 0} (w : World) (p : ℕ) (f : X → Change) (o : Option X) → ((x : X) → RoomFor w p (f x) (f x).opening) → RoomIf w p (option_map f o)
option_room w p f None h = tt
option_room w p f (Some x) h = h x

cond_room : (w : World) (p : ℕ) (b : Bool) (c : Change) → RoomFor w p c c.opening → RoomIf w p (cond b (Some c) None)
cond_room w p true c h = h
cond_room w p false c h = tt

by_room : (w : World) (p : ℕ) (g : Program) (want : Want) → RoomIf w p (change_by w p g want)
by_room w p g wants.Ended = tt
by_room w p g wants.Local = tt
by_room w p g (wants.Send e m) = tt
by_room w p g (wants.Delegate e y) = cond_room w p (nat_lt (end_at w.sessions y).hops limit_of_hops) (plain_change (sent_of g) ((y, delegates) ∷ (e, sends (session_message y p)) ∷ [])) tt
by_room w p g (wants.Take e a) = option_room w p (change_by_taking w.protocols g e a) (next_for w.sessions e) (λ x. tt)
by_room w p g (wants.Close e) = tt
by_room w p g (wants.Request n q) =
    let k = opened_number p (length (w.requests p)) in
    let place = body_named w.protocols n in
    let one : List Session = touched p w.sessions (record { sess = k; side = 0 }, begins place) in
    cond_room w p (nat_lt (length (w.requests p)) limit_of_requests) (change_by_opening g k place q)
    (below_altered_session one k (on_side 1 (end_after p (begins (dual_of place)))))
by_room w p g (wants.Accept n q) = option_room w p (change_by_accepting g q (body_named w.protocols n)) (first_offer p (w.requests q)) (λ k. tt)

room_for : (w : World) (p : ℕ) (g : Program) (c : Change) → Rests w p g c → RoomFor w p c c.opening
room_for w p g c r = subst (RoomIf w p) r.by_it (by_room w p g r.want)

-- ---- an act keeps it

module _ (w : World) (p : ℕ) (c : Change) (had : HasSessions w) (fits : OpeningFits w p c.opening) (room : RoomFor w p c c.opening) where
  longer : length w.sessions ≤ length (after_uses p c.uses w.sessions)
  longer = length-uses_le p c.uses w.sessions

  opened_has : (o : Opening) → OpeningFits w p o → RoomFor w p c o → (e : EndId) → opens e w p o ≡ true → e.sess < length (after_uses p c.uses w.sessions)
  opened_has no_opening f r e t = cc
  opened_has (requests s) f r e t = omega (arith, session_of_end e (record { sess = opened_number p (length (w.requests p)); side = 0 }) t, r)
  opened_has (accepts q k y) f r e t =
      omega (arith, longer, session_of_end e (record { sess = opened_number q k; side = 1 }) t, had.opened q k (below_by_get (w.requests q) k f.0 f.1))

  claimed_has : (e : EndId) → claims_on e (changed_world w p c) ≤ claims_on e w + one_if (opens e w p c.opening) → 1 ≤ claims_on e (changed_world w p c) → e.sess < length (after_uses p c.uses w.sessions)
  claimed_has e le h =
      elim (cases_Bool (opens e w p c.opening)) [
        | inl it ↦ opened_has c.opening fits room e it
        | inr other ↦ omega (arith, longer, had.claimed e (omega (arith, h, le, ap {B = ℕ} one_if other)))
      ]

  request_has : (o : Opening) → RoomFor w p c o → (a k : ℕ) → k < length (requests_after p o a (w.requests a)) → opened_number a k < length (after_uses p c.uses w.sessions)
  request_has no_opening r a k lt = omega (arith, longer, had.opened a k lt)
  request_has (requests s) r a k lt =
      elim (cases_Bool (a == p)) [
        | inl it ↦
            let same : a ≡ p = eqb-true a p it in
            elim (cases_lt k (length (w.requests a))) [
              | inl old ↦ omega (arith, longer, had.opened a k old)
              | inr new ↦
                  let last : k ≡ length (w.requests p) = omega (arith, new, lt, pushed_length p a s (w.requests a) same, ap (λ (n : ℕ). length (w.requests n)) same) in
                  subst (λ (n : ℕ). n < length (after_uses p c.uses w.sessions)) (sym (λ i. opened_number (same i) (last i))) r
            ]
        | inr other ↦ omega (arith, longer, had.opened a k (omega (arith, lt, ap (λ (b : Bool). length (cond b (w.requests a ++ s ∷ []) (w.requests a))) other)))
      ]
  request_has (accepts q j y) r a k lt =
      omega (
        arith,
        longer,
        had.opened a k (elim (cases_Bool (a == q)) [
          | inl it ↦ omega (arith, lt, ap (λ (b : Bool). length (cond b (altered_list (w.requests a) j (accepted_as y)) (w.requests a))) it, length-altered (w.requests a) j (accepted_as y))
          | inr other ↦ omega (arith, lt, ap (λ (b : Bool). length (cond b (altered_list (w.requests a) j (accepted_as y)) (w.requests a))) other)
        ]),
      )

act_has : (w v : World) (p : ℕ) → HasSessions w → act_of w p ≡ Some v → HasSessions v
act_has w v p had h =
    let a = doing_of w p v h in
    let room = room_for w p a.program a.change (rests_on w p a.program a.change a.made) in
    let fits = doing_fits w v p a in
    subst HasSessions a.result
    (record {
      claimed = λ e t. claimed_has w p a.change had fits room e (claims_on-changed e w v p a) t;
      opened = λ q k lt. request_has w p a.change had fits room a.change.opening room q k lt;
    })

acts_have : (w v : World) (ps : List ℕ) → HasSessions w → after_acts w ps ≡ Some v → HasSessions v
acts_have w v [] had h = subst HasSessions (let it : w ≡ v = cc in it) had
acts_have w v (p ∷ ps) had h =
    let m = between (λ x. after_acts x ps) (act_of w p) v h in
    acts_have m.world v ps (act_has w m.world p had m.before) m.afterwards

start_has : (file : FileAt) → HasSessions (start_of file)
start_has file = record {
  claimed = λ e h.
      elim (cases_lt e.sess (length file.connects)) [
        | inl lt ↦ omega (arith, lt, length-map file.connects (session_of file))
        | inr past ↦ absurd (omega (arith, h, no_program_binds e file 0 file.parties past, nothing_carried e file file.connects))
      ];
  opened = λ p k lt. absurd (omega arith);
}

pub run_has : (file : FileAt) (ps : List ℕ) (w : World) → IsRun file ps w → HasSessions w
run_has file ps w run = acts_have (start_of file) w ps (start_has file) run
