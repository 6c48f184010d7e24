-- What was taken on an end in a run is a prefix of what was sent on the other one.
use Rattle.std.proofs.Common.{◌≡◌, ℕ, zero, suc, ◌≤◌, List, [], ◌∷◌, ◌++◌, map, length, drop, slice_get, Some, option_map, unwrap_or, refl, ap, sym, ◌∙◌, subst, arith, append-nil, append_assoc, length-append}
use Rattle.sj_base.specs.declared.EndId.{EndId}
use Rattle.sj_lang.specs.FileAt.{FileAt, ConnectAt}
use Rattle.sj_semantics.specs.declared.Passed.{Passed}
use Rattle.sj_semantics.specs.Ends.{Session, end_on, other_end, nowhere, end_at, untaken_for}
use Rattle.sj_semantics.specs.Uses.{Use, after_uses}
use Rattle.sj_semantics.specs.World.{World, changed_world, session_of, start_of}
use Rattle.sj_semantics.specs.Run.{IsRun, after_acts}
use Rattle.sj_semantics.specs.Acts.{acts_from, uses_on, acts_on, taken_by, sent_on, taken_on}
use Rattle.sj_semantics_laws.proofs.EndLemmas.{end_at-after_uses_extends}
use Rattle.sj_semantics_laws.proofs.ChangeLemmas.{rests_on}
use Rattle.sj_semantics_laws.proofs.ActsLemmas.{step_of, takers_after_uses, sent_is_of_acts, takers_are_of_acts}
use Rattle.std.proofs.lemmas.List.{length-map}
use Rattle.sj_semantics_laws.proofs.FrontLemmas.{Front, front_extends, front_more, front_whole, front_le, Taking, none_taken, next_taken, by_taking}

-- what was taken on the end so far
record TakenSo (zs : List Session) (e : EndId) (ts : List Passed) : Type 0 where
  front : Front ts (end_at zs (other_end e)).sent
  counted : length ts ≡ length (end_at zs e).takers

uses_front : (p : ℕ) (us : List (EndId × Use)) (zs : List Session) (e : EndId) (ts : List Passed) → TakenSo zs e ts → Taking zs e p us → Front (ts ++ uses_on e taken_by p us) (end_at zs (other_end e)).sent
uses_front p us zs e ts so (none_taken none) = subst (λ xs. Front xs (end_at zs (other_end e)).sent) (sym (ap (λ xs. ts ++ xs) none ∙ append-nil ts)) so.front
uses_front p us zs e ts so (next_taken x next one) =
    subst (λ xs. Front xs (end_at zs (other_end e)).sent) (sym (ap (λ xs. ts ++ xs) one))
    (front_more ts (end_at zs (other_end e)).sent x p so.front (ap (slice_get (end_at zs (other_end e)).sent) so.counted ∙ next))

uses_so : (p : ℕ) (us : List (EndId × Use)) (zs : List Session) (e : EndId) (ts : List Passed) → TakenSo zs e ts → Taking zs e p us → TakenSo (after_uses p us zs) e (ts ++ uses_on e taken_by p us)
uses_so p us zs e ts so taking = record {
  front = front_extends (ts ++ uses_on e taken_by p us) (end_at zs (other_end e)).sent (end_at (after_uses p us zs) (other_end e)).sent (uses_front p us zs e ts so taking) (end_at-after_uses_extends p us zs (other_end e));
  counted =
      omega (
        arith,
        so.counted,
        length-append ts (uses_on e taken_by p us),
        ap (λ (xs : List ℕ). length xs) (takers_after_uses p us zs e),
        length-append (end_at zs e).takers (map (λ x. x.by) (uses_on e taken_by p us)),
        length-map (uses_on e taken_by p us) (λ (x : Passed). x.by),
      );
}

run_so : (w v : World) (ps : List ℕ) (e : EndId) (ts : List Passed) → after_acts w ps ≡ Some v → TakenSo w.sessions e ts → TakenSo v.sessions e (ts ++ taken_on e (acts_from w ps))
run_so w v [] e ts h so =
    let it : w ≡ v = cc in
    subst (λ xs. TakenSo v.sessions e xs) (sym (append-nil ts)) (subst (λ (t : World). TakenSo t.sessions e ts) it so)
run_so w v (p ∷ ps) e ts h so =
    let s = step_of w v p ps h in
    let r = rests_on w p s.program s.change s.made in
    let us = s.change.uses in
    subst (λ xs. TakenSo v.sessions e xs)
    (append_assoc ts (uses_on e taken_by p us) (taken_on e (acts_from (changed_world w p s.change) ps)) ∙ ap (λ as'. ts ++ acts_on e taken_by as') (sym s.acts))
    (run_so (changed_world w p s.change) v ps e (ts ++ uses_on e taken_by p us) s.afterwards
    (uses_so p us w.sessions e ts so (by_taking w e p s.program s.change r.want r.by_it)))

-- ---- from the start

fresh_at : (file : FileAt) (cs : List ConnectAt) (s d : ℕ) → ((unwrap_or (option_map (end_on d) (slice_get (map (session_of file) cs) s)) nowhere).sent ≡ []) × ((unwrap_or (option_map (end_on d) (slice_get (map (session_of file) cs) s)) nowhere).takers ≡ [])
fresh_at file [] s d = (refl, refl)
fresh_at file (c ∷ cs) zero zero = (refl, refl)
fresh_at file (c ∷ cs) zero (suc d) = (refl, refl)
fresh_at file (c ∷ cs) (suc s) d = fresh_at file cs s d

pub run_sent : (file : FileAt) (ps : List ℕ) (w : World) (e : EndId) → IsRun file ps w → (end_at w.sessions e).sent ≡ sent_on e (acts_from (start_of file) ps)
run_sent file ps w e run =
    sent_is_of_acts (start_of file) w ps e run ∙ ap (λ xs. xs ++ sent_on e (acts_from (start_of file) ps)) (fresh_at file file.connects e.sess e.side).0

pub run_takers : (file : FileAt) (ps : List ℕ) (w : World) (e : EndId) → IsRun file ps w → (end_at w.sessions e).takers ≡ map (λ x. x.by) (taken_on e (acts_from (start_of file) ps))
run_takers file ps w e run =
    takers_are_of_acts (start_of file) w ps e run ∙ ap (λ xs. xs ++ map (λ x. x.by) (taken_on e (acts_from (start_of file) ps))) (fresh_at file file.connects e.sess e.side).1

run_taken : (file : FileAt) (ps : List ℕ) (w : World) (e : EndId) → IsRun file ps w → TakenSo w.sessions e (taken_on e (acts_from (start_of file) ps))
run_taken file ps w e run =
    run_so (start_of file) w ps e [] run (record { front = tt; counted = ap length (sym (fresh_at file file.connects e.sess e.side).1) })

-- what was taken, and then what is untaken, is what was sent
pub run_untaken : (file : FileAt) (ps : List ℕ) (w : World) (e : EndId) → IsRun file ps w
    → map (λ x. x.msg) (taken_on e (acts_from (start_of file) ps)) ++ untaken_for w.sessions e ≡ map (λ x. x.msg) (sent_on (other_end e) (acts_from (start_of file) ps))
run_untaken file ps w e run =
    let so = run_taken file ps w e run in
    let ts = taken_on e (acts_from (start_of file) ps) in
    ap (λ n. map (λ x. x.msg) ts ++ map (λ x. x.msg) (drop n (end_at w.sessions (other_end e)).sent)) (sym so.counted)
    ∙ front_whole ts (end_at w.sessions (other_end e)).sent so.front
    ∙ ap (map (λ x. x.msg)) (run_sent file ps w (other_end e) run)

pub run_le : (file : FileAt) (ps : List ℕ) (w : World) (e : EndId) → IsRun file ps w → length (end_at w.sessions e).takers ≤ length (end_at w.sessions (other_end e)).sent
run_le file ps w e run =
    let so = run_taken file ps w e run in
    omega (arith, so.counted, front_le (taken_on e (acts_from (start_of file) ps)) (end_at w.sessions (other_end e)).sent so.front)
