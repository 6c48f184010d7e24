-- How each use and each binding changes the claims on an end.
use Rattle.std.proofs.Common.{◌≡◌, ℕ, zero, suc, ◌+◌, ◌≤◌, ◌==◌, Bool, true, false, not, cond, List, [], ◌∷◌, ◌++◌, length, drop, slice_get, Some, sum_by, refl, ap, sym, ◌∙◌, arith, inl, inr}
use Rattle.std.proofs.lemmas.Bool.{cases_Bool}
use Rattle.std.proofs.lemmas.List.Sums.{sum_by-cons, sum_by_push}
use Rattle.sj_base.specs.declared.EndId.{EndId}
use Rattle.sj_base.specs.declared.Msg.{Msg}
use Rattle.sj_semantics.specs.Program.{ends_without, ends_with}
use Rattle.sj_semantics.specs.declared.Passed.{Passed}
use Rattle.sj_lang.specs.FileAt.{named}
use Rattle.sj_semantics.specs.Ends.{Session, end_on, other_side, other_end, next_for, is_end}
use Rattle.sj_semantics.specs.Uses.{Use, sends, takes, delegates, begins, end_after, on_side}
use Rattle.sj_lang.specs.Place.{Place}
use Rattle.sj_semantics_laws.specs.Unshared.{bindings_of, names_end, carried_in}
use Rattle.sj_semantics_laws.proofs.AlteredLemmas.{session_in, sum_by-altered_session}
use Rattle.sj_semantics_laws.proofs.EndLemmas.{touched, end_at-session}

-- 1 where it holds
abbrev pub one_if : Bool → ℕ
one_if b = cond b 1 0

-- ---- bindings

keeps_name : (n : ℕ) (b : ℕ × EndId) (bs : List (ℕ × EndId)) → b.0 == n ≡ false → ends_without (b ∷ bs) n ≡ b ∷ ends_without bs n
keeps_name n b bs h = ap (λ (t : Bool). cond (not t) (b ∷ ends_without bs n) (ends_without bs n)) h

drops_name : (n : ℕ) (b : ℕ × EndId) (bs : List (ℕ × EndId)) → b.0 == n ≡ true → ends_without (b ∷ bs) n ≡ ends_without bs n
drops_name n b bs h = ap (λ (t : Bool). cond (not t) (b ∷ ends_without bs n) (ends_without bs n)) h

bindings_of-cons : (e : EndId) (b : ℕ × EndId) (bs : List (ℕ × EndId)) → bindings_of e (b ∷ bs) ≡ one_if (is_end e b.1) + bindings_of e bs
bindings_of-cons e b bs = sum_by-cons (λ (c : ℕ × EndId). cond (is_end e c.1) 1 0) b bs

pub bindings_of-without_le : (e : EndId) (bs : List (ℕ × EndId)) (n : ℕ) → bindings_of e (ends_without bs n) ≤ bindings_of e bs
bindings_of-without_le e [] n = omega arith
bindings_of-without_le e (b ∷ bs) n =
    elim (cases_Bool (b.0 == n)) [
      | inl hit ↦ omega (arith, ap (bindings_of e) (drops_name n b bs hit), bindings_of-cons e b bs, bindings_of-without_le e bs n)
      | inr miss ↦ omega (arith, ap (bindings_of e) (keeps_name n b bs miss), bindings_of-cons e b bs, bindings_of-cons e b (ends_without bs n), bindings_of-without_le e bs n)
    ]

-- a name that is gone frees its end
pub bindings_of-without : (e : EndId) (bs : List (ℕ × EndId)) (n : ℕ) (y : EndId) → named bs n ≡ Some y → bindings_of e (ends_without bs n) + one_if (is_end e y) ≤ bindings_of e bs
bindings_of-without e [] n y h = cc
bindings_of-without e (b ∷ bs) n y h =
    elim (cases_Bool (b.0 == n)) [
      | inl hit ↦
          let found : Some b.1 ≡ Some y = ap (λ (t : Bool). cond t (Some b.1) (named bs n)) (sym hit) ∙ h in
          let it : b.1 ≡ y = cc in
          omega (arith, ap (bindings_of e) (drops_name n b bs hit), bindings_of-cons e b bs, bindings_of-without_le e bs n, ap (λ t. one_if (is_end e t)) it)
      | inr miss ↦
          let later : named bs n ≡ Some y = ap (λ (t : Bool). cond t (Some b.1) (named bs n)) (sym miss) ∙ h in
          omega (arith, ap (bindings_of e) (keeps_name n b bs miss), bindings_of-cons e b bs, bindings_of-cons e b (ends_without bs n), bindings_of-without e bs n y later)
    ]

pub bindings_of-bound : (e : EndId) (bs : List (ℕ × EndId)) (n : ℕ) (y : EndId) → bindings_of e (ends_with bs n y) ≤ bindings_of e bs + one_if (is_end e y)
bindings_of-bound e bs n y = omega (arith, sum_by_push (λ (c : ℕ × EndId). cond (is_end e c.1) 1 0) (ends_without bs n) (n, y), bindings_of-without_le e bs n)

-- ---- messages on their way

sum_by-drop_push : (h : Passed → ℕ) (k : ℕ) (xs : List Passed) (y : Passed) → sum_by h (drop k (xs ++ y ∷ [])) ≤ sum_by h (drop k xs) + h y
sum_by-drop_push h zero xs y = omega (arith, sum_by_push h xs y)
sum_by-drop_push h (suc zero) [] y = omega arith
sum_by-drop_push h (suc (suc k)) [] y = omega arith
sum_by-drop_push h (suc k) (x ∷ xs) y = sum_by-drop_push h k xs y

sum_by-drop_suc : (h : Passed → ℕ) (k : ℕ) (xs : List Passed) (x : Passed) → slice_get xs k ≡ Some x → sum_by h (drop (suc k) xs) + h x ≡ sum_by h (drop k xs)
sum_by-drop_suc h k [] x e = cc
sum_by-drop_suc h zero (y ∷ xs) x e = let it : y ≡ x = cc in omega (arith, sum_by-cons h y xs, ap h it)
sum_by-drop_suc h (suc k) (y ∷ xs) x e = sum_by-drop_suc h k xs x e

pub length-push : (xs : List ℕ) (p : ℕ) → length (xs ++ p ∷ []) ≡ suc (length xs)
length-push [] p = refl
length-push (x ∷ xs) p = ap suc (length-push xs p)

abbrev weight : EndId → Passed → ℕ
weight e x = cond (names_end e x.msg) 1 0

sends_more : (e : EndId) (p : ℕ) (m : Msg) (side : ℕ) (z : Session) → carried_in e (on_side side (end_after p (sends m)) z) ≤ carried_in e z + one_if (names_end e m)
sends_more e p m zero z = omega (arith, sum_by-drop_push (weight e) (length z.second.takers) z.first.sent (record { msg = m; by = p }))
sends_more e p m (suc side) z = omega (arith, sum_by-drop_push (weight e) (length z.first.takers) z.second.sent (record { msg = m; by = p }))

hands_on_same : (e : EndId) (p : ℕ) (side : ℕ) (z : Session) → carried_in e (on_side side (end_after p delegates) z) ≡ carried_in e z
hands_on_same e p zero z = refl
hands_on_same e p (suc side) z = refl

begins_same : (e : EndId) (p : ℕ) (place : Place) (side : ℕ) (z : Session) → carried_in e (on_side side (end_after p (begins place)) z) ≡ carried_in e z
begins_same e p place zero z = refl
begins_same e p place (suc side) z = refl

takes_less : (e : EndId) (p : ℕ) (x : Passed) (side : ℕ) (z : Session) → slice_get (end_on (other_side side) z).sent (length (end_on side z).takers) ≡ Some x
    → carried_in e (on_side side (end_after p (takes x.msg)) z) + one_if (names_end e x.msg) ≡ carried_in e z
takes_less e p x zero z h =
    omega (arith, sum_by-drop_suc (weight e) (length z.first.takers) z.second.sent x h, ap (λ k. sum_by (weight e) (drop k z.second.sent)) (length-push z.first.takers p))
takes_less e p x (suc side) z h =
    omega (arith, sum_by-drop_suc (weight e) (length z.second.takers) z.first.sent x h, ap (λ k. sum_by (weight e) (drop k z.first.sent)) (length-push z.second.takers p))

-- ---- the same over all sessions

carried-used : (e : EndId) (p : ℕ) (zs : List Session) (u : EndId × Use) → sum_by (carried_in e) (touched p zs u) + carried_in e (session_in zs u.0.sess) ≡ sum_by (carried_in e) zs + carried_in e (on_side u.0.side (end_after p u.1) (session_in zs u.0.sess))
carried-used e p zs u = sum_by-altered_session (carried_in e) refl zs u.0.sess (on_side u.0.side (end_after p u.1))

pub carried-sends : (e : EndId) (p : ℕ) (zs : List Session) (f : EndId) (m : Msg) → sum_by (carried_in e) (touched p zs (f, sends m)) ≤ sum_by (carried_in e) zs + one_if (names_end e m)
carried-sends e p zs f m = omega (arith, carried-used e p zs (f, sends m), sends_more e p m f.side (session_in zs f.sess))

pub carried-hands_on : (e : EndId) (p : ℕ) (zs : List Session) (f : EndId) → sum_by (carried_in e) (touched p zs (f, delegates)) ≤ sum_by (carried_in e) zs
carried-hands_on e p zs f = omega (arith, carried-used e p zs (f, delegates), hands_on_same e p f.side (session_in zs f.sess))

pub carried-begins : (e : EndId) (p : ℕ) (zs : List Session) (f : EndId) (place : Place) → sum_by (carried_in e) (touched p zs (f, begins place)) ≤ sum_by (carried_in e) zs
carried-begins e p zs f place = omega (arith, carried-used e p zs (f, begins place), begins_same e p place f.side (session_in zs f.sess))

-- the next message, in its session
pub next_in : (zs : List Session) (f : EndId) (x : Passed) → next_for zs f ≡ Some x → slice_get (end_on (other_side f.side) (session_in zs f.sess)).sent (length (end_on f.side (session_in zs f.sess)).takers) ≡ Some x
next_in zs f x h = sym (λ i. slice_get (end_at-session zs (other_end f) i).sent (length (end_at-session zs f i).takers)) ∙ h

pub carried-takes : (e : EndId) (p : ℕ) (zs : List Session) (f : EndId) (x : Passed) → next_for zs f ≡ Some x → sum_by (carried_in e) (touched p zs (f, takes x.msg)) + one_if (names_end e x.msg) ≤ sum_by (carried_in e) zs
carried-takes e p zs f x h = omega (arith, carried-used e p zs (f, takes x.msg), takes_less e p x f.side (session_in zs f.sess) (next_in zs f x h))
