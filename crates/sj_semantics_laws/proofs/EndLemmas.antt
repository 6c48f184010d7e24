-- Uses of two different ends commute, and leave each other alone.
use Rattle.std.proofs.Common.{◌≡◌, ℕ, zero, suc, ◌==◌, true, false, List, [], ◌∷◌, ◌++◌, length, slice_get, Option, Some, None, option_map, unwrap_or, refl, ap, sym, ◌∙◌, inl, inr, subst}
use Rattle.std.proofs.lemmas.Bool.{cases_Bool, cases_eq, and_cases, and_parts, eqb-true, eqb-false}
use Rattle.sj_base.specs.declared.EndId.{EndId}
use Rattle.sj_semantics.specs.declared.Passed.{Passed}
use Rattle.sj_semantics.specs.Ends.{Session, EndAt, end_on, other_end, nowhere, unopened, end_at, next_for, is_same_side, is_end}
use Rattle.sj_semantics.specs.Uses.{Use, sends, takes, delegates, begins, end_after, altered_session, on_side, after_uses}
use Rattle.sj_semantics_laws.proofs.AlteredLemmas.{session_in, altered_session_comm, altered_session-altered, session_in-altered, session_in-altered_other}

-- the sessions after one use
abbrev pub touched : ℕ → List Session → EndId × Use → List Session
touched p zs u = altered_session zs u.0.sess (on_side u.0.side (end_after p u.1))

on_side_comm : (c d : ℕ) (f g : EndAt → EndAt) (z : Session) → is_same_side c d ≡ false → on_side d g (on_side c f z) ≡ on_side c f (on_side d g z)
on_side_comm zero zero f g z e = cc
on_side_comm zero (suc d) f g z e = refl
on_side_comm (suc c) zero f g z e = refl
on_side_comm (suc c) (suc d) f g z e = cc

altered-on_side_comm : (zs : List Session) (s c d : ℕ) (f g : EndAt → EndAt) → is_same_side c d ≡ false → altered_session (altered_session zs s (on_side c f)) s (on_side d g) ≡ altered_session (altered_session zs s (on_side d g)) s (on_side c f)
altered-on_side_comm zs s c d f g e =
    altered_session-altered zs s (on_side c f) (on_side d g) ∙ ap (altered_session zs s) (λ i z. on_side_comm c d f g z e i) ∙ sym (altered_session-altered zs s (on_side d g) (on_side c f))

pub touched_comm : (p q : ℕ) (zs : List Session) (u v : EndId × Use) → is_end u.0 v.0 ≡ false → touched q (touched p zs u) v ≡ touched p (touched q zs v) u
touched_comm p q zs u v apart =
    elim (cases_eq u.0.sess v.0.sess) [
      | inl same ↦
          elim (and_cases (u.0.sess == v.0.sess) (is_same_side u.0.side v.0.side) apart) [
            | inl not_same ↦ absurd (eqb-false _ _ not_same same)
            | inr sides ↦ subst (λ (t : ℕ). altered_session (altered_session zs u.0.sess (on_side u.0.side (end_after p u.1))) t (on_side v.0.side (end_after q v.1)) ≡ altered_session (altered_session zs t (on_side v.0.side (end_after q v.1))) u.0.sess (on_side u.0.side (end_after p u.1))) same
                (altered-on_side_comm zs u.0.sess u.0.side v.0.side (end_after p u.1) (end_after q v.1) sides)
          ]
      | inr other ↦ altered_session_comm zs u.0.sess v.0.sess (on_side u.0.side (end_after p u.1)) (on_side v.0.side (end_after q v.1)) other
    ]

-- none of the uses is of the end
abbrev pub IsUnusedBy : EndId → List (EndId × Use) → Type 0
IsUnusedBy e [] = Unit {0}
IsUnusedBy e (u ∷ us) = (is_end u.0 e ≡ false) × IsUnusedBy e us

-- no end is used by both
abbrev pub AreApart : List (EndId × Use) → List (EndId × Use) → Type 0
AreApart us [] = Unit {0}
AreApart us (v ∷ vs) = IsUnusedBy v.0 us × AreApart us vs

after_uses-touched : (p q : ℕ) (us : List (EndId × Use)) (v : EndId × Use) (zs : List Session) → IsUnusedBy v.0 us → after_uses p us (touched q zs v) ≡ touched q (after_uses p us zs) v
after_uses-touched p q [] v zs unused = refl
after_uses-touched p q (u ∷ us) v zs unused = ap (after_uses p us) (sym (touched_comm p q zs u v unused.0)) ∙ after_uses-touched p q us v (touched p zs u) unused.1

pub after_uses_comm : (p q : ℕ) (us vs : List (EndId × Use)) (zs : List Session) → AreApart us vs → after_uses q vs (after_uses p us zs) ≡ after_uses p us (after_uses q vs zs)
after_uses_comm p q us [] zs apart = refl
after_uses_comm p q us (v ∷ vs) zs apart =
    ap (after_uses q vs) (sym (after_uses-touched p q us v zs apart.0)) ∙ after_uses_comm p q us vs (touched q zs v) apart.1

-- ---- an end is that of its session

end_of_option : (d : ℕ) (o : Option Session) → unwrap_or (option_map (end_on d) o) nowhere ≡ end_on d (unwrap_or o unopened)
end_of_option zero None = refl
end_of_option (suc d) None = refl
end_of_option d (Some z) = refl

pub end_at-session : (zs : List Session) (e : EndId) → end_at zs e ≡ end_on e.side (session_in zs e.sess)
end_at-session zs e = end_of_option e.side (slice_get zs e.sess)

-- ---- what is left alone, and what isn't

end_on-on_side_other : (c d : ℕ) (f : EndAt → EndAt) (z : Session) → is_same_side c d ≡ false → end_on d (on_side c f z) ≡ end_on d z
end_on-on_side_other zero zero f z e = cc
end_on-on_side_other zero (suc d) f z e = refl
end_on-on_side_other (suc c) zero f z e = refl
end_on-on_side_other (suc c) (suc d) f z e = cc

end_on-on_side_same : (c d : ℕ) (f : EndAt → EndAt) (z : Session) → is_same_side c d ≡ true → end_on d (on_side c f z) ≡ f (end_on d z)
end_on-on_side_same zero zero f z e = refl
end_on-on_side_same zero (suc d) f z e = cc
end_on-on_side_same (suc c) zero f z e = cc
end_on-on_side_same (suc c) (suc d) f z e = refl

-- the session that was used
session_in-touched : (p : ℕ) (zs : List Session) (u : EndId × Use) (s : ℕ) → u.0.sess ≡ s → session_in (touched p zs u) s ≡ on_side u.0.side (end_after p u.1) (session_in zs s)
session_in-touched p zs u s same = subst (λ (t : ℕ). session_in (touched p zs u) t ≡ on_side u.0.side (end_after p u.1) (session_in zs t)) same (session_in-altered zs u.0.sess (on_side u.0.side (end_after p u.1)))

pub end_at-touched_other : (p : ℕ) (zs : List Session) (u : EndId × Use) (e : EndId) → is_end u.0 e ≡ false → end_at (touched p zs u) e ≡ end_at zs e
end_at-touched_other p zs u e apart =
    end_at-session (touched p zs u) e
    ∙ elim (cases_eq u.0.sess e.sess) [
      | inl same ↦
          elim (and_cases (u.0.sess == e.sess) (is_same_side u.0.side e.side) apart) [
            | inl not_same ↦ absurd (eqb-false _ _ not_same same)
            | inr sides ↦ ap (end_on e.side) (session_in-touched p zs u e.sess same) ∙ end_on-on_side_other u.0.side e.side (end_after p u.1) (session_in zs e.sess) sides
          ]
      | inr other ↦ ap (end_on e.side) (session_in-altered_other zs u.0.sess e.sess (on_side u.0.side (end_after p u.1)) other)
    ]
    ∙ sym (end_at-session zs e)

pub end_at-touched_same : (p : ℕ) (zs : List Session) (u : EndId × Use) (e : EndId) → is_end u.0 e ≡ true → end_at (touched p zs u) e ≡ end_after p u.1 (end_at zs e)
end_at-touched_same p zs u e it =
    let parts = and_parts (u.0.sess == e.sess) (is_same_side u.0.side e.side) it in
    end_at-session (touched p zs u) e ∙ ap (end_on e.side) (session_in-touched p zs u e.sess (eqb-true u.0.sess e.sess parts.0))
    ∙ end_on-on_side_same u.0.side e.side (end_after p u.1) (session_in zs e.sess) parts.1 ∙ ap (end_after p u.1) (sym (end_at-session zs e))

pub end_at-after_uses_other : (p : ℕ) (us : List (EndId × Use)) (zs : List Session) (e : EndId) → IsUnusedBy e us → end_at (after_uses p us zs) e ≡ end_at zs e
end_at-after_uses_other p [] zs e unused = refl
end_at-after_uses_other p (u ∷ us) zs e unused = end_at-after_uses_other p us (touched p zs u) e unused.1 ∙ end_at-touched_other p zs u e unused.0

-- ---- what was sent stays

-- each message of the one stands at its index in the other
abbrev pub Extends : List Passed → List Passed → Type 0
Extends new old = (k : ℕ) (x : Passed) → slice_get old k ≡ Some x → slice_get new k ≡ Some x

slice_get-append : (xs ys : List Passed) (k : ℕ) (x : Passed) → slice_get xs k ≡ Some x → slice_get (xs ++ ys) k ≡ Some x
slice_get-append [] ys k x e = cc
slice_get-append (a ∷ xs) ys zero x e = e
slice_get-append (a ∷ xs) ys (suc k) x e = slice_get-append xs ys k x e

used_extends : (p : ℕ) (u : Use) (e : EndAt) → Extends (end_after p u e).sent e.sent
used_extends p (sends m) e = slice_get-append e.sent _
used_extends p (takes m) e = λ k x h. h
used_extends p delegates e = λ k x h. h
used_extends p (begins place) e = λ k x h. h

end_at-touched_extends : (p : ℕ) (zs : List Session) (u : EndId × Use) (e : EndId) → Extends (end_at (touched p zs u) e).sent (end_at zs e).sent
end_at-touched_extends p zs u e =
    elim (cases_Bool (is_end u.0 e)) [
      | inl it ↦ subst (λ (t : EndAt). Extends t.sent (end_at zs e).sent) (sym (end_at-touched_same p zs u e it)) (used_extends p u.1 (end_at zs e))
      | inr other ↦ subst (λ (t : EndAt). Extends t.sent (end_at zs e).sent) (sym (end_at-touched_other p zs u e other)) (λ k x h. h)
    ]

pub end_at-after_uses_extends : (p : ℕ) (us : List (EndId × Use)) (zs : List Session) (e : EndId) → Extends (end_at (after_uses p us zs) e).sent (end_at zs e).sent
end_at-after_uses_extends p [] zs e = λ k x h. h
end_at-after_uses_extends p (u ∷ us) zs e = λ k x h. end_at-after_uses_extends p us (touched p zs u) e k x (end_at-touched_extends p zs u e k x h)

-- the next message for an end stays next, whatever is done to other ends
pub next_for-after_uses : (p : ℕ) (us : List (EndId × Use)) (zs : List Session) (e : EndId) (x : Passed) → IsUnusedBy e us → next_for zs e ≡ Some x → next_for (after_uses p us zs) e ≡ Some x
next_for-after_uses p us zs e x unused h =
    let kept = end_at-after_uses_other p us zs e unused in
    end_at-after_uses_extends p us zs (other_end e) _ x (ap (λ t. slice_get (end_at zs (other_end e)).sent (length t.takers)) kept ∙ h)
