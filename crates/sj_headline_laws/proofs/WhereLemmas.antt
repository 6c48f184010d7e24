-- What is on its way after a use.
use Rattle.std.proofs.Common.{◌≡◌, ℕ, zero, suc, ◌+◌, ◌≤◌, ◌==◌, true, List, [], ◌∷◌, ◌++◌, length, drop, slice_get, Some, refl, ap, sym, ◌∙◌, arith, inl, inr}
use Rattle.std.proofs.lemmas.Bool.{cases_Bool, and_parts, and_from, eq-eqb}
use Rattle.sj_base.specs.declared.EndId.{EndId}
use Rattle.sj_base.specs.declared.Msg.{Msg}
use Rattle.sj_semantics.specs.declared.Passed.{Passed}
use Rattle.sj_semantics.specs.Ends.{Session, EndAt, other_side, other_end, end_at, next_for, is_same_side, is_end}
use Rattle.sj_semantics.specs.Uses.{Use, sends, takes}
use Rattle.sj_semantics_laws.specs.Unshared.{names_end}
use Rattle.sj_semantics_laws.proofs.EndLemmas.{touched, end_at-touched_other, Extends, end_at-after_uses_extends}
use Rattle.sj_headline_laws.proofs.DoneLemmas.{IsComing, same_end_at}
use Rattle.sj_headline_laws.proofs.LeadLemmas.{coming, drop_push}
use Rattle.sj_headline_laws.proofs.TouchedLemmas.{touched_here}
use Rattle.sj_headline_laws.proofs.ClosedLemmas.{TakesNothing, takers_stay}
use Rattle.sj_semantics_laws.proofs.ClaimLemmas.{length-push}
use Rattle.sj_semantics_laws.proofs.OnItsWayLemmas.{push_there as push_get}

drop_get : (k j n : ℕ) (xs : List Passed) → k + j ≡ n → slice_get (drop k xs) j ≡ slice_get xs n
drop_get zero j n xs e = ap (slice_get xs) (let i : j ≡ n = omega (arith, e) in i)
drop_get (suc k) j zero xs e = absurd (omega (arith, e))
drop_get (suc k) j (suc n) [] e = refl
drop_get (suc k) j (suc n) (x ∷ xs) e = drop_get k j n xs (omega (arith, e))

still_coming : (a b c d : EndAt) (j : ℕ) (x : Passed) → c.takers ≡ a.takers → Extends d.sent b.sent → slice_get (coming a b) j ≡ Some x → slice_get (coming c d) j ≡ Some x
still_coming a b c d j x same more h =
    ap (λ t. slice_get (drop (length t) d.sent) j) same
    ∙ drop_get (length a.takers) j (length a.takers + j) d.sent refl
    ∙ more (length a.takers + j) x (sym (drop_get (length a.takers) j (length a.takers + j) b.sent refl) ∙ h)

pub coming_stays : (p : ℕ) (zs : List Session) (k : EndId) (u : Use) (e f : EndId) → TakesNothing u → IsComing zs e f → IsComing (touched p zs (k, u)) e f
coming_stays p zs k u e f none c = record {
  number = c.number;
  passed = c.passed;
  there = still_coming (end_at zs f) (end_at zs (other_end f)) (end_at (touched p zs (k, u)) f) (end_at (touched p zs (k, u)) (other_end f)) c.number c.passed
      (takers_stay p zs k u f none) (end_at-after_uses_extends p ((k, u) ∷ []) zs (other_end f)) c.there;
  names = c.names;
}

other_end_same : (e f : EndId) → is_end e f ≡ true → is_end (other_end e) (other_end f) ≡ true
other_end_same e f h =
    let parts = and_parts (e.sess == f.sess) (is_same_side e.side f.side) h in
    and_from (e.sess == f.sess) (is_same_side (other_side e.side) (other_side f.side)) parts.0 (sides e.side f.side parts.1)
  where
    sides : (c d : ℕ) → is_same_side c d ≡ true → is_same_side (other_side c) (other_side d) ≡ true
    sides zero zero h = refl
    sides zero (suc d) h = cc
    sides (suc c) zero h = cc
    sides (suc c) (suc d) h = refl

pub twice_other : (e : EndId) → is_end e (other_end (other_end e)) ≡ true
twice_other e = and_from (e.sess == e.sess) (is_same_side e.side (other_side (other_side e.side))) (eq-eqb e.sess e.sess refl) (sides e.side)
  where
    sides : (d : ℕ) → is_same_side d (other_side (other_side d)) ≡ true
    sides zero = refl
    sides (suc d) = refl

-- an end that is sent is on its way to the taker
pub sent_comes : (p : ℕ) (zs : List Session) (k y : EndId) (m : Msg) → length (end_at zs (other_end k)).takers ≤ length (end_at zs k).sent → names_end y m ≡ true → IsComing (touched p zs (k, sends m)) y (other_end k)
sent_comes p zs k y m le names =
    let new : List Session = touched p zs (k, sends m) in
    let n = length (end_at zs (other_end k)).takers in
    let back : (end_at new (other_end (other_end k))).sent ≡ (end_at zs k).sent ++ record { msg = m; by = p } ∷ [] =
    ap (λ t. t.sent) (sym (same_end_at new k (other_end (other_end k)) (twice_other k)) ∙ touched_here p zs k (sends m)) in
    record {
      number = length (drop n (end_at zs k).sent);
      passed = record { msg = m; by = p };
      there = ap (λ t. slice_get (drop (length t) (end_at new (other_end (other_end k))).sent) (length (drop n (end_at zs k).sent))) (takers_stay p zs k (sends m) (other_end k) tt)
          ∙ ap (λ t. slice_get (drop n t) (length (drop n (end_at zs k).sent))) back
          ∙ ap (λ t. slice_get t (length (drop n (end_at zs k).sent))) (drop_push n (end_at zs k).sent (record { msg = m; by = p }) le)
          ∙ push_get (drop n (end_at zs k).sent) (record { msg = m; by = p });
      names = names;
    }

-- a take leaves what is on its way there, or takes it
pub data AfterTake (p : ℕ) (zs : List Session) (k : EndId) (x : Passed) (e f : EndId) : Type 0 where
  still : IsComing (touched p zs (k, takes x.msg)) e f → AfterTake p zs k x e f
  taken : names_end e x.msg ≡ true → AfterTake p zs k x e f

at_taker : (p : ℕ) (zs : List Session) (k : EndId) (x : Passed) (e f : EndId) → next_for zs k ≡ Some x → is_end k f ≡ true
    → (j : ℕ) (y : Passed) → slice_get (coming (end_at zs f) (end_at zs (other_end f))) j ≡ Some y → names_end e y.msg ≡ true → AfterTake p zs k x e f
at_taker p zs k x e f next same zero y h names =
    let head : slice_get (end_at zs (other_end f)).sent (length (end_at zs f).takers) ≡ Some x =
    ap (λ t. slice_get t.sent (length (end_at zs f).takers)) (sym (same_end_at zs (other_end k) (other_end f) (other_end_same k f same)))
    ∙ ap (λ t. slice_get (end_at zs (other_end k)).sent (length t.takers)) (sym (same_end_at zs k f same)) ∙ next in
    let both : Some y ≡ Some x = sym h ∙ drop_get (length (end_at zs f).takers) 0 (length (end_at zs f).takers) (end_at zs (other_end f)).sent (omega arith) ∙ head in
    let it : y ≡ x = cc in
    taken (sym (ap (λ t. names_end e t.msg) it) ∙ names)
at_taker p zs k x e f next same (suc j) y h names =
    let new : List Session = touched p zs (k, takes x.msg) in
    let n = length (end_at zs f).takers in
    let more : length (end_at new f).takers ≡ suc n =
    ap (λ t. length t.takers) (sym (same_end_at new k f same) ∙ touched_here p zs k (takes x.msg)) ∙ length-push (end_at zs k).takers p ∙ ap (λ t. suc (length t.takers)) (same_end_at zs k f same) in
    still (record {
      number = j;
      passed = y;
      there = ap (λ t. slice_get (drop t (end_at new (other_end f)).sent) j) more
          ∙ drop_get (suc n) j (n + suc j) (end_at new (other_end f)).sent (omega arith)
          ∙ end_at-after_uses_extends p ((k, takes x.msg) ∷ []) zs (other_end f) (n + suc j) y (sym (drop_get n (suc j) (n + suc j) (end_at zs (other_end f)).sent refl) ∙ h);
      names = names;
    })

pub coming_after_take : (p : ℕ) (zs : List Session) (k : EndId) (x : Passed) (e f : EndId) → next_for zs k ≡ Some x → IsComing zs e f → AfterTake p zs k x e f
coming_after_take p zs k x e f next c =
    elim (cases_Bool (is_end k f)) [
      | inl same ↦ at_taker p zs k x e f next same c.number c.passed c.there c.names
      | inr other ↦ still (record {
        number = c.number;
        passed = c.passed;
        there = still_coming (end_at zs f) (end_at zs (other_end f)) (end_at (touched p zs (k, takes x.msg)) f) (end_at (touched p zs (k, takes x.msg)) (other_end f)) c.number c.passed
            (ap (λ t. t.takers) (end_at-touched_other p zs (k, takes x.msg) f other)) (end_at-after_uses_extends p ((k, takes x.msg) ∷ []) zs (other_end f)) c.there;
        names = c.names;
      })
    ]
