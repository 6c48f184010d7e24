-- Requests that stay after an opening.
use Rattle.std.proofs.Common.{◌≡◌, ℕ, zero, suc, ◌==◌, Bool, true, false, cond, List, [], ◌∷◌, ◌++◌, length, slice_get, Some, refl, ap, sym, ◌∙◌, inl, inr}
use Rattle.std.proofs.lemmas.Bool.{cases_Bool, eq-eqb, eqb-true}
use Rattle.sj_semantics.specs.Requests.{Request, accepted_as, requests, accepts, requests_after}
use Rattle.sj_semantics.specs.Uses.{altered_list}
use Rattle.sj_semantics_laws.proofs.AlteredLemmas.{slice_get-altered_other}

pub push_keeps : (rs : List Request) (s : Request) (k : ℕ) (r : Request) → slice_get rs k ≡ Some r → slice_get (rs ++ s ∷ []) k ≡ Some r
push_keeps [] s k r h = cc
push_keeps (x ∷ rs) s zero r h = h
push_keeps (x ∷ rs) s (suc k) r h = push_keeps rs s k r h

pub request_kept : (p a : ℕ) (s : Request) (rs : List Request) (k : ℕ) (r : Request) → slice_get rs k ≡ Some r → slice_get (requests_after p (requests s) a rs) k ≡ Some r
request_kept p a s rs k r h = by (a == p)
  where
    by : (b : Bool) → slice_get (cond b (rs ++ s ∷ []) rs) k ≡ Some r
    by true = push_keeps rs s k r h
    by false = h

pub pushed_there : (xs : List Request) (x : Request) → slice_get (xs ++ x ∷ []) (length xs) ≡ Some x
pushed_there [] x = refl
pushed_there (y ∷ xs) x = pushed_there xs x

pub request_there : (p : ℕ) (s : Request) (rs : List Request) → slice_get (requests_after p (requests s) p rs) (length rs) ≡ Some s
request_there p s rs = ap (λ (b : Bool). slice_get (cond b (rs ++ s ∷ []) rs) (length rs)) (eq-eqb p p refl) ∙ pushed_there rs s

pub accept_kept : (p q j y a k : ℕ) (rs : List Request) (r : Request) → (q ≡ a → j ≡ k → ⊥) → slice_get rs k ≡ Some r → slice_get (requests_after p (accepts q j y) a rs) k ≡ Some r
accept_kept p q j y a k rs r differ h =
    elim (cases_Bool (a == q)) [
      | inl it ↦
          ap (λ (b : Bool). slice_get (cond b (altered_list rs j (accepted_as y)) rs) k) it
          ∙ slice_get-altered_other rs j k (accepted_as y) (differ (sym (eqb-true a q it))) ∙ h
      | inr other ↦ ap (λ (b : Bool). slice_get (cond b (altered_list rs j (accepted_as y)) rs) k) other ∙ h
    ]
