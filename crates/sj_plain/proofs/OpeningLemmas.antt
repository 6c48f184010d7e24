-- What a request and an accept make.
use Rattle.std.proofs.Common.{◌≡◌, ℕ, suc, ◌<◌, Bool, cond, List, [], ◌∷◌, Some, None, length, option_map, ap, sym, ◌∙◌, arith, inl, inr}
use Rattle.std.proofs.lemmas.Bool.{cases_Bool}
use Rattle.sj_lang.specs.Dual.{dual_of}
use Rattle.sj_lang.specs.Place.{Place}
use Rattle.sj_semantics.specs.declared.Opened.{Opened}
use Rattle.sj_semantics.specs.Program.{Program}
use Rattle.sj_semantics.specs.Requests.{Request, accepts, first_offer, is_offered, opened_number, requests, requests_after}
use Rattle.sj_semantics.specs.Steps.{name_opened, opened_of}
use Rattle.sj_semantics.specs.Uses.{altered_list, altered_session, begins, end_after, on_side}
use Rattle.sj_semantics.specs.World.{change_by_accepting, change_by_opening}
use Rattle.sj_semantics_laws.proofs.ToComeLemmas.{one_further}
use Rattle.sj_table.specs.declared.table.Table.{Table}
use Rattle.sj_plain.specs.declared.ends.Session.{Session as Lying}
use Rattle.sj_plain.specs.Opened.{requests_in}
use Rattle.sj_plain.specs.Stepping.{Makes, reached, sessions_at}
use Rattle.sj_plain.proofs.ReachLemmas.{altered_further, altered_once}

-- what is offered is there
pub offer_below : (q : ℕ) (rs : List Request) (k : ℕ) → first_offer q rs ≡ Some k → k < length rs
offer_below q [] k h = cc
offer_below q (r ∷ rs) k h =
    elim (cases_Bool (is_offered q r)) [
      | inl hit ↦ let s : Some 0 ≡ Some k = sym (ap (λ (b : Bool). cond b (Some 0) (option_map (λ j. suc j) (first_offer q rs))) hit) ∙ h in let e : 0 ≡ k = cc in omega (arith, e)
      | inr miss ↦
          let f = one_further (first_offer q rs) k (sym (ap (λ (b : Bool). cond b (Some 0) (option_map (λ j. suc j) (first_offer q rs))) miss) ∙ h) in
          omega (arith, offer_below q rs f.0 f.1, f.2)
    ]

pub opened_makes : (t : Table) (p to sess name : ℕ) (g h : Program) (place second : Place) (zs mid one ys : List Lying) (old new : List Opened)
    → sess ≡ opened_number p (length (requests_in old p)) → name ≡ name_opened g.todo → second ≡ dual_of place → h ≡ opened_of g (record { sess = sess; side = 0 })
    → sessions_at t mid ≡ reached (sessions_at t zs) sess
    → sessions_at t one ≡ altered_list (sessions_at t mid) sess (on_side 0 (end_after p (begins place)))
    → sessions_at t ys ≡ altered_list (sessions_at t one) sess (on_side 1 (end_after p (begins second)))
    → ((x : ℕ) → requests_in new x ≡ requests_after p (requests (record { to = to; first = name; second = None })) x (requests_in old x))
    → Makes t p (change_by_opening g (opened_number p (length (requests_in old p))) place to) zs ys old new h
opened_makes t p to sess name g h place second zs mid one ys old new number named dual made there first other asked = record {
  program = made ∙ ap (λ s. opened_of g (record { sess = s; side = 0 })) number;
  sessions =
      other
      ∙ ap (λ u. altered_list u sess (on_side 1 (end_after p (begins second)))) (altered_once (sessions_at t zs) (sessions_at t mid) (sessions_at t one) sess (on_side 0 (end_after p (begins place))) there first)
      ∙ altered_further (sessions_at t zs) sess (on_side 0 (end_after p (begins place))) (on_side 1 (end_after p (begins second)))
      ∙ ap (λ u. altered_session (altered_session (sessions_at t zs) sess (on_side 0 (end_after p (begins place)))) sess (on_side 1 (end_after p (begins u)))) dual
      ∙ ap (λ s. altered_session (altered_session (sessions_at t zs) s (on_side 0 (end_after p (begins place)))) s (on_side 1 (end_after p (begins (dual_of place))))) number;
  requests = λ x. asked x ∙ ap (λ t. requests_after p (requests (record { to = to; first = t; second = None })) x (requests_in old x)) named;
}

pub accepted_makes : (t : Table) (p q k sess name : ℕ) (g h : Program) (place : Place) (zs mid ys : List Lying) (old new : List Opened)
    → sess ≡ opened_number q k → name ≡ name_opened g.todo → h ≡ opened_of g (record { sess = sess; side = 1 })
    → sessions_at t mid ≡ reached (sessions_at t zs) sess
    → sessions_at t ys ≡ altered_list (sessions_at t mid) sess (on_side 1 (end_after p (begins place)))
    → ((x : ℕ) → requests_in new x ≡ requests_after p (accepts q k name) x (requests_in old x))
    → Makes t p (change_by_accepting g q place k) zs ys old new h
accepted_makes t p q k sess name g h place zs mid ys old new number named made there begun asked = record {
  program = made ∙ ap (λ s. opened_of g (record { sess = s; side = 1 })) number;
  sessions =
      altered_once (sessions_at t zs) (sessions_at t mid) (sessions_at t ys) sess (on_side 1 (end_after p (begins place))) there begun
      ∙ ap (λ s. altered_session (sessions_at t zs) s (on_side 1 (end_after p (begins place)))) number;
  requests = λ x. asked x ∙ ap (λ t. requests_after p (accepts q k t) x (requests_in old x)) named;
}
