-- A closed end stays closed, and who took stays.
use Rattle.std.proofs.Common.{◌≡◌, ℕ, List, unwrap_or, refl, ap, ◌∙◌, inl, inr}
use Rattle.std.specs.Bool.{⊤}
use Rattle.std.proofs.lemmas.Bool.{cases_Bool}
use Rattle.sj_base.specs.declared.EndId.{EndId}
use Rattle.sj_lang.specs.declared.proto.Way.TheVariants.{Out, Into}
use Rattle.sj_lang.specs.Place.{done}
use Rattle.sj_lang.specs.After.{after_place}
use Rattle.sj_semantics.specs.Ends.{Session, EndAt, end_at, is_end}
use Rattle.sj_semantics.specs.Uses.{Use, sends, takes, delegates, begins, end_after}
use Rattle.sj_semantics_laws.proofs.EndLemmas.{touched, end_at-touched_other, end_at-touched_same}

-- a use that isn't a beginning
abbrev pub BeginsNothing : Use → Type 0
BeginsNothing (sends m) = ⊤
BeginsNothing (takes m) = ⊤
BeginsNothing delegates = ⊤
BeginsNothing (begins place) = ⊥

used_done : (p : ℕ) (u : Use) (a : EndAt) → BeginsNothing u → a.place ≡ done → (end_after p u a).place ≡ done
used_done p (sends m) a n h = ap (λ q. unwrap_or (after_place q Out m) q) h
used_done p (takes m) a n h = ap (λ q. unwrap_or (after_place q Into m) q) h
used_done p delegates a n h = h
used_done p (begins place) a n h = absurd n

pub stays_done : (p : ℕ) (zs : List Session) (k : EndId) (u : Use) (e : EndId) → BeginsNothing u → (end_at zs e).place ≡ done → (end_at (touched p zs (k, u)) e).place ≡ done
stays_done p zs k u e n h =
    elim (cases_Bool (is_end k e)) [
      | inl it ↦ ap (λ t. t.place) (end_at-touched_same p zs (k, u) e it) ∙ used_done p u (end_at zs e) n h
      | inr other ↦ ap (λ t. t.place) (end_at-touched_other p zs (k, u) e other) ∙ h
    ]

-- a use that takes nothing
abbrev pub TakesNothing : Use → Type 0
TakesNothing (sends m) = ⊤
TakesNothing (takes m) = ⊥
TakesNothing delegates = ⊤
TakesNothing (begins place) = ⊤

used_takers : (p : ℕ) (u : Use) (a : EndAt) → TakesNothing u → (end_after p u a).takers ≡ a.takers
used_takers p (sends m) a h = refl
used_takers p (takes m) a h = absurd h
used_takers p delegates a h = refl
used_takers p (begins place) a h = refl

pub takers_stay : (p : ℕ) (zs : List Session) (k : EndId) (u : Use) (e : EndId) → TakesNothing u → (end_at (touched p zs (k, u)) e).takers ≡ (end_at zs e).takers
takers_stay p zs k u e h =
    elim (cases_Bool (is_end k e)) [
      | inl it ↦ ap (λ t. t.takers) (end_at-touched_same p zs (k, u) e it) ∙ used_takers p u (end_at zs e) h
      | inr other ↦ ap (λ t. t.takers) (end_at-touched_other p zs (k, u) e other)
    ]
