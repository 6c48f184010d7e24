-- Sessions in a list, and uses of their ends.
use Rattle.std.proofs.Common.{◌≡◌, ℕ, zero, suc, ◌≤◌, ◌<◌, List, [], ◌∷◌, map, length, get_or, slice_get, Option, Some, None, option_map, unwrap_or, refl, ap, sym, ◌∙◌, arith, subst, inl, inr}
use Rattle.std.proofs.Math.ListN.{set}
use Rattle.std.proofs.lemmas.Bool.{cases_eq}
use Rattle.std.proofs.lemmas.Option.{slice_get-map, slice_get_read}
use Rattle.sj_base.specs.declared.EndId.{EndId}
use Rattle.sj_base.specs.declared.Msg.{Msg}
use Rattle.sj_semantics.specs.Ends as model
use Rattle.sj_semantics.specs.Ends.{end_on, end_at, nowhere}
use Rattle.sj_semantics.specs.Uses.{end_after, sends, delegates, altered_list, on_side}
use Rattle.sj_table.specs.declared.table.Table.{Table}
use Rattle.sj_plain.specs.declared.ends.Session.{Session as Lying}
use Rattle.sj_plain.specs.Ends.{session_at}
use Rattle.sj_plain.specs.Stepping.{sessions_at}
use Rattle.sj_semantics_laws.proofs.AlteredLemmas.{altered_comm, altered-altered, slice_get-altered, slice_get-altered_other}

-- ---- one element of a list

pub altered-past : {X : Type 0} (xs : List X) (i : ℕ) (f : X → X) → length xs ≤ i → altered_list xs i f ≡ xs
altered-past [] i f le = refl
altered-past (x ∷ xs) zero f le = absurd (omega arith)
altered-past (x ∷ xs) (suc i) f le = ap (λ t. x ∷ t) (altered-past xs i f (omega arith))

-- an element that is seen as what f makes of the old one
pub map-set : {X Y : Type 0} (view : X → Y) (xs : List X) (i : ℕ) (x y : X) (f : Y → Y) → i < length xs → x ≡ get_or xs i x → view y ≡ f (view x) → map view (set xs i y) ≡ altered_list (map view xs) i f
map-set view [] i x y f lt there new = absurd (omega arith)
map-set view (a ∷ xs) zero x y f lt there new = ap (λ t. t ∷ map view xs) (new ∙ ap (λ t. f (view t)) there)
map-set view (a ∷ xs) (suc i) x y f lt there new = ap (λ t. view a ∷ t) (map-set view xs i x y f (omega arith) there new)

-- an element that is seen as the old one was
pub map-same : {X Y : Type 0} (view : X → Y) (xs : List X) (i : ℕ) (x y : X) → i < length xs → x ≡ get_or xs i x → view y ≡ view x → map view (set xs i y) ≡ map view xs
map-same view [] i x y lt there same = absurd (omega arith)
map-same view (a ∷ xs) zero x y lt there same = ap (λ t. t ∷ map view xs) (same ∙ ap view there)
map-same view (a ∷ xs) (suc i) x y lt there same = ap (λ t. view a ∷ t) (map-same view xs i x y (omega arith) there same)

-- ---- an end that is delegated, and the message that does it

sides_comm : (p c d : ℕ) (m : Msg) (z : model.Session) → on_side d (end_after p delegates) (on_side c (end_after p (sends m)) z) ≡ on_side c (end_after p (sends m)) (on_side d (end_after p delegates) z)
sides_comm p zero zero m z = refl
sides_comm p zero (suc d) m z = refl
sides_comm p (suc c) zero m z = refl
sides_comm p (suc c) (suc d) m z = refl

-- the message of the delegation can be sent first
pub handed_first : (p : ℕ) (e y : EndId) (m : Msg) (zs : List model.Session)
    → altered_list (altered_list zs e.sess (on_side e.side (end_after p (sends m)))) y.sess (on_side y.side (end_after p delegates))
    ≡ altered_list (altered_list zs y.sess (on_side y.side (end_after p delegates))) e.sess (on_side e.side (end_after p (sends m)))
handed_first p e y m zs =
    elim (cases_eq e.sess y.sess) [
      | inl same ↦
          subst (λ (t : ℕ). altered_list (altered_list zs e.sess (on_side e.side (end_after p (sends m)))) t (on_side y.side (end_after p delegates)) ≡ altered_list (altered_list zs t (on_side y.side (end_after p delegates))) e.sess (on_side e.side (end_after p (sends m)))) same
          (altered-altered zs e.sess (on_side e.side (end_after p (sends m))) (on_side y.side (end_after p delegates))
          ∙ ap (altered_list zs e.sess) (λ i z. sides_comm p e.side y.side m z i)
          ∙ sym (altered-altered zs e.sess (on_side y.side (end_after p delegates)) (on_side e.side (end_after p (sends m)))))
      | inr other ↦ altered_comm zs e.sess y.sess (on_side e.side (end_after p (sends m))) (on_side y.side (end_after p delegates)) other
    ]

side_hops : (p c d : ℕ) (m : Msg) (z : model.Session) → (end_on d (on_side c (end_after p (sends m)) z)).hops ≡ (end_on d z).hops
side_hops p zero zero m z = refl
side_hops p zero (suc d) m z = refl
side_hops p (suc c) zero m z = refl
side_hops p (suc c) (suc d) m z = refl

hops_if : (p c d : ℕ) (m : Msg) (o : Option model.Session) → (unwrap_or (option_map (end_on d) (option_map (on_side c (end_after p (sends m))) o)) nowhere).hops ≡ (unwrap_or (option_map (end_on d) o) nowhere).hops
hops_if p c d m None = refl
hops_if p c d m (Some z) = side_hops p c d m z

-- a send counts no delegation
pub hops_stay : (p : ℕ) (e y : EndId) (m : Msg) (zs : List model.Session) → (end_at (altered_list zs e.sess (on_side e.side (end_after p (sends m)))) y).hops ≡ (end_at zs y).hops
hops_stay p e y m zs =
    elim (cases_eq e.sess y.sess) [
      | inl same ↦
          subst (λ (t : ℕ). (unwrap_or (option_map (end_on y.side) (slice_get (altered_list zs e.sess (on_side e.side (end_after p (sends m)))) t)) nowhere).hops ≡ (unwrap_or (option_map (end_on y.side) (slice_get zs t)) nowhere).hops) same
          (ap (λ o. (unwrap_or (option_map (end_on y.side) o) nowhere).hops) (slice_get-altered zs e.sess (on_side e.side (end_after p (sends m)))) ∙ hops_if p e.side y.side m (slice_get zs e.sess))
      | inr other ↦ ap (λ o. (unwrap_or (option_map (end_on y.side) o) nowhere).hops) (slice_get-altered_other zs e.sess y.sess (on_side e.side (end_after p (sends m))) other)
    ]

-- delegations are counted alike over any table
pub hops_alike : (t u : Table) (zs : List Lying) (e : EndId) → (end_at (sessions_at t zs) e).hops ≡ (end_at (sessions_at u zs) e).hops
hops_alike t u zs e = at e.sess e.side zs
  where
    on : (d : ℕ) (z : Lying) → (end_on d (session_at t z)).hops ≡ (end_on d (session_at u z)).hops
    on zero z = refl
    on (suc d) z = refl

    at : (n d : ℕ) (zs : List Lying) → (unwrap_or (option_map (end_on d) (slice_get (sessions_at t zs) n)) nowhere).hops ≡ (unwrap_or (option_map (end_on d) (slice_get (sessions_at u zs) n)) nowhere).hops
    at n d [] = refl
    at zero d (z ∷ zs) = on d z
    at (suc n) d (z ∷ zs) = at n d zs

-- the end of a session that is there
pub end_there : (t : Table) (zs : List Lying) (e : EndId) (z : Lying) → e.sess < length zs → z ≡ get_or zs e.sess z → end_at (sessions_at t zs) e ≡ end_on e.side (session_at t z)
end_there t zs e z lt there = ap (λ o. unwrap_or (option_map (end_on e.side) o) nowhere) (slice_get-map (session_at t) zs e.sess ∙ ap (option_map (session_at t)) (slice_get_read zs (length zs) e.sess z refl lt there))

pub first_hops : (t : Table) (d : ℕ) (z : Lying) → d ≡ 0 → (end_on d (session_at t z)).hops ≡ z.first.hops
first_hops t zero z e = refl
first_hops t (suc d) z e = absurd (omega (arith, e))

pub second_hops : (t : Table) (d : ℕ) (z : Lying) → (d ≡ 0 → ⊥) → (end_on d (session_at t z)).hops ≡ z.second.hops
second_hops t zero z ne = absurd (ne refl)
second_hops t (suc d) z ne = refl
