-- Sessions that are reached, and uses of their ends.
use Rattle.std.proofs.Common.{◌≡◌, ℕ, zero, suc, ◌≤◌, ◌<◌, List, [], ◌∷◌, ◌++◌, length, map, take, slice_get, option_map, unwrap_or, refl, ap, sym, ◌∙◌, arith, inl, inr}
use Rattle.std.proofs.lemmas.Bool.{cases_eq}
use Rattle.std.proofs.lemmas.List.{length-map}
use Rattle.sj_base.specs.declared.EndId.{EndId}
use Rattle.sj_semantics.specs.Ends.{Session, end_at, end_on, nowhere, unopened}
use Rattle.sj_semantics.specs.Uses.{altered_list, altered_session}
use Rattle.sj_semantics_laws.proofs.AlteredLemmas.{altered_session-altered, altered_session_comm, below_altered_session, length-altered, length-altered_session_le}
use Rattle.sj_table.specs.declared.table.Table.{Table}
use Rattle.sj_plain.specs.declared.ends.Session.{Session as Lying}
use Rattle.sj_plain.specs.Ends.{session_at}
use Rattle.sj_plain.specs.Stepping.{reached, sessions_at}

-- one more that isn't opened
pub reached-push : (zs : List Session) (s : ℕ) → length zs ≤ s → reached (zs ++ unopened ∷ []) s ≡ reached zs s
reached-push [] zero le = refl
reached-push [] (suc s) le = refl
reached-push (z ∷ zs) zero le = absurd (omega (arith, le))
reached-push (z ∷ zs) (suc s) le = ap (λ t. z ∷ t) (reached-push zs s (omega (arith, le)))

pub reached-there : (zs : List Session) (s : ℕ) → s < length zs → reached zs s ≡ zs
reached-there [] s lt = absurd (omega (arith, lt))
reached-there (z ∷ zs) zero lt = refl
reached-there (z ∷ zs) (suc s) lt = ap (λ t. z ∷ t) (reached-there zs s (omega (arith, lt)))

-- where the session is there, sessions are altered as any list is
altered_there : (zs : List Session) (s : ℕ) (f : Session → Session) → s < length zs → altered_list zs s f ≡ altered_session zs s f
altered_there [] s f lt = absurd (omega (arith, lt))
altered_there (z ∷ zs) zero f lt = refl
altered_there (z ∷ zs) (suc s) f lt = ap (λ t. z ∷ t) (altered_there zs s f (omega (arith, lt)))

-- what is reached first and then altered
pub altered_reached : (zs : List Session) (s : ℕ) (f : Session → Session) → altered_list (reached zs s) s f ≡ altered_session zs s f
altered_reached zs s f = altered_there (reached zs s) s f (below_altered_session zs s (λ z. z)) ∙ altered_session-altered zs s (λ z. z) f

-- what is altered once more
pub altered_further : (zs : List Session) (s : ℕ) (f g : Session → Session) → altered_list (altered_session zs s f) s g ≡ altered_session (altered_session zs s f) s g
altered_further zs s f g = altered_there (altered_session zs s f) s g (below_altered_session zs s f)

-- two are reached, and then the first is altered
pub altered_first : (zs : List Session) (s t : ℕ) (f : Session → Session) → altered_list (reached (reached zs s) t) s f ≡ reached (altered_session zs s f) t
altered_first zs s t f =
    altered_there (reached (reached zs s) t) s f (omega (arith, below_altered_session zs s (λ z. z), length-altered_session_le (reached zs s) t (λ z. z)))
    ∙ elim (cases_eq s t) [
      | inl same ↦ ap (λ u. altered_session (reached (reached zs s) u) s f) (sym same) ∙ altered_session-altered (reached zs s) s (λ z. z) f ∙ altered_session-altered zs s (λ z. z) f ∙ sym (altered_session-altered zs s f (λ z. z)) ∙ ap (λ u. reached (altered_session zs s f) u) same
      | inr other ↦ altered_session_comm (reached zs s) t s (λ z. z) f (λ e. other (sym e)) ∙ ap (λ u. reached u t) (altered_session-altered zs s (λ z. z) f)
    ]

-- two are reached, and then both are altered
pub altered_both : (zs : List Session) (s t : ℕ) (f g : Session → Session) → altered_list (altered_list (reached (reached zs s) t) s f) t g ≡ altered_session (altered_session zs s f) t g
altered_both zs s t f g = ap (λ u. altered_list u t g) (altered_first zs s t f) ∙ altered_reached (altered_session zs s f) t g

-- one is reached and altered, and two are
pub altered_once : (zs mid new : List Session) (s : ℕ) (f : Session → Session) → mid ≡ reached zs s → new ≡ altered_list mid s f → new ≡ altered_session zs s f
altered_once zs mid new s f there made = made ∙ ap (λ u. altered_list u s f) there ∙ altered_reached zs s f

pub altered_twice : (zs mid one new : List Session) (s t : ℕ) (f g : Session → Session) → mid ≡ reached (reached zs s) t → one ≡ altered_list mid s f → new ≡ altered_list one t g → new ≡ altered_session (altered_session zs s f) t g
altered_twice zs mid one new s t f g there first second = second ∙ ap (λ u. altered_list u t g) (first ∙ ap (λ u. altered_list u s f) there) ∙ altered_both zs s t f g

-- a session that is there stays there
pub still_there : (t : Table) (mid new : List Lying) (s i : ℕ) (f : Session → Session) → sessions_at t new ≡ altered_list (sessions_at t mid) s f → i < length mid → i < length new
still_there t mid new s i f made lt = omega (arith, lt, length-map new (session_at t), length-map mid (session_at t), ap length made, length-altered (sessions_at t mid) s f)

-- each end is as it was
pub end_at-reached : (zs : List Session) (s : ℕ) (e : EndId) → end_at (reached zs s) e ≡ end_at zs e
end_at-reached zs s e = at e.sess e.side zs s
  where
    blank : (d : ℕ) → end_on d unopened ≡ nowhere
    blank zero = refl
    blank (suc d) = refl

    at : (n d : ℕ) (zs : List Session) (s : ℕ) → unwrap_or (option_map (end_on d) (slice_get (reached zs s) n)) nowhere ≡ unwrap_or (option_map (end_on d) (slice_get zs n)) nowhere
    at zero d [] zero = blank d
    at (suc n) d [] zero = refl
    at zero d [] (suc s) = blank d
    at (suc n) d [] (suc s) = at n d [] s
    at zero d (z ∷ zs) zero = refl
    at (suc n) d (z ∷ zs) zero = refl
    at zero d (z ∷ zs) (suc s) = refl
    at (suc n) d (z ∷ zs) (suc s) = at n d zs s

-- ---- back to what was there before

map-take : {X Y : Type 0} (view : X → Y) (xs : List X) (n : ℕ) → map view (take n xs) ≡ take n (map view xs)
map-take view [] zero = refl
map-take view [] (suc n) = refl
map-take view (x ∷ xs) zero = refl
map-take view (x ∷ xs) (suc n) = ap (λ t. view x ∷ t) (map-take view xs n)

pub taken_back : (t : Table) (old mid new cut : List Lying) (n : ℕ) → n ≡ length old → cut ≡ take n new → take (length old) mid ≡ old → sessions_at t new ≡ sessions_at t mid → sessions_at t cut ≡ sessions_at t old
taken_back t old mid new cut n is by front same = ap (sessions_at t) by ∙ ap (λ k. sessions_at t (take k new)) is ∙ front_again t old mid new front same
  where
    front_again : (t : Table) (old mid new : List Lying) → take (length old) mid ≡ old → sessions_at t new ≡ sessions_at t mid → sessions_at t (take (length old) new) ≡ sessions_at t old
    front_again t old mid new front same = map-take (session_at t) new (length old) ∙ ap (take (length old)) same ∙ sym (map-take (session_at t) mid (length old)) ∙ ap (sessions_at t) front

-- a prefix stays one where one more is appended
pub front-push : {X : Type 0} (xs ys : List X) (y : X) → take (length xs) ys ≡ xs → take (length xs) (ys ++ y ∷ []) ≡ xs
front-push [] ys y front = none (ys ++ y ∷ [])
  where
    none : {X : Type 0} (zs : List X) → take 0 zs ≡ []
    none [] = refl
    none (z ∷ zs) = refl
front-push (x ∷ xs) [] y front = cc
front-push (x ∷ xs) (z ∷ ys) y front = λ i. head front i ∷ front-push xs ys y (tail front) i
  where
    head : {X : Type 0} {a b : X} {xs ys : List X} → a ∷ xs ≡ b ∷ ys → a ≡ b
    head h = cc

    tail : {X : Type 0} {a b : X} {xs ys : List X} → a ∷ xs ≡ b ∷ ys → xs ≡ ys
    tail h = cc

pub front_of_front : {X : Type 0} (old mid new : List X) → take (length old) mid ≡ old → take (length mid) new ≡ mid → take (length old) new ≡ old
front_of_front [] mid new first second = none new
  where
    none : {X : Type 0} (zs : List X) → take 0 zs ≡ []
    none [] = refl
    none (z ∷ zs) = refl
front_of_front (x ∷ old) [] new first second = cc
front_of_front (x ∷ old) (y ∷ mid) [] first second = cc
front_of_front (x ∷ old) (y ∷ mid) (z ∷ new) first second = λ i. (head second ∙ head first) i ∷ front_of_front old mid new (tail first) (tail second) i
  where
    head : {X : Type 0} {a b : X} {xs ys : List X} → a ∷ xs ≡ b ∷ ys → a ≡ b
    head h = cc

    tail : {X : Type 0} {a b : X} {xs ys : List X} → a ∷ xs ≡ b ∷ ys → xs ≡ ys
    tail h = cc
