-- Lists with one element altered.
use Rattle.std.proofs.Common.{◌≡◌, ℕ, zero, suc, ◌+◌, ◌≤◌, ◌<◌, List, [], ◌∷◌, length, slice_get, Some, option_map, unwrap_or, sum_by, refl, ap, arith}
use Rattle.std.proofs.lemmas.List.Sums.{sum_by-cons}
use Rattle.sj_semantics.specs.Ends.{Session, unopened}
use Rattle.sj_semantics.specs.Uses.{altered_list, altered_session}

pub altered_comm : {X : Type 0} (xs : List X) (i j : ℕ) (f g : X → X) → (i ≡ j → ⊥) → altered_list (altered_list xs i f) j g ≡ altered_list (altered_list xs j g) i f
altered_comm [] i j f g ne = refl
altered_comm (x ∷ xs) zero zero f g ne = absurd (ne refl)
altered_comm (x ∷ xs) zero (suc j) f g ne = refl
altered_comm (x ∷ xs) (suc i) zero f g ne = refl
altered_comm (x ∷ xs) (suc i) (suc j) f g ne = ap (λ t. x ∷ t) (altered_comm xs i j f g (λ e. ne (ap suc e)))

pub altered-altered : {X : Type 0} (xs : List X) (i : ℕ) (f g : X → X) → altered_list (altered_list xs i f) i g ≡ altered_list xs i (λ x. g (f x))
altered-altered [] i f g = refl
altered-altered (x ∷ xs) zero f g = refl
altered-altered (x ∷ xs) (suc i) f g = ap (λ t. x ∷ t) (altered-altered xs i f g)

pub slice_get-altered_other : {X : Type 0} (xs : List X) (i j : ℕ) (f : X → X) → (i ≡ j → ⊥) → slice_get (altered_list xs i f) j ≡ slice_get xs j
slice_get-altered_other [] i j f ne = refl
slice_get-altered_other (x ∷ xs) zero zero f ne = absurd (ne refl)
slice_get-altered_other (x ∷ xs) zero (suc j) f ne = refl
slice_get-altered_other (x ∷ xs) (suc i) zero f ne = refl
slice_get-altered_other (x ∷ xs) (suc i) (suc j) f ne = slice_get-altered_other xs i j f (λ e. ne (ap suc e))

pub slice_get-altered : {X : Type 0} (xs : List X) (i : ℕ) (f : X → X) → slice_get (altered_list xs i f) i ≡ option_map f (slice_get xs i)
slice_get-altered [] i f = refl
slice_get-altered (x ∷ xs) zero f = refl
slice_get-altered (x ∷ xs) (suc i) f = slice_get-altered xs i f

pub length-altered : {X : Type 0} (xs : List X) (i : ℕ) (f : X → X) → length (altered_list xs i f) ≡ length xs
length-altered [] i f = refl
length-altered (x ∷ xs) zero f = refl
length-altered (x ∷ xs) (suc i) f = ap suc (length-altered xs i f)

-- a sum goes up by no more than the element does
pub sum_by-altered_le : {X : Type 0} (h : X → ℕ) (k : ℕ) (xs : List X) (i : ℕ) (f : X → X) → ((x : X) → slice_get xs i ≡ Some x → h (f x) ≤ h x + k) → sum_by h (altered_list xs i f) ≤ sum_by h xs + k
sum_by-altered_le h k [] i f le = omega arith
sum_by-altered_le h k (x ∷ xs) zero f le = omega (arith, sum_by-cons h x xs, sum_by-cons h (f x) xs, le x refl)
sum_by-altered_le h k (x ∷ xs) (suc i) f le = omega (arith, sum_by-cons h x xs, sum_by-cons h x (altered_list xs i f), sum_by-altered_le h k xs i f le)

-- the sum with what it loses at the element
pub sum_by-altered : {X : Type 0} (h : X → ℕ) (xs : List X) (i : ℕ) (f : X → X) (x : X) → slice_get xs i ≡ Some x → sum_by h (altered_list xs i f) + h x ≡ sum_by h xs + h (f x)
sum_by-altered h [] i f x e = cc
sum_by-altered h (y ∷ xs) zero f x e = let s : y ≡ x = cc in omega (arith, sum_by-cons h y xs, sum_by-cons h (f y) xs, ap h s, ap (λ t. h (f t)) s)
sum_by-altered h (y ∷ xs) (suc i) f x e = omega (arith, sum_by-cons h y xs, sum_by-cons h y (altered_list xs i f), sum_by-altered h xs i f x e)

pub one-le-sum_by : {X : Type 0} (h : X → ℕ) (xs : List X) (i : ℕ) (x : X) → slice_get xs i ≡ Some x → h x ≤ sum_by h xs
one-le-sum_by h [] i x ex = cc
one-le-sum_by h (a ∷ xs) zero x ex = let s : a ≡ x = cc in omega (arith, sum_by-cons h a xs, ap h s)
one-le-sum_by h (a ∷ xs) (suc i) x ex = omega (arith, sum_by-cons h a xs, one-le-sum_by h xs i x ex)

-- two elements at different indexes are no more than the sum
pub two-le-sum_by : {X : Type 0} (h : X → ℕ) (xs : List X) (i j : ℕ) (x y : X) → slice_get xs i ≡ Some x → slice_get xs j ≡ Some y → (i ≡ j → ⊥) → h x + h y ≤ sum_by h xs
two-le-sum_by h [] i j x y ex ey ne = cc
two-le-sum_by h (a ∷ xs) zero zero x y ex ey ne = absurd (ne refl)
two-le-sum_by h (a ∷ xs) zero (suc j) x y ex ey ne = let s : a ≡ x = cc in omega (arith, sum_by-cons h a xs, ap h s, one-le-sum_by h xs j y ey)
two-le-sum_by h (a ∷ xs) (suc i) zero x y ex ey ne = let s : a ≡ y = cc in omega (arith, sum_by-cons h a xs, ap h s, one-le-sum_by h xs i x ex)
two-le-sum_by h (a ∷ xs) (suc i) (suc j) x y ex ey ne = omega (arith, sum_by-cons h a xs, two-le-sum_by h xs i j x y ex ey (λ e. ne (ap suc e)))

-- ---- sessions, of which there are as many as one asks for

-- the session of that number
abbrev pub session_in : List Session → ℕ → Session
session_in zs s = unwrap_or (slice_get zs s) unopened

pub altered_session_comm : (zs : List Session) (i j : ℕ) (f g : Session → Session) → (i ≡ j → ⊥) → altered_session (altered_session zs i f) j g ≡ altered_session (altered_session zs j g) i f
altered_session_comm [] zero zero f g ne = absurd (ne refl)
altered_session_comm [] zero (suc j) f g ne = refl
altered_session_comm [] (suc i) zero f g ne = refl
altered_session_comm [] (suc i) (suc j) f g ne = ap (λ t. unopened ∷ t) (altered_session_comm [] i j f g (λ e. ne (ap suc e)))
altered_session_comm (z ∷ zs) zero zero f g ne = absurd (ne refl)
altered_session_comm (z ∷ zs) zero (suc j) f g ne = refl
altered_session_comm (z ∷ zs) (suc i) zero f g ne = refl
altered_session_comm (z ∷ zs) (suc i) (suc j) f g ne = ap (λ t. z ∷ t) (altered_session_comm zs i j f g (λ e. ne (ap suc e)))

pub altered_session-altered : (zs : List Session) (i : ℕ) (f g : Session → Session) → altered_session (altered_session zs i f) i g ≡ altered_session zs i (λ z. g (f z))
altered_session-altered [] zero f g = refl
altered_session-altered [] (suc i) f g = ap (λ t. unopened ∷ t) (altered_session-altered [] i f g)
altered_session-altered (z ∷ zs) zero f g = refl
altered_session-altered (z ∷ zs) (suc i) f g = ap (λ t. z ∷ t) (altered_session-altered zs i f g)

pub session_in-altered : (zs : List Session) (i : ℕ) (f : Session → Session) → session_in (altered_session zs i f) i ≡ f (session_in zs i)
session_in-altered [] zero f = refl
session_in-altered [] (suc i) f = session_in-altered [] i f
session_in-altered (z ∷ zs) zero f = refl
session_in-altered (z ∷ zs) (suc i) f = session_in-altered zs i f

pub session_in-altered_other : (zs : List Session) (i j : ℕ) (f : Session → Session) → (i ≡ j → ⊥) → session_in (altered_session zs i f) j ≡ session_in zs j
session_in-altered_other [] zero zero f ne = absurd (ne refl)
session_in-altered_other [] zero (suc j) f ne = refl
session_in-altered_other [] (suc i) zero f ne = refl
session_in-altered_other [] (suc i) (suc j) f ne = session_in-altered_other [] i j f (λ e. ne (ap suc e))
session_in-altered_other (z ∷ zs) zero zero f ne = absurd (ne refl)
session_in-altered_other (z ∷ zs) zero (suc j) f ne = refl
session_in-altered_other (z ∷ zs) (suc i) zero f ne = refl
session_in-altered_other (z ∷ zs) (suc i) (suc j) f ne = session_in-altered_other zs i j f (λ e. ne (ap suc e))

-- the sum with what it loses at the session, where a session that isn't opened counts nothing
pub sum_by-altered_session : (h : Session → ℕ) → h unopened ≡ 0 → (zs : List Session) (i : ℕ) (f : Session → Session) → sum_by h (altered_session zs i f) + h (session_in zs i) ≡ sum_by h zs + h (f (session_in zs i))
sum_by-altered_session h none [] zero f = omega (arith, none, sum_by-cons h (f unopened) [])
sum_by-altered_session h none [] (suc i) f = omega (arith, none, sum_by-cons h unopened (altered_session [] i f), sum_by-altered_session h none [] i f)
sum_by-altered_session h none (z ∷ zs) zero f = omega (arith, sum_by-cons h z zs, sum_by-cons h (f z) zs)
sum_by-altered_session h none (z ∷ zs) (suc i) f = omega (arith, sum_by-cons h z zs, sum_by-cons h z (altered_session zs i f), sum_by-altered_session h none zs i f)

pub session-le-sum_by : (h : Session → ℕ) → h unopened ≡ 0 → (zs : List Session) (i : ℕ) → h (session_in zs i) ≤ sum_by h zs
session-le-sum_by h none [] i = omega (arith, none)
session-le-sum_by h none (z ∷ zs) zero = omega (arith, sum_by-cons h z zs)
session-le-sum_by h none (z ∷ zs) (suc i) = omega (arith, sum_by-cons h z zs, session-le-sum_by h none zs i)

pub two-sessions-le-sum_by : (h : Session → ℕ) → h unopened ≡ 0 → (zs : List Session) (i j : ℕ) → (i ≡ j → ⊥) → h (session_in zs i) + h (session_in zs j) ≤ sum_by h zs
two-sessions-le-sum_by h none [] i j ne = omega (arith, none)
two-sessions-le-sum_by h none (z ∷ zs) zero zero ne = absurd (ne refl)
two-sessions-le-sum_by h none (z ∷ zs) zero (suc j) ne = omega (arith, sum_by-cons h z zs, session-le-sum_by h none zs j)
two-sessions-le-sum_by h none (z ∷ zs) (suc i) zero ne = omega (arith, sum_by-cons h z zs, session-le-sum_by h none zs i)
two-sessions-le-sum_by h none (z ∷ zs) (suc i) (suc j) ne = omega (arith, sum_by-cons h z zs, two-sessions-le-sum_by h none zs i j (λ e. ne (ap suc e)))

pub length-altered_session_le : (zs : List Session) (i : ℕ) (f : Session → Session) → length zs ≤ length (altered_session zs i f)
length-altered_session_le [] i f = omega arith
length-altered_session_le (z ∷ zs) zero f = omega arith
length-altered_session_le (z ∷ zs) (suc i) f = omega (arith, length-altered_session_le zs i f)

pub below_altered_session : (zs : List Session) (i : ℕ) (f : Session → Session) → i < length (altered_session zs i f)
below_altered_session [] zero f = omega arith
below_altered_session [] (suc i) f = omega (arith, below_altered_session [] i f)
below_altered_session (z ∷ zs) zero f = omega arith
below_altered_session (z ∷ zs) (suc i) f = omega (arith, below_altered_session zs i f)
