-- What is gathered has room for its names and texts, and no more arrows than lines.
use Rattle.std.proofs.Common.{◌≡◌, ℕ, ◌+◌, ◌≤◌, Bool, true, false, List, [], ◌∷◌, ◌++◌, length, max, cond, nat_lt, Option, Some, None, if◌then◌else◌, refl, ap, subst, arith}
use Rattle.std.proofs.lemmas.List.{length-append}
use Rattle.std.specs.List.{AllByRecursion, filter}
use Rattle.sj_draw.specs.Chart.{ArrowAt, ChartAt, Outcome, Gathered, Unread, Beyond, empty, outcome_with, then_on, gathered, is_within, is_untaken, with_line, with_any, with_party, with_session, with_arrow, arrow_of, request_of, number_of}
use Rattle.sj_draw.specs.Lines.{DrawnLineAt, Session, Opened, Party, Message, Delivery, Log, Verdict, read}
use Rattle.sj_draw.proofs.OnceLemmas.{any_arrows}

-- what holds of a chart and a number of lines holds after further lines, where each line keeps it
module _ (P : ℕ → ChartAt → Type 0) (step : (k : ℕ) (f : ChartAt) (x : DrawnLineAt) → P k f → is_within (with_line f x) ≡ true → P (k + 1) (with_line f x)) where
  by_test : (b : Bool) (k n : ℕ) (f g h : ChartAt) (m : ℕ) (next : ChartAt → Outcome) → (b ≡ true → P (k + 1) h) → ((j : ChartAt) → P (k + 1) j → next j ≡ Gathered g → P m g)
      → then_on (if b then Gathered h else Beyond n) next ≡ Gathered g → P m g
  by_test true k n f g h m next p and_then e = and_then h (p refl) e
  by_test false k n f g h m next p and_then e = cc

  by_line : (o : Option DrawnLineAt) (k n : ℕ) (f g : ChartAt) (m : ℕ) (next : ChartAt → Outcome) → P k f → ((j : ChartAt) → P (k + 1) j → next j ≡ Gathered g → P m g)
      → then_on (outcome_with f n o) next ≡ Gathered g → P m g
  by_line None k n f g m next p and_then e = cc
  by_line (Some x) k n f g m next p and_then e = by_test (is_within (with_line f x)) k n f g (with_line f x) m next (step k f x p) and_then e

  chart_in : Outcome → ChartAt
  chart_in (Gathered f) = f
  chart_in (Unread n) = empty
  chart_in (Beyond n) = empty

  pub along : (k n : ℕ) (f g : ChartAt) (lines : List (List ℕ)) → P k f → gathered f n lines ≡ Gathered g → P (k + length lines) g
  unfolding chart_in
  along k n f g [] p e = let Q : ChartAt → Type 0 = λ h. P (k + 0) h in let R : ℕ → Type 0 = λ m. P m f in subst Q (ap chart_in e) (subst R (omega arith) p)
  along k n f g (l ∷ ls) p e =
      by_line (read l) k n f g (k + length (l ∷ ls)) (λ j. gathered j (n + 1) ls) p
      (λ j q same. let R : ℕ → Type 0 = λ m. P m g in subst R (omega arith) (along (k + 1) (n + 1) j g ls q same)) e

-- names and texts are no longer than what is kept of them, arrows no more than that many
pub record IsRoomy (k : ℕ) (f : ChartAt) : Type 0 where
  pub parties : AllByRecursion (λ p. length p ≤ f.names) f.parties
  pub arrows : AllByRecursion (λ a. length a.name + length a.text ≤ f.texts) f.arrows
  pub few : length f.arrows ≤ k
  pub within : is_within f ≡ true

module _ {X : Type 0} where
  pub wider : (h : X → ℕ) (n m : ℕ) (xs : List X) → n ≤ m → AllByRecursion (λ x. h x ≤ n) xs → AllByRecursion (λ x. h x ≤ m) xs
  wider h n m [] l a = tt
  wider h n m (x ∷ xs) l a = (omega (arith, l, a.0), wider h n m xs l a.1)

  one_more : (P : X → Type 0) (xs : List X) (y : X) → AllByRecursion P xs → P y → AllByRecursion P (xs ++ y ∷ [])
  one_more P [] y a p = (p, tt)
  one_more P (x ∷ xs) y a p = (a.0, one_more P xs y a.1 p)

  kept_by : (P : X → Type 0) (b : Bool) (x : X) (ys : List X) → P x → AllByRecursion P ys → AllByRecursion P (cond b (x ∷ ys) ys)
  kept_by P true x ys p a = (p, a)
  kept_by P false x ys p a = a

  kept : (P : X → Type 0) (test : X → Bool) (xs : List X) → AllByRecursion P xs → AllByRecursion P (filter test xs)
  kept P test [] a = tt
  kept P test (x ∷ xs) a = kept_by P (test x) x (filter test xs) a.0 (kept P test xs a.1)

  fewer_by : (b : Bool) (x : X) (ys : List X) (n : ℕ) → length ys ≤ n → length (cond b (x ∷ ys) ys) ≤ n + 1
  fewer_by true x ys n h = omega (arith, h)
  fewer_by false x ys n h = omega (arith, h)

  fewer : (test : X → Bool) (xs : List X) → length (filter test xs) ≤ length xs
  fewer test [] = omega arith
  fewer test (x ∷ xs) = omega (arith, fewer_by (test x) x (filter test xs) (length xs) (fewer test xs))

-- there is room for the names and texts
record Rooms (f : ChartAt) : Type 0 where
  parties : AllByRecursion (λ p. length p ≤ f.names) f.parties
  arrows : AllByRecursion (λ a. length a.name + length a.text ≤ f.texts) f.arrows

names_of_party : (ps : List (List ℕ)) (m : ℕ) (name : List ℕ) (b : Bool) → AllByRecursion (λ p. length p ≤ m) ps
    → AllByRecursion (λ p. length p ≤ max m (length name)) (if b then ps else ps ++ name ∷ [])
names_of_party ps m name true a = wider (λ p. length p) m (max m (length name)) ps (omega arith) a
names_of_party ps m name false a = one_more (λ p. length p ≤ max m (length name)) ps name (wider (λ p. length p) m (max m (length name)) ps (omega arith) a) (omega arith)

of_party : (f : ChartAt) (name : List ℕ) → Rooms f → Rooms (with_party f name)
of_party f name r = record { parties = names_of_party f.parties f.names name (nat_lt (number_of f.parties name) (length f.parties)) r.parties; arrows = r.arrows }

of_any : (f : ChartAt) (name : Option (List ℕ)) → Rooms f → Rooms (with_any f name)
of_any f None r = r
of_any f (Some name) r = of_party f name r

of_arrow : (f : ChartAt) (a : ArrowAt) → Rooms f → Rooms (with_arrow f a)
of_arrow f a r =
    let m = max f.texts (length a.name + length a.text) in
    record { parties = r.parties; arrows = one_more (λ x. length x.name + length x.text ≤ m) f.arrows a (wider (λ x. length x.name + length x.text) f.texts m f.arrows (omega arith) r.arrows) (omega arith) }

of_line : (f : ChartAt) (x : DrawnLineAt) → Rooms f → Rooms (with_line f x)
of_line f (Session s) r = let q = of_party (with_party f s.first_party) s.second_party (of_party f s.first_party r) in record { parties = q.parties; arrows = q.arrows }
of_line f (Opened s) r =
    let q = of_party (with_party f s.first_party) s.second_party (of_party f s.first_party r) in
    let g = with_session (with_party (with_party f s.first_party) s.second_party) s in of_arrow g (arrow_of g (request_of s)) (record { parties = q.parties; arrows = q.arrows })
of_line f (Party name) r = of_party f name r
of_line f (Message p) r = let g = with_any (with_party f p.from) p.to in of_arrow g (arrow_of g p) (of_any (with_party f p.from) p.to (of_party f p.from r))
of_line f (Delivery p) r = let g = with_party (with_any f p.to) p.from in of_arrow g (arrow_of g p) (of_party (with_any f p.to) p.from (of_any f p.to r))
of_line f Log r = record { parties = r.parties; arrows = kept (λ a. length a.name + length a.text ≤ f.texts) is_untaken f.arrows r.arrows }
of_line f Verdict r = r

one_longer : (xs ys : List ArrowAt) (a : ArrowAt) (k : ℕ) → xs ≡ ys → length ys ≤ k → length (xs ++ a ∷ []) ≤ k + 1
one_longer xs ys a k e h = omega (arith, length-append xs (a ∷ []), ap (λ (zs : List ArrowAt). length zs) e, h)

few_more : (k : ℕ) (f : ChartAt) (x : DrawnLineAt) → length f.arrows ≤ k → length (with_line f x).arrows ≤ k + 1
few_more k f (Session s) h = omega (arith, h)
few_more k f (Opened s) h =
    let g = with_session (with_party (with_party f s.first_party) s.second_party) s in one_longer g.arrows f.arrows (arrow_of g (request_of s)) k refl h
few_more k f (Party name) h = omega (arith, h)
few_more k f (Message p) h = let g = with_any (with_party f p.from) p.to in one_longer g.arrows f.arrows (arrow_of g p) k (any_arrows (with_party f p.from) p.to) h
few_more k f (Delivery p) h = let g = with_party (with_any f p.to) p.from in one_longer g.arrows f.arrows (arrow_of g p) k (any_arrows f p.to) h
few_more k f Log h = omega (arith, fewer is_untaken f.arrows, h)
few_more k f Verdict h = omega (arith, h)

line_roomy : (k : ℕ) (f : ChartAt) (x : DrawnLineAt) → IsRoomy k f → is_within (with_line f x) ≡ true → IsRoomy (k + 1) (with_line f x)
line_roomy k f x r w =
    let q = of_line f x (record { parties = r.parties; arrows = r.arrows }) in
    record { parties = q.parties; arrows = q.arrows; few = few_more k f x r.few; within = w }

pub roomy : (g : ChartAt) (lines : List (List ℕ)) → gathered empty 1 lines ≡ Gathered g → IsRoomy (length lines) g
roomy g lines e =
    let R : ℕ → Type 0 = λ k. IsRoomy k g in
    subst R (omega arith) (along IsRoomy line_roomy 0 1 empty g lines (record { parties = tt; arrows = tt; few = omega arith; within = refl }) e)
