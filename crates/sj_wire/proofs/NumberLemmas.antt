-- A number that is read is the number that was spelt, and what was spelt is read again.
use Rattle.std.proofs.Common.{◌≡◌, ℕ, ◌%◌, ◌+◌, ◌^◌, ◌<◌, ◌≤◌, Bool, true, false, cond, ltb, List, [], ◌∷◌, ◌++◌, length, take, drop, Option, Some, None, refl, sym, ap, subst, ◌∙◌, append_assoc, arith, inl, inr}
use Rattle.std.proofs.Math.Nat.{mod-eq_of_lt}
use Rattle.std.proofs.lemmas.Bool.{cases_lt, ltb-false, le-ltb}
use Rattle.std.proofs.lemmas.List.{drop_at, take-append-drop, length-append, length-take, get_or-drop, get_or-take, get_or_past}
use Rattle.std.proofs.lemmas.Nat.{be_bytes_2, be_bytes_4, be_bytes_8}
use Rattle.byteorder.specs.Endian.{big_bytes, big_number}
use Rattle.byteorder.specs.Numbers.{big_from-lt, big_from-take, big_number-reads_back, length-bytes_high_first}
pub use Rattle.sj_wire.specs.Stream.{IsBytes}
use Rattle.sj_wire.specs.Spelling.{number}
use Rattle.sj_wire.specs.Reading.{◌>>=◌, number_at, limited_at}

pub IsBytes-drop : (n : ℕ) (bytes : List ℕ) → IsBytes bytes → IsBytes (drop n bytes)
IsBytes-drop n bytes h i = rw get_or-drop (h (n + i))

pub IsBytes-take : (n : ℕ) (bytes : List ℕ) → IsBytes bytes → IsBytes (take n bytes)
IsBytes-take n bytes h i =
    elim (cases_lt i n) [
      | inl lt ↦ rw (get_or-take n bytes i 0 lt) (h i)
      | inr le ↦ rw (get_or_past (take n bytes) i 0 (omega (arith, length-take n bytes))) (omega arith)
    ]

-- the value of a step that was read
pub bind_some : {A B : Type 0} {r : Option A} {f : A → Option B} {y : B} → (r >>= f) ≡ Some y → (x : A) × (r ≡ Some x) × (f x ≡ Some y)
bind_some {r = Some x} e = (x, refl, e)
bind_some {r = None} e = absurd cc

-- a test that was passed
pub guard_some : {A : Type 0} {b : Bool} {x y : A} → cond b None (Some x) ≡ Some y → (b ≡ false) × (x ≡ y)
guard_some {b = true} e = absurd cc
guard_some {b = false} e = (refl, cc)

pub some_is : {A : Type 0} {x y : A} → Some x ≡ Some y → x ≡ y
some_is e = cc

-- what a reader took from the front
pub record Takes (bytes text rest : List ℕ) : Type 0 where
  pub parts : bytes ≡ text ++ rest
  pub fits : IsBytes rest

pub then_takes : {a x b y c : List ℕ} → Takes a x b → Takes b y c → Takes a (x ++ y) c
then_takes {x = x} {y = y} {c = c} p q = record { parts = p.parts ∙ ap (λ (t : List ℕ). x ++ t) q.parts ∙ sym (append_assoc x y c); fits = q.fits }

-- the widths of numbers in frames
pub record IsWide (n : ℕ) : Type 0 where
  pub back : (bytes : List ℕ) → length bytes ≡ n → IsBytes bytes → big_bytes n (big_number n bytes) ≡ bytes

pub wide1 : IsWide 1
wide1 = record { back = one }
  where
    one : (bytes : List ℕ) → length bytes ≡ 1 → IsBytes bytes → big_bytes 1 (big_number 1 bytes) ≡ bytes
    one [] len fits = absurd cc
    one (b ∷ []) len fits = ap (λ (c : ℕ). c ∷ []) (let h = fits 0 in ap (λ (c : ℕ). c % 256) (omega arith) ∙ mod-eq_of_lt h)
    one (b ∷ c ∷ bs) len fits = absurd (omega (arith, len))

pub wide2 : IsWide 2
wide2 = record { back = λ bytes len fits. be_bytes_2 bytes _ len fits (omega arith) }

pub wide4 : IsWide 4
wide4 = record { back = λ bytes len fits. be_bytes_4 bytes _ len fits (omega arith) }

pub wide8 : IsWide 8
wide8 = record { back = λ bytes len fits. be_bytes_8 bytes _ len fits (omega arith) }

pub number_takes : {n : ℕ} (wide : IsWide n) {bytes : List ℕ} {x : ℕ × List ℕ} → IsBytes bytes → number_at n bytes ≡ Some x → Takes bytes (number n x.0) x.1 × (x.0 < 256 ^ n)
unfolding number_at number
number_takes {n} wide {bytes} {x} fits e =
    let g = guard_some e in
    let long : n ≤ length bytes = ltb-false _ _ g.0 in
    let len : length (take n bytes) ≡ n = omega (arith, length-take n bytes) in
    let same : big_number n (take n bytes) ≡ big_number n bytes = big_from-take 0 n n bytes (omega arith) in
    let front : big_bytes n (big_number n bytes) ≡ take n bytes = ap (big_bytes n) (sym same) ∙ wide.back (take n bytes) len (IsBytes-take n bytes fits) in
    let parts : bytes ≡ big_bytes n (big_number n bytes) ++ drop n bytes = sym (take-append-drop n bytes) ∙ ap (λ (t : List ℕ). t ++ drop n bytes) (sym front) in
    subst (λ (y : ℕ × List ℕ). Takes bytes (big_bytes n y.0) y.1 × (y.0 < 256 ^ n)) g.1 (record { parts = parts; fits = IsBytes-drop n bytes fits }, big_from-lt 0 n bytes fits)

pub number_again : (n x : ℕ) (rest : List ℕ) → x < 256 ^ n → number_at n (number n x ++ rest) ≡ Some (x, rest)
unfolding number_at number
number_again n x rest lt =
    let len : length (big_bytes n x) ≡ n = length-bytes_high_first n x in
    let long : ltb (length (big_bytes n x ++ rest)) n ≡ false = le-ltb _ _ (omega (arith, length-append (big_bytes n x) rest)) in
    rw (long, big_number-reads_back n x rest lt, drop_at (big_bytes n x) rest n len) refl

pub length-number : (n x : ℕ) → length (number n x) ≡ n
unfolding number
length-number n x = length-bytes_high_first n x

pub limited_takes : {n limit : ℕ} (wide : IsWide n) {bytes : List ℕ} {x : ℕ × List ℕ} → IsBytes bytes → limited_at n limit bytes ≡ Some x → Takes bytes (number n x.0) x.1 × (x.0 ≤ limit)
unfolding limited_at
limited_takes {n} {limit} wide {bytes} {x} fits e =
    let b = bind_some e in
    let t = number_takes wide fits b.1 in
    let g = guard_some b.2 in
    subst (λ (y : ℕ × List ℕ). Takes bytes (number n y.0) y.1 × (y.0 ≤ limit)) g.1 (t.0, ltb-false _ _ g.0)

pub limited_again : (n limit x : ℕ) (rest : List ℕ) → x ≤ limit → limit < 256 ^ n → limited_at n limit (number n x ++ rest) ≡ Some (x, rest)
unfolding limited_at
limited_again n limit x rest le small = rw (number_again n x rest (omega arith), le-ltb limit x le) refl
