-- What stands at the front stays there, whatever bytes follow.
use Rattle.std.proofs.Common.{◌≡◌, ℕ, ◌+◌, ◌<◌, ◌≤◌, Bool, true, false, ◌&&◌, cond, ltb, eqb, not, List, [], ◌∷◌, ◌++◌, length, take, drop, slice_index, Option, Some, None, refl, ap, subst, ◌∙◌, arith}
use Rattle.std.specs.Prelude.{⊤}
use Rattle.std.proofs.lemmas.Bool.Decides.{nat_tests}
use Rattle.std.proofs.lemmas.Bool.{ltb-false, le-ltb, lt-ltb, ne_eqb}
use Rattle.std.proofs.lemmas.List.{drop-append-le, take-append-le, length-append, get_or_append_left}
use Rattle.std.proofs.lemmas.List.Folds.{prefix_len-append}
use Rattle.std.proofs.lemmas.List.Sums.{prefix_len-le-length}
use Rattle.sj_resp.specs.declared.refusal.RespRefusal.{RespRefusal}
use Rattle.sj_resp.specs.declared.refusal.RespRefusal.TheVariants as refusals
use Rattle.sj_resp.specs.Limits.{longest_line, most_bytes, most_parts}
use Rattle.sj_resp.specs.Numbers.{int_in, number_in}
use Rattle.sj_resp.specs.Token.{TokenAt, Int, Bulk, Array}
use Rattle.sj_resp.specs.Front.{Front, Cut, Refused, Whole, of_number, of_size, bytes_of, is_null, is_kind, token_of, line_end, line_then, front_of}

-- the front stays as it is where more bytes follow
pub Stays : Front → Front → (more : List ℕ) → Type 0
Stays Cut front more = ⊤
Stays (Refused e) front more = front ≡ Refused e
Stays (Whole t rest) front more = front ≡ Whole t (rest ++ more)

stays_if : (b : Bool) (x y x' y' : Front) (more : List ℕ) → Stays x x' more → Stays y y' more → Stays (cond b x y) (cond b x' y') more
stays_if true x y x' y' more h k = h
stays_if false x y x' y' more h k = k

number_stays : {A : Type 0} → (token : A → TokenAt) (o : Option A) (rest more : List ℕ) → Stays (of_number token o rest) (of_number token o (rest ++ more)) more
unfolding Stays
number_stays token None rest more = refl
number_stays token (Some n) rest more = refl

byte_stays : (bytes more : List ℕ) (i : ℕ) → i < length bytes → slice_index (bytes ++ more) i ≡ slice_index bytes i
byte_stays bytes more i h = get_or_append_left bytes more 0 i h

bytes_stay : (size : ℕ) (bytes more : List ℕ) → Stays (bytes_of size bytes) (bytes_of size (bytes ++ more)) more
unfolding bytes_of Stays
bytes_stay size bytes more = by (ltb (length bytes) (size + 2)) refl
  where
    by : (b : Bool) → ltb (length bytes) (size + 2) ≡ b →
        Stays (cond b Cut (cond (eqb (slice_index bytes size) 13 && eqb (slice_index bytes (size + 1)) 10) (Whole (Bulk (take size bytes)) (drop (size + 2) bytes)) (Refused refusals.End)))
        (cond (ltb (length (bytes ++ more)) (size + 2)) Cut (cond (eqb (slice_index (bytes ++ more) size) 13 && eqb (slice_index (bytes ++ more) (size + 1)) 10) (Whole (Bulk (take size (bytes ++ more))) (drop (size + 2) (bytes ++ more))) (Refused refusals.End))) more
    by true e = tt
    by false e =
        let long : size + 2 ≤ length bytes = ltb-false _ _ e in
        let inside : size < length bytes = omega (arith, long) in
        let last : size + 1 < length bytes = omega (arith, long) in
        let front : size ≤ length bytes = omega (arith, long) in
        rw (
          le-ltb (length (bytes ++ more)) (size + 2) (omega (arith, long, length-append bytes more)),
          byte_stays bytes more size inside,
          byte_stays bytes more (size + 1) last,
          take-append-le size bytes more front,
          drop-append-le (size + 2) bytes more long,
        )
        (stays_if (eqb (slice_index bytes size) 13 && eqb (slice_index bytes (size + 1)) 10) _ _ _ _ more refl refl)

size_stays : (o : Option ℕ) (bytes more : List ℕ) → Stays (of_size o bytes) (of_size o (bytes ++ more)) more
unfolding Stays
size_stays None bytes more = refl
size_stays (Some size) bytes more = bytes_stay size bytes more

token_stays : (kind : ℕ) (line rest more : List ℕ) → Stays (token_of kind line rest) (token_of kind line (rest ++ more)) more
unfolding token_of Stays
token_stays kind line rest more =
    stays_if (eqb kind 43) _ _ _ _ more refl
    (stays_if (eqb kind 45) _ _ _ _ more refl
    (stays_if (eqb kind 58) _ _ _ _ more (number_stays Int (int_in line) rest more)
    (stays_if (is_null line) _ _ _ _ more refl
    (stays_if (eqb kind 36) _ _ _ _ more (size_stays (number_in 0 most_bytes line) rest more)
    (number_stays Array (number_in 0 most_parts line) rest more)))))

-- the line ends where it did
end_stays : (bytes more : List ℕ) → line_end bytes < length bytes → line_end (bytes ++ more) ≡ line_end bytes
end_stays bytes more h =
    let e = prefix_len-append (λ b. not (eqb b 13)) bytes more in
    let other : eqb (line_end bytes) (length bytes) ≡ false = ne_eqb (line_end bytes) (length bytes) (λ same. absurd (omega (arith, h, same))) in
    e ∙ ap (λ b. cond b (length bytes + line_end more) (line_end bytes)) other

-- and no sooner
end_is_later : (bytes more : List ℕ) → line_end bytes ≤ line_end (bytes ++ more)
end_is_later bytes more =
    let e = prefix_len-append (λ b. not (eqb b 13)) bytes more in
    rw e (by (eqb (line_end bytes) (length bytes)))
  where
    by : (b : Bool) → line_end bytes ≤ cond b (length bytes + line_end more) (line_end bytes)
    by true = let h = prefix_len-le-length (λ b. not (eqb b 13)) bytes in omega (arith, h)
    by false = omega arith

line_stays : (read : List ℕ → List ℕ → Front) → ((line rest more : List ℕ) → Stays (read line rest) (read line (rest ++ more)) more) →
    (bytes more : List ℕ) → Stays (line_then read bytes) (line_then read (bytes ++ more)) more
unfolding line_then Stays
line_stays read reads bytes more = by (ltb longest_line (line_end bytes)) (ltb (length bytes) (line_end bytes + 2)) refl refl
  where
    by : (b c : Bool) → ltb longest_line (line_end bytes) ≡ b → ltb (length bytes) (line_end bytes + 2) ≡ c →
        Stays (cond b (Refused refusals.Long) (cond c Cut (cond (eqb (slice_index bytes (line_end bytes + 1)) 10) (read (take (line_end bytes) bytes) (drop (line_end bytes + 2) bytes)) (Refused refusals.Line))))
        (cond (ltb longest_line (line_end (bytes ++ more))) (Refused refusals.Long) (cond (ltb (length (bytes ++ more)) (line_end (bytes ++ more) + 2)) Cut
        (cond (eqb (slice_index (bytes ++ more) (line_end (bytes ++ more) + 1)) 10) (read (take (line_end (bytes ++ more)) (bytes ++ more)) (drop (line_end (bytes ++ more) + 2) (bytes ++ more))) (Refused refusals.Line)))) more
    by true c e f =
        let far : longest_line < line_end bytes = grind (arith, e, nat_tests) in
        let later = end_is_later bytes more in
        rw (lt-ltb longest_line (line_end (bytes ++ more)) (omega (arith, far, later))) refl
    by false true e f = tt
    by false false e f =
        let long : line_end bytes + 2 ≤ length bytes = ltb-false _ _ f in
        let inside : line_end bytes < length bytes = omega (arith, long) in
        let second : line_end bytes + 1 < length bytes = omega (arith, long) in
        let front : line_end bytes ≤ length bytes = omega (arith, long) in
        rw (
          end_stays bytes more inside,
          e,
          le-ltb (length (bytes ++ more)) (line_end bytes + 2) (omega (arith, long, length-append bytes more)),
          byte_stays bytes more (line_end bytes + 1) second,
          take-append-le (line_end bytes) bytes more front,
          drop-append-le (line_end bytes + 2) bytes more long,
        )
        (stays_if (eqb (slice_index bytes (line_end bytes + 1)) 10) _ _ _ _ more (reads (take (line_end bytes) bytes) (drop (line_end bytes + 2) bytes) more) refl)

pub front_stays : (bytes more : List ℕ) → Stays (front_of bytes) (front_of (bytes ++ more)) more
unfolding front_of Stays
front_stays [] more = tt
front_stays (kind ∷ bytes) more = stays_if (is_kind kind) _ _ _ _ more (line_stays (token_of kind) (token_stays kind) bytes more) refl

pub whole_stays : (bytes more rest : List ℕ) (t : TokenAt) → front_of bytes ≡ Whole t rest → front_of (bytes ++ more) ≡ Whole t (rest ++ more)
unfolding Stays
whole_stays bytes more rest t is = subst (λ (f : Front). Stays f (front_of (bytes ++ more)) more) is (front_stays bytes more)

pub refusal_stays : (bytes more : List ℕ) (e : RespRefusal) → front_of bytes ≡ Refused e → front_of (bytes ++ more) ≡ Refused e
unfolding Stays
refusal_stays bytes more e is = subst (λ (f : Front). Stays f (front_of (bytes ++ more)) more) is (front_stays bytes more)
