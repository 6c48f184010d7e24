-- A token at the front takes bytes, and comes after those before it.
use Rattle.std.proofs.Common.{◌≡◌, ℕ, ◌+◌, ◌-◌, ◌^◌, ◌<◌, ◌≤◌, min, Bool, true, false, cond, eqb, ltb, ◌&&◌, List, [], ◌∷◌, ◌++◌, length, take, drop, slice_index, Option, Some, None, refl, sym, ap, subst, ◌∙◌, append_assoc, append-nil, arith}
use Rattle.std.proofs.lemmas.List.{length-drop, map-append}
use Rattle.sj_resp.specs.Command.{AreRead}
use Rattle.sj_resp.specs.Front.{Front, Cut, Refused, Whole, of_number, of_size, bytes_of, is_null, is_kind, token_of, line_end, line_then, front_of}
use Rattle.sj_resp.specs.Limits.{longest_line, most_bytes, most_parts}
use Rattle.sj_resp.specs.Numbers.{int_in, number_in}
use Rattle.sj_resp.specs.Token.{TokenAt, Int, Bulk, Array, token_at}
use Rattle.sj_resp.specs.declared.token.Token.{Token}
use Rattle.sj_streams.specs.Words.{tokens_at}
use Rattle.sj_streams.specs.Gathering.{AreDue, Took, due_after, due_in, parts_of, tokens_in}
use Rattle.sj_streams.specs.declared.reply.Reply.{Reply}

-- what is left after a token is no more than that
Within : Front → ℕ → Type 0
Within Cut n = Unit {0}
Within (Refused e) n = Unit {0}
Within (Whole t rest) n = length rest ≤ n

within_if : (b : Bool) (x y : Front) (n : ℕ) → Within x n → Within y n → Within (cond b x y) n
within_if true x y n h k = h
within_if false x y n h k = k

number_within : {A : Type 0} (token : A → TokenAt) (o : Option A) (rest : List ℕ) → Within (of_number token o rest) (length rest)
unfolding Within
number_within token None rest = tt
number_within token (Some k) rest = omega arith

bytes_within : (size : ℕ) (bytes : List ℕ) → Within (bytes_of size bytes) (length bytes)
unfolding Within bytes_of
bytes_within size bytes =
    let l = length-drop (size + 2) bytes in
    let last : Within (Whole (Bulk (take size bytes)) (drop (size + 2) bytes)) (length bytes) = omega (arith, l) in
    within_if (ltb (length bytes) (size + 2)) _ _ (length bytes) tt (within_if (eqb (slice_index bytes size) 13 && eqb (slice_index bytes (size + 1)) 10) _ _ (length bytes) last tt)

size_within : (o : Option ℕ) (bytes : List ℕ) → Within (of_size o bytes) (length bytes)
unfolding Within
size_within None bytes = tt
size_within (Some size) bytes = bytes_within size bytes

token_within : (kind : ℕ) (line rest : List ℕ) → Within (token_of kind line rest) (length rest)
unfolding token_of Within
token_within kind line rest =
    let n = length rest in
    let same : length rest ≤ length rest = omega arith in
    within_if (eqb kind 43) _ _ n same
    (within_if (eqb kind 45) _ _ n same
    (within_if (eqb kind 58) _ _ n (number_within Int (int_in line) rest)
    (within_if (is_null line) _ _ n same
    (within_if (eqb kind 36) _ _ n (size_within (number_in 0 most_bytes line) rest)
    (number_within Array (number_in 0 most_parts line) rest)))))

wider : (f : Front) (n m : ℕ) → n ≤ m → Within f n → Within f m
unfolding Within
wider Cut n m le h = tt
wider (Refused e) n m le h = tt
wider (Whole t rest) n m le h = omega (arith, le, h)

line_within : (kind : ℕ) (bytes : List ℕ) → Within (line_then (token_of kind) bytes) (length bytes)
unfolding line_then Within
line_within kind bytes =
    let e = line_end bytes in
    let l = length-drop (e + 2) bytes in
    let inside : Within (token_of kind (take e bytes) (drop (e + 2) bytes)) (length bytes) = wider (token_of kind (take e bytes) (drop (e + 2) bytes)) (length (drop (e + 2) bytes)) (length bytes) (omega (arith, l)) (token_within kind (take e bytes) (drop (e + 2) bytes)) in
    within_if (ltb longest_line e) _ _ (length bytes) tt
    (within_if (ltb (length bytes) (e + 2)) _ _ (length bytes) tt
    (within_if (eqb (slice_index bytes (e + 1)) 10) _ _ (length bytes) inside tt))

front_within : (kind : ℕ) (bytes : List ℕ) → Within (front_of (kind ∷ bytes)) (length bytes)
unfolding front_of Within
front_within kind bytes = within_if (is_kind kind) _ _ (length bytes) (line_within kind bytes) tt

within_whole : (f : Front) (t : TokenAt) (rest : List ℕ) (n : ℕ) → f ≡ Whole t rest → Within f n → length rest ≤ n
unfolding Within
within_whole Cut t rest n is h = absurd cc
within_whole (Refused e) t rest n is h = absurd cc
within_whole (Whole u r) t rest n is h = let same : r ≡ rest = cc in omega (arith, h, ap (λ (l : List ℕ). length l) same)

-- a token takes bytes
pub front_shrinks : (bytes : List ℕ) (t : TokenAt) (rest : List ℕ) → front_of bytes ≡ Whole t rest → length rest < length bytes
unfolding front_of
front_shrinks [] t rest is = absurd cc
front_shrinks (kind ∷ bytes) t rest is = let w = within_whole (front_of (kind ∷ bytes)) t rest (length bytes) is (front_within kind bytes) in omega (arith, w)

-- one more token is read
pub read_more : (ts : List TokenAt) (bytes mid rest : List ℕ) (t : TokenAt) → AreRead ts bytes mid → front_of mid ≡ Whole t rest → AreRead (ts ++ t ∷ []) bytes rest
read_more [] bytes mid rest t same is = (rest, ap front_of same ∙ is, refl)
read_more (u ∷ ts) bytes mid rest t read is = (read.0, read.1, read_more ts read.0 mid rest t read.2 is)

pub due_more : (n : ℕ) (ts : List TokenAt) (t : TokenAt) → due_after n (ts ++ t ∷ []) ≡ min (due_after n ts - 1 + parts_of t) (2 ^ 64 - 1)
unfolding due_after
due_more n [] t = refl
due_more n (u ∷ ts) t = due_more (min (n - 1 + parts_of u) (2 ^ 64 - 1)) ts t

-- it was still to come, as those before it were
more_due : (n : ℕ) (ts : List TokenAt) (t : TokenAt) → AreDue n ts → 0 < due_after n ts → AreDue n (ts ++ t ∷ [])
unfolding due_after AreDue
more_due n [] t all due = (due, tt)
more_due n (u ∷ ts) t all due = (all.0, more_due (min (n - 1 + parts_of u) (2 ^ 64 - 1)) ts t all.1 due)

-- nothing is taken
pub took_none : (r : Reply) (bytes : List ℕ) → Took r r bytes bytes
unfolding due_after AreDue
took_none r bytes = record { tokens = []; read = refl; after = sym (append-nil (tokens_in r)); due = refl; needed = tt }

-- one more token is taken
pub took_more : (old mid new : Reply) (bytes left rest : List ℕ) (t : TokenAt) → Took old mid bytes left → 0 < due_in mid → front_of left ≡ Whole t rest → tokens_in new ≡ tokens_in mid ++ t ∷ []
    → due_in new ≡ min (due_in mid - 1 + parts_of t) (2 ^ 64 - 1) → Took old new bytes rest
took_more old mid new bytes left rest t took some is after due = record {
  tokens = took.tokens ++ t ∷ [];
  read = read_more took.tokens bytes left rest t took.read is;
  after = after ∙ ap (λ (l : List TokenAt). l ++ t ∷ []) took.after ∙ append_assoc (tokens_in old) took.tokens (t ∷ []);
  due = due ∙ ap (λ n. min (n - 1 + parts_of t) (2 ^ 64 - 1)) took.due ∙ sym (due_more (due_in old) took.tokens t);
  needed = more_due (due_in old) took.tokens t took.needed (subst (λ (n : ℕ). 0 < n) took.due some);
}

-- a token that is put after the others
pub put_after : (old mid new : List Token) (t : Token) → mid ≡ old → new ≡ mid ++ t ∷ [] → tokens_at new ≡ tokens_at old ++ token_at t ∷ []
put_after old mid new t same put = ap tokens_at put ∙ map-append token_at mid (t ∷ []) ∙ ap (λ (l : List Token). tokens_at l ++ token_at t ∷ []) same
