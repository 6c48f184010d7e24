-- A frame that is spelt is read, whatever follows it.
use Rattle.std.proofs.Common.{◌≡◌, ℕ, ◌^◌, ◌<◌, true, false, ◌||◌, cond, ltb, eqb, List, [], ◌∷◌, ◌++◌, length, Some, None, refl, sym, ap, ◌∙◌, append_assoc, arith}
use Rattle.std.proofs.Math.Nat.{mod-eq_of_lt}
use Rattle.std.proofs.lemmas.Bool.{le-ltb}
use Rattle.std.proofs.lemmas.List.{append-nil, take_at, drop_at, length-append}
use Rattle.byteorder.specs.Endian.{big_number}
use Rattle.byteorder.specs.Numbers.{big_number-reads_back}
use Rattle.sj_rules.specs.Frames.{FrameAt}
use Rattle.sj_wire.specs.declared.kind.Kind.{Kind}
use Rattle.sj_wire.specs.declared.kind.Kind.TheVariants as kinds
use Rattle.sj_wire.specs.Front.{Whole, whole_of, sized_of, front_of}
use Rattle.sj_wire.specs.Kinds.{code, end_in, kind_in, kind_of, version_of}
use Rattle.sj_wire.specs.Lawful.{IsSpelt, on_wire}
use Rattle.sj_wire.specs.Limits.{version, open_version, least_length, most_length, last_clock}
use Rattle.sj_wire.specs.Spelling.{number, end_id, body, inside, framed, spelling}
use Rattle.sj_wire.specs.Reading.{◌>>=◌, body_at, frame_at}
use Rattle.sj_wire.proofs.NumberLemmas.{limited_again, length-number}
use Rattle.sj_wire.proofs.FieldLemmas.{end_id_again}
use Rattle.sj_wire.proofs.BodyLemmas.{body_again}
use Rattle.sj_wire.proofs.LengthLemmas.{length-inside}

-- the text of a frame after its kind
abbrev pub fields : {P : Type 0} → FrameAt P → List ℕ
fields f = number 8 f.clock ++ (end_id (end_in f.body) ++ body f.body)

fields_again : {P : Type 0} (f : FrameAt P) → IsSpelt f → frame_at (kind_of f.body) (fields f) ≡ Some (on_wire f)
unfolding frame_at
fields_again f is =
    let whole : body f.body ≡ body f.body ++ [] = sym (append-nil (body f.body)) in
    rw (limited_again 8 last_clock f.clock (end_id (end_in f.body) ++ body f.body) is.lawful.0 (omega arith), end_id_again (end_in f.body) (body f.body) is.session is.lawful.1)
    (ap (λ (t : List ℕ). body_at (kind_of f.body) (end_in f.body) t >>= λ b. cond (eqb (length b.1) 0) (Some (record { clock = f.clock; body = b.0 })) None) whole
    ∙ rw (body_again f.body [] is.lawful.2 is.typed is.short) refl)

code_named : (k : Kind) → kind_in (version_of k) (code k) ≡ Some k
code_named kinds.Carry = refl
code_named kinds.Fin = refl
code_named kinds.Claim = refl
code_named kinds.Signal = refl
code_named kinds.Ack = refl
code_named kinds.Give = refl
code_named kinds.Open = refl

version_known : (k : Kind) → (eqb (version_of k) version || eqb (version_of k) open_version) ≡ true
version_known kinds.Carry = refl
version_known kinds.Fin = refl
version_known kinds.Claim = refl
version_known kinds.Signal = refl
version_known kinds.Ack = refl
version_known kinds.Give = refl
version_known kinds.Open = refl

pub version_small : (k : Kind) → version_of k < 256
version_small kinds.Carry = omega arith
version_small kinds.Fin = omega arith
version_small kinds.Claim = omega arith
version_small kinds.Signal = omega arith
version_small kinds.Ack = omega arith
version_small kinds.Give = omega arith
version_small kinds.Open = omega arith

pub code_small : (k : Kind) → code k < 256
code_small kinds.Carry = omega arith
code_small kinds.Fin = omega arith
code_small kinds.Claim = omega arith
code_small kinds.Signal = omega arith
code_small kinds.Ack = omega arith
code_small kinds.Give = omega arith
code_small kinds.Open = omega arith

-- a byte
pub one_byte : (b : ℕ) → b < 256 → number 1 b ≡ b ∷ []
unfolding number
one_byte b lt = ap (λ (c : ℕ). c ∷ []) (mod-eq_of_lt lt)

whole_again : {P : Type 0} (f : FrameAt P) (behind : List ℕ) → IsSpelt f → whole_of (inside f) behind ≡ Whole (on_wire f) behind
unfolding whole_of inside
whole_again f behind is =
    let v = version_of (kind_of f.body) in
    let k = code (kind_of f.body) in
    let parts : inside f ≡ v ∷ k ∷ fields f = rw (one_byte v (version_small (kind_of f.body)), one_byte k (code_small (kind_of f.body))) refl in
    ap (λ (t : List ℕ). whole_of t behind) parts ∙ rw (version_known (kind_of f.body), code_named (kind_of f.body), fields_again f is) refl

number_read : (n x : ℕ) (rest : List ℕ) → x < 256 ^ n → big_number n (number n x ++ rest) ≡ x
unfolding number
number_read n x rest lt = big_number-reads_back n x rest lt

pub front_again : {P : Type 0} (f : FrameAt P) (behind : List ℕ) → IsSpelt f → front_of (spelling f ++ behind) ≡ Whole (on_wire f) behind
unfolding front_of sized_of spelling framed
front_again f behind is =
    let size = length (inside f) in
    let l = length-inside f is.short in
    let n = length-number 4 size in
    let rest = inside f ++ behind in
    let parts : spelling f ++ behind ≡ number 4 size ++ rest = append_assoc (number 4 size) (inside f) behind in
    let long : ltb (length (number 4 size ++ rest)) 4 ≡ false = le-ltb _ _ (omega (arith, n, length-append (number 4 size) rest)) in
    let read : big_number 4 (number 4 size ++ rest) ≡ size = number_read 4 size rest (omega (arith, l.1)) in
    ap front_of parts
    ∙ rw (
      long,
      read,
      drop_at (number 4 size) rest 4 n,
      le-ltb size least_length l.0,
      le-ltb most_length size l.1,
      le-ltb (length rest) size (omega (arith, length-append (inside f) behind)),
      take_at (inside f) behind size refl,
      drop_at (inside f) behind size refl,
    ) (whole_again f behind is)
