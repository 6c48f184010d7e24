-- A due that takes a piece: what is due after it has the depth and numbers that the piece leaves.
use Rattle.std.proofs.Common.{◌≡◌, ℕ, suc, ◌<◌, Bool, true, false, IsTrue, List, [], ◌∷◌, ◌++◌, drop, length, Some, None, refl, ap, sym, subst, arith}
use Rattle.std.specs.Prelude.{codes, if◌then◌else◌, ◌||◌, nat_le, nat_lt}
use Rattle.std.specs.Str.{bytes_eq}
use Rattle.sj_lang.specs.declared.proto.Way.{Way}
use Rattle.sj_lang.specs.declared.proto.Way.TheVariants.{Out, Into}
use Rattle.sj_lang.specs.Limits.{Limits}
use Rattle.sj_grammar.specs.Names.{is_name}
use Rattle.sj_grammar.specs.Protocols.{open_piece, close_piece}
use Rattle.sj_grammar.specs.ProtocolDues.{ProtocolDue, body, more, seq, maybe, behind, kind, label, arms, fixed, is_way, protocol_follow, protocol_counted, protocol_passes, item_follow}
use Rattle.sj_proto.specs.Wrong.{is_open, is_close, brackets_behind, items_behind, arms_in, is_over}
use Rattle.sj_proto.proofs.NameLemmas.{test_is, letter_other, first_letter, name_no_way}
use Rattle.sj_proto.proofs.ExitLemmas.{no_name_int, no_name_boolean, no_name_String}

-- a piece that begins no item, no bracket and no arm, and names nothing
pub record IsPlain (p : List ℕ) : Type 0 where
  pub way : is_way p ≡ false
  pub bracket : is_open p ≡ false
  pub name : is_name p ≡ false
  pub comma : bytes_eq p (codes ",") ≡ false

-- the dues fit the open brackets, each with its commas; after arms any number of commas may stand
abbrev pub Fits : List ℕ → List ProtocolDue → Type 0
Fits bs [] = Unit {0}
Fits bs (body ∷ ds) = ⊥
Fits bs (more o ∷ ds) = (o ≡ length bs) × Fits bs ds
Fits bs (seq o ∷ ds) = (o ≡ length bs) × Fits bs ds
Fits bs (maybe o ∷ ds) = (o ≡ length bs) × Fits bs ds
Fits bs (behind o w ∷ ds) = (o ≡ length bs) × Fits bs ds
Fits bs (kind o ∷ ds) = (o ≡ length bs) × Fits bs ds
Fits bs (label k ∷ ds) = (arms_in bs ≡ k) × Fits bs ds
Fits bs (arms o k ∷ ds) = (o ≡ length bs) × (0 < length bs) × (suc (arms_in bs) ≡ k) × ((h : ℕ) → Fits (h ∷ drop 1 bs) ds)
Fits bs (fixed p ∷ ds) = IsPlain p × Fits (if is_close p then drop 1 bs else bs) ds

-- a due that takes the piece: what is due after it, what it counts and where it passes a limit
abbrev pub Took : Limits → ℕ → List ℕ → ProtocolDue → List ProtocolDue → List ProtocolDue → List ℕ → Type 0
Took L n bs d es ds s = Fits (brackets_behind bs s) (es ++ ds) × (protocol_counted n d s ≡ items_behind n s) × (protocol_passes L n d s ≡ is_over L n bs s)

name_no_open : (s : List ℕ) → IsTrue (is_name s) → (is_open s ≡ false) × (is_close s ≡ false) × (bytes_eq s (codes ",") ≡ false)
name_no_open [] t = let no : ⊥ = cc in absurd no
name_no_open (b ∷ bs) t =
    let l = first_letter b bs t in (
      rw (letter_other b 60 l refl, letter_other b 40 l refl, letter_other b 123 l refl, letter_other b 91 l refl) refl,
      rw (letter_other b 62 l refl, letter_other b 41 l refl, letter_other b 125 l refl, letter_other b 93 l refl) refl,
      rw (letter_other b 44 l refl) refl,
    )

pub plain_piece : (p : List ℕ) → is_way p ≡ false → is_open p ≡ false → is_name p ≡ false → bytes_eq p (codes ",") ≡ false → IsPlain p
plain_piece p a b c d = record { way = a; bracket = b; name = c; comma = d }

module _ (L : Limits) (n : ℕ) (bs : List ℕ) (ds : List ProtocolDue) where
  -- a due that takes items as `seq` does
  pub took_item : (o : ℕ) (d : ProtocolDue) (es : List ProtocolDue) (s : List ℕ) → ((w : List ℕ) → IsTrue (is_way w) → (protocol_counted n d w ≡ suc n) × (protocol_passes L n d w ≡ nat_le L.items n)) → o ≡ length bs → Fits bs ds
      → item_follow o s ≡ Some es → Took L n bs d es ds s
  took_item o d es s like deep fits e = by_tests (bytes_eq s (codes "!")) (bytes_eq s (codes "?")) refl refl e
    where
      at_out : (gs : List ProtocolDue) → behind o Out ∷ more o ∷ [] ≡ gs → Took L n bs d gs ds (codes "!")
      at_out gs due = subst (λ (xs : List ProtocolDue). Took L n bs d xs ds (codes "!")) due ((deep, (deep, fits)), (like (codes "!") refl).0, (like (codes "!") refl).1)

      at_into : (gs : List ProtocolDue) → behind o Into ∷ more o ∷ [] ≡ gs → Took L n bs d gs ds (codes "?")
      at_into gs due = subst (λ (xs : List ProtocolDue). Took L n bs d xs ds (codes "?")) due ((deep, (deep, fits)), (like (codes "?") refl).0, (like (codes "?") refl).1)

      by_tests : (x y : Bool) → bytes_eq s (codes "!") ≡ x → bytes_eq s (codes "?") ≡ y → (if x then Some (behind o Out ∷ more o ∷ []) else (if y then Some (behind o Into ∷ more o ∷ []) else None)) ≡ Some es → Took L n bs d es ds s
      by_tests true y ex ey f = subst (Took L n bs d es ds) (sym (test_is s (codes "!") ex)) (at_out es cc)
      by_tests false true ex ey f = subst (Took L n bs d es ds) (sym (test_is s (codes "?") ey)) (at_into es cc)
      by_tests false false ex ey f = let none : ⊥ = cc in absurd none

  -- a due that takes that piece alone
  pub took_one : (d : ProtocolDue) (gs es : List ProtocolDue) (s p : List ℕ) → Took L n bs d gs ds p → (if bytes_eq s p then Some gs else None) ≡ Some es → Took L n bs d es ds s
  took_one d gs es s p took e = by_test (bytes_eq s p) refl e
    where
      by_test : (b : Bool) → bytes_eq s p ≡ b → (if b then Some gs else None) ≡ Some es → Took L n bs d es ds s
      by_test true eb f = let due : gs ≡ es = cc in subst (Took L n bs d es ds) (sym (test_is s p eb)) (subst (λ (xs : List ProtocolDue). Took L n bs d xs ds p) due took)
      by_test false eb f = let none : ⊥ = cc in absurd none

  pub took_open : (o : ℕ) (w : Way) (es : List ProtocolDue) (s : List ℕ) → o ≡ length bs → Fits bs ds → protocol_follow (behind o w) s ≡ Some es → Took L n bs (behind o w) es ds s
  took_open o w es s deep fits e = by_tests (bytes_eq s (open_piece w)) (bytes_eq s (codes "{")) (bytes_eq s (codes "[")) refl refl refl e
    where
      deeper : nat_le L.nesting o ≡ nat_le L.nesting (length bs)
      deeper = ap (nat_le L.nesting) deep

      at_kind : (w : Way) → Took L n bs (behind o w) (kind (suc o) ∷ fixed (close_piece w) ∷ []) ds (open_piece w)
      at_kind Out = ((ap suc deep, (plain_piece (codes ">") refl refl refl refl, fits)), refl, deeper)
      at_kind Into = ((ap suc deep, (plain_piece (codes ")") refl refl refl refl, fits)), refl, deeper)

      at_arms : Took L n bs (behind o w) (label 0 ∷ fixed (codes ":") ∷ maybe (suc o) ∷ arms (suc o) 1 ∷ fixed (codes "}") ∷ []) ds (codes "{")
      at_arms = (
        (refl, (plain_piece (codes ":") refl refl refl refl, (ap suc deep, (ap suc deep, omega arith, refl, λ h. (plain_piece (codes "}") refl refl refl refl, fits))))),
        refl,
        deeper,
      )

      at_turns : Took L n bs (behind o w) (maybe (suc o) ∷ fixed (codes "]") ∷ fixed (codes "*") ∷ []) ds (codes "[")
      at_turns = ((ap suc deep, (plain_piece (codes "]") refl refl refl refl, (plain_piece (codes "*") refl refl refl refl, fits))), refl, deeper)

      by_tests : (x y z : Bool) → bytes_eq s (open_piece w) ≡ x → bytes_eq s (codes "{") ≡ y → bytes_eq s (codes "[") ≡ z
          → (if x then Some (kind (suc o) ∷ fixed (close_piece w) ∷ []) else (if y then Some (label 0 ∷ fixed (codes ":") ∷ maybe (suc o) ∷ arms (suc o) 1 ∷ fixed (codes "}") ∷ [])
          else (if z then Some (maybe (suc o) ∷ fixed (codes "]") ∷ fixed (codes "*") ∷ []) else None))) ≡ Some es
          → Took L n bs (behind o w) es ds s
      by_tests true y z ex ey ez f =
          let due : kind (suc o) ∷ fixed (close_piece w) ∷ [] ≡ es = cc in
          subst (Took L n bs (behind o w) es ds) (sym (test_is s (open_piece w) ex)) (subst (λ (xs : List ProtocolDue). Took L n bs (behind o w) xs ds (open_piece w)) due (at_kind w))
      by_tests false true z ex ey ez f =
          let due : label 0 ∷ fixed (codes ":") ∷ maybe (suc o) ∷ arms (suc o) 1 ∷ fixed (codes "}") ∷ [] ≡ es = cc in
          subst (Took L n bs (behind o w) es ds) (sym (test_is s (codes "{") ey)) (subst (λ (xs : List ProtocolDue). Took L n bs (behind o w) xs ds (codes "{")) due at_arms)
      by_tests false false true ex ey ez f =
          let due : maybe (suc o) ∷ fixed (codes "]") ∷ fixed (codes "*") ∷ [] ≡ es = cc in
          subst (Took L n bs (behind o w) es ds) (sym (test_is s (codes "[") ez)) (subst (λ (xs : List ProtocolDue). Took L n bs (behind o w) xs ds (codes "[")) due at_turns)
      by_tests false false false ex ey ez f = let none : ⊥ = cc in absurd none

  pub took_kind : (o : ℕ) (es : List ProtocolDue) (s : List ℕ) → o ≡ length bs → Fits bs ds → protocol_follow (kind o) s ≡ Some es → Took L n bs (kind o) es ds s
  took_kind o es s deep fits e = by_tests (bytes_eq s (codes "int")) (bytes_eq s (codes "boolean")) (bytes_eq s (codes "String")) refl refl refl e
    where
      alone : (p : List ℕ) → s ≡ p → Took L n bs (kind o) [] ds p → Some [] ≡ Some es → Took L n bs (kind o) es ds s
      alone p same took f = let due : [] ≡ es = cc in subst (Took L n bs (kind o) es ds) (sym same) (subst (λ (xs : List ProtocolDue). Took L n bs (kind o) xs ds p) due took)

      way_kind : (w : List ℕ) → IsTrue (is_way w) → (protocol_counted n (kind o) w ≡ suc n) × (protocol_passes L n (kind o) w ≡ nat_le L.items n)
      way_kind w t = (rw t refl, rw t refl)

      by_tests : (x y z : Bool) → bytes_eq s (codes "int") ≡ x → bytes_eq s (codes "boolean") ≡ y → bytes_eq s (codes "String") ≡ z
          → (if x then Some [] else (if y then Some [] else (if z then Some [] else item_follow o s))) ≡ Some es → Took L n bs (kind o) es ds s
      by_tests true y z ex ey ez f = alone (codes "int") (test_is s (codes "int") ex) (fits, refl, rw no_name_int refl) f
      by_tests false true z ex ey ez f = alone (codes "boolean") (test_is s (codes "boolean") ey) (fits, refl, rw no_name_boolean refl) f
      by_tests false false true ex ey ez f = alone (codes "String") (test_is s (codes "String") ez) (fits, refl, rw no_name_String refl) f
      by_tests false false false ex ey ez f = took_item o (kind o) es s way_kind deep fits f

  pub took_label : (k : ℕ) (es : List ProtocolDue) (s : List ℕ) → arms_in bs ≡ k → Fits bs ds → protocol_follow (label k) s ≡ Some es → Took L n bs (label k) es ds s
  took_label k es s count fits e = by_test (is_name s) refl e
    where
      by_test : (b : Bool) → is_name s ≡ b → (if b then Some [] else None) ≡ Some es → Took L n bs (label k) es ds s
      by_test true eb f =
          let due : [] ≡ es = cc in
          let other = name_no_open s eb in
          subst (λ (xs : List ProtocolDue). Took L n bs (label k) xs ds s) due
          (rw (other.0, other.1, other.2) fits, rw (name_no_way s eb) refl, rw (name_no_way s eb, other.0, eb) (ap (λ j. nat_le L.labels j || nat_lt L.name (length s)) (sym count)))
      by_test false eb f = let none : ⊥ = cc in absurd none

  pub took_fixed : (p : List ℕ) (es : List ProtocolDue) (s : List ℕ) → IsPlain p → Fits (if is_close p then drop 1 bs else bs) ds → protocol_follow (fixed p) s ≡ Some es → Took L n bs (fixed p) es ds s
  took_fixed p es s is fits e = took_one (fixed p) [] es s p (rw (is.bracket, is.comma) fits, rw is.way refl, rw (is.way, is.bracket, is.name) refl) e
