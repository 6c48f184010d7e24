-- What a reader of protocols refuses is what is due refuses.
use Rattle.std.proofs.Common.{◌≡◌, ℕ, suc, Bool, true, false, List, ◌∷◌, length, Option, Some, None, refl, sym, subst, ◌∙◌}
use Rattle.std.specs.Prelude.{codes, if◌then◌else◌, ◌||◌, nat_le, nat_lt}
use Rattle.std.specs.Str.{bytes_eq}
use Rattle.sj_lang.specs.declared.proto.Way.{Way}
use Rattle.sj_lang.specs.declared.proto.Way.TheVariants.{Out, Into}
use Rattle.sj_grammar.specs.declared.tokens.Rule.{Rule}
use Rattle.sj_grammar.specs.declared.tokens.Rule.TheVariants.{P1, P3, P4}
use Rattle.sj_lang.specs.Limits.{limits}
use Rattle.sj_grammar.specs.Names.{is_name}
use Rattle.sj_grammar.specs.Literals.{is_largest}
use Rattle.sj_grammar.specs.Protocols.{open_piece, way_piece}
use Rattle.sj_grammar.specs.Layers.{goes, stops, rule_of, step}
use Rattle.sj_grammar.specs.ProtocolDues.{seq, maybe, kind, behind, label, arms, more, fixed, body}
use Rattle.sj_grammar.specs.FileDues.{Due, proto, file_layer, file_follow, file_may_be_none}
use Rattle.sj_grammar.specs.Asked.{but, but_name}
use Rattle.sj_proto.specs.Choices.{but_way, but_open}
use Rattle.sj_proto.proofs.NameLemmas.{test_is, name_not_largest}

pub over_rule : (b : Bool) (n : ℕ) (es : List Due) (r : Rule) → (if b then Some P4 else None) ≡ Some r → rule_of (if b then stops P4 else goes n es) ≡ Some r
over_rule true n es r e = e
over_rule false n es r e = e

-- a token breaks the rule that p says, and 2^63 its own
abbrev pub Refusing : (List ℕ → Option Rule) → ℕ → List Due → Type 0
Refusing p n ds = (s : List ℕ) (r : Rule) → (if is_largest s then Some P3 else p s) ≡ Some r → rule_of (step file_layer limits n ds s) ≡ Some r

by_largest : (p : List ℕ → Option Rule) (n : ℕ) (ds : List Due) → rule_of (step file_layer limits n ds (codes "9223372036854775808")) ≡ Some P3
    → ((s : List ℕ) (r : Rule) → is_largest s ≡ false → p s ≡ Some r → rule_of (step file_layer limits n ds s) ≡ Some r) → Refusing p n ds
by_largest p n ds big other s r e = by_test (is_largest s) refl e
  where
    by_test : (b : Bool) → is_largest s ≡ b → (if b then Some P3 else p s) ≡ Some r → rule_of (step file_layer limits n ds s) ≡ Some r
    by_test true eb e = subst (λ (t : List ℕ). rule_of (step file_layer limits n ds t) ≡ Some r) (sym (test_is s (codes "9223372036854775808") eb)) (big ∙ e)
    by_test false eb e = other s r eb e

pub way_rule : (o n : ℕ) (ds : List Due) → Refusing (but_way (nat_le 1024 n)) n (proto (seq o) ∷ ds)
way_rule o n ds = by_largest (but_way (nat_le 1024 n)) n (proto (seq o) ∷ ds) refl (λ s r small e. by_tests s r small (bytes_eq s (codes "!")) (bytes_eq s (codes "?")) refl refl e)
  where
    at_way : (w : Way) (r : Rule) → but_way (nat_le 1024 n) (way_piece w) ≡ Some r → rule_of (step file_layer limits n (proto (seq o) ∷ ds) (way_piece w)) ≡ Some r
    at_way Out r e = over_rule (nat_le 1024 n) (suc n) (proto (behind o Out) ∷ proto (more o) ∷ ds) r e
    at_way Into r e = over_rule (nat_le 1024 n) (suc n) (proto (behind o Into) ∷ proto (more o) ∷ ds) r e

    by_tests : (s : List ℕ) (r : Rule) → is_largest s ≡ false → (x y : Bool) → bytes_eq s (codes "!") ≡ x → bytes_eq s (codes "?") ≡ y → but_way (nat_le 1024 n) s ≡ Some r
        → rule_of (step file_layer limits n (proto (seq o) ∷ ds) s) ≡ Some r
    by_tests s r small true y ex ey e =
        subst (λ (t : List ℕ). but_way (nat_le 1024 n) t ≡ Some r → rule_of (step file_layer limits n (proto (seq o) ∷ ds) t) ≡ Some r) (sym (test_is s (codes "!") ex)) (at_way Out r) e
    by_tests s r small false true ex ey e =
        subst (λ (t : List ℕ). but_way (nat_le 1024 n) t ≡ Some r → rule_of (step file_layer limits n (proto (seq o) ∷ ds) t) ≡ Some r) (sym (test_is s (codes "?") ey)) (at_way Into r) e
    by_tests s r small false false ex ey e = rw (ex, ey, small) (rw (ex, ey) at e)

abbrev OpenHere : Way → ℕ → ℕ → List Due → Rule → List ℕ → Type 0
OpenHere w o n ds r t = but_open w (nat_le 32 o) t ≡ Some r → rule_of (step file_layer limits n (proto (behind o w) ∷ ds) t) ≡ Some r

pub open_rule : (w : Way) (o n : ℕ) (ds : List Due) → Refusing (but_open w (nat_le 32 o)) n (proto (behind o w) ∷ ds)
open_rule w o n ds = by_largest (but_open w (nat_le 32 o)) n (proto (behind o w) ∷ ds) (big w)
    (λ s r small e. by_tests s r small (bytes_eq s (open_piece w)) (bytes_eq s (codes "{")) (bytes_eq s (codes "[")) refl refl refl e)
  where
    big : (w : Way) → rule_of (step file_layer limits n (proto (behind o w) ∷ ds) (codes "9223372036854775808")) ≡ Some P3
    big Out = refl
    big Into = refl

    at_kind : (w : Way) (r : Rule) → but_open w (nat_le 32 o) (open_piece w) ≡ Some r → rule_of (step file_layer limits n (proto (behind o w) ∷ ds) (open_piece w)) ≡ Some r
    at_kind Out r e = over_rule (nat_le 32 o) n (proto (kind (suc o)) ∷ proto (fixed (codes ">")) ∷ ds) r e
    at_kind Into r e = over_rule (nat_le 32 o) n (proto (kind (suc o)) ∷ proto (fixed (codes ")")) ∷ ds) r e

    at_arms : (w : Way) (r : Rule) → but_open w (nat_le 32 o) (codes "{") ≡ Some r → rule_of (step file_layer limits n (proto (behind o w) ∷ ds) (codes "{")) ≡ Some r
    at_arms Out r e = over_rule (nat_le 32 o) n (proto (label 0) ∷ proto (fixed (codes ":")) ∷ proto (maybe (suc o)) ∷ proto (arms (suc o) 1) ∷ proto (fixed (codes "}")) ∷ ds) r e
    at_arms Into r e = over_rule (nat_le 32 o) n (proto (label 0) ∷ proto (fixed (codes ":")) ∷ proto (maybe (suc o)) ∷ proto (arms (suc o) 1) ∷ proto (fixed (codes "}")) ∷ ds) r e

    at_turns : (w : Way) (r : Rule) → but_open w (nat_le 32 o) (codes "[") ≡ Some r → rule_of (step file_layer limits n (proto (behind o w) ∷ ds) (codes "[")) ≡ Some r
    at_turns Out r e = over_rule (nat_le 32 o) n (proto (maybe (suc o)) ∷ proto (fixed (codes "]")) ∷ proto (fixed (codes "*")) ∷ ds) r e
    at_turns Into r e = over_rule (nat_le 32 o) n (proto (maybe (suc o)) ∷ proto (fixed (codes "]")) ∷ proto (fixed (codes "*")) ∷ ds) r e

    by_tests : (s : List ℕ) (r : Rule) → is_largest s ≡ false → (x y z : Bool) → bytes_eq s (open_piece w) ≡ x → bytes_eq s (codes "{") ≡ y → bytes_eq s (codes "[") ≡ z → but_open w (nat_le 32 o) s ≡ Some r
        → rule_of (step file_layer limits n (proto (behind o w) ∷ ds) s) ≡ Some r
    by_tests s r small true y z ex ey ez e = subst (OpenHere w o n ds r) (sym (test_is s (open_piece w) ex)) (at_kind w r) e
    by_tests s r small false true z ex ey ez e = subst (OpenHere w o n ds r) (sym (test_is s (codes "{") ey)) (at_arms w r) e
    by_tests s r small false false true ex ey ez e = subst (OpenHere w o n ds r) (sym (test_is s (codes "[") ez)) (at_turns w r) e
    by_tests s r small false false false ex ey ez e = rw (ex, ey, ez, small) (rw (ex, ey, ez) at e)

-- a due that takes that piece alone
pub one_rule : (d : Due) (p : List ℕ) (n : ℕ) (ds : List Due) → is_largest p ≡ false → ((s : List ℕ) → bytes_eq s p ≡ false → file_follow d s ≡ None) → file_may_be_none d ≡ false
    → Refusing (but p) n (d ∷ ds)
one_rule d p n ds small alone some s r e = by_tests (is_largest s) (bytes_eq s p) refl refl e
  where
    by_tests : (x y : Bool) → is_largest s ≡ x → bytes_eq s p ≡ y → (if x then Some P3 else (if y then None else Some P1)) ≡ Some r → rule_of (step file_layer limits n (d ∷ ds) s) ≡ Some r
    by_tests true true ex ey e = let was : is_largest p ≡ true = subst (λ (t : List ℕ). is_largest t ≡ true) (test_is s p ey) ex in let none : ⊥ = cc in absurd none
    by_tests true false ex ey e = rw (alone s ey, some, ex) e
    by_tests false true ex ey e = let none : ⊥ = cc in absurd none
    by_tests false false ex ey e = rw (alone s ey, some, ex) e

pub piece_rule : (p : List ℕ) (n : ℕ) (ds : List Due) → is_largest p ≡ false → Refusing (but p) n (proto (fixed p) ∷ ds)
piece_rule p n ds small = one_rule (proto (fixed p)) p n ds small (λ s e. rw e refl) refl

pub begin_rule : (n : ℕ) (ds : List Due) → Refusing (but (codes "begin")) n (proto body ∷ ds)
begin_rule n ds = one_rule (proto body) (codes "begin") n ds refl (λ s e. rw e refl) refl

pub label_rule : (k n : ℕ) (ds : List Due) → Refusing (but_name (nat_le 16 k)) n (proto (label k) ∷ ds)
label_rule k n ds s r e = by_tests (is_largest s) (is_name s) refl refl e
  where
    by_tests : (x y : Bool) → is_largest s ≡ x → is_name s ≡ y → (if x then Some P3 else (if y then (if nat_le 16 k || nat_lt 64 (length s) then Some P4 else None) else Some P1)) ≡ Some r
        → rule_of (step file_layer limits n (proto (label k) ∷ ds) s) ≡ Some r
    by_tests true true ex ey e = let was : is_largest s ≡ false = name_not_largest s ey in let none : ⊥ = cc in absurd none
    by_tests true false ex ey e = rw (ey, ex) e
    by_tests false true ex ey e = rw ey (over_rule (nat_le 16 k || nat_lt 64 (length s)) n ds r e)
    by_tests false false ex ey e = rw (ey, ex) e
