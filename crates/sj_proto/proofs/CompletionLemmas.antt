-- What is due in a protocol can be completed to a protocol.
use Rattle.std.proofs.Common.{◌≡◌, ℕ, suc, Bool, true, false, IsTrue, List, [], ◌∷◌, ◌++◌, Some, None, refl, ap, sym, subst, ◌∙◌, append-nil, inl}
use Rattle.std.specs.Prelude.{codes, if◌then◌else◌}
use Rattle.std.specs.Str.{bytes_eq}
use Rattle.sj_lang.specs.declared.proto.Way.TheVariants.{Out}
use Rattle.sj_lang.specs.Place.{Carried, done, message, int, boolean, text, session, no_choice, arm}
use Rattle.sj_grammar.specs.Names.{is_name}
use Rattle.sj_grammar.specs.Positions.{Pieces}
use Rattle.sj_grammar.specs.Protocols.{open_piece, close_piece, seq_pieces, body_pieces, kind_pieces, listed}
use Rattle.sj_grammar.specs.ProtocolDues.{ProtocolDue, body, more, seq, maybe, behind, kind, label, arms, fixed, protocol_follow, protocol_layer, protocol_may_be_none, item_follow}
use Rattle.sj_grammar.proofs.CompletionLemmas.{lone}
use Rattle.sj_proto.specs.Writable.{CanBeCarried}
use Rattle.sj_proto.proofs.NameLemmas.{test_is}
use Rattle.sj_proto.proofs.DuePieceLemmas.{Spelled, AllSpelled, from_item, arm_from, from_open}
use Rattle.sj_proto.proofs.BodyLemmas.{dotted_some}

module _ (word : ℕ → List ℕ) where
  -- this piece alone
  from_one : (d : ProtocolDue) (es : List ProtocolDue) (s p : List ℕ) (ts : Pieces) → (s ≡ p → Spelled word d (s ∷ [])) → (if bytes_eq s p then Some [] else None) ≡ Some es → AllSpelled word es ts → Spelled word d (s ∷ ts)
  from_one d es s p ts spelled e h = by_test (bytes_eq s p) refl e
    where
      by_test : (b : Bool) → bytes_eq s p ≡ b → (if b then Some [] else None) ≡ Some es → Spelled word d (s ∷ ts)
      by_test true eb f =
          let due : es ≡ [] = cc in
          let none : ts ≡ [] = subst (λ (gs : List ProtocolDue). AllSpelled word gs ts) due h in
          subst (λ (x : Pieces). Spelled word d (s ∷ x)) (sym none) (spelled (test_is s p eb))
      by_test false eb f = let none : ⊥ = cc in absurd none

  from_kind : (o : ℕ) (es : List ProtocolDue) (s : List ℕ) (ts : Pieces) → protocol_follow (kind o) s ≡ Some es → AllSpelled word es ts → Spelled word (kind o) (s ∷ ts)
  from_kind o es s ts e h = by_tests (bytes_eq s (codes "int")) (bytes_eq s (codes "boolean")) (bytes_eq s (codes "String")) refl refl refl e
    where
      alone : (k : Carried) → CanBeCarried word k → kind_pieces word k ≡ s ∷ [] → Some [] ≡ Some es → Spelled word (kind o) (s ∷ ts)
      alone k can same f =
          let due : es ≡ [] = cc in
          let none : ts ≡ [] = subst (λ (gs : List ProtocolDue). AllSpelled word gs ts) due h in
          (k, can, ap (λ x. s ∷ x) none ∙ sym same)

      by_tests : (x y z : Bool) → bytes_eq s (codes "int") ≡ x → bytes_eq s (codes "boolean") ≡ y → bytes_eq s (codes "String") ≡ z
          → (if x then Some [] else (if y then Some [] else (if z then Some [] else item_follow o s))) ≡ Some es → Spelled word (kind o) (s ∷ ts)
      by_tests true y z ex ey ez f = alone int tt (ap (λ t. t ∷ []) (sym (test_is s (codes "int") ex))) f
      by_tests false true z ex ey ez f = alone boolean tt (ap (λ t. t ∷ []) (sym (test_is s (codes "boolean") ey))) f
      by_tests false false true ex ey ez f = alone text tt (ap (λ t. t ∷ []) (sym (test_is s (codes "String") ez))) f
      by_tests false false false ex ey ez f = from_item word o (kind o) es s ts (λ a p w some same. (session p, (some, w), same)) f h

  -- where a test is met, these are the dues after the token
  from_test : (d : ProtocolDue) (es ds : List ProtocolDue) (s : List ℕ) (ts : Pieces) (b : Bool) → (b ≡ true → AllSpelled word ds ts → Spelled word d (s ∷ ts)) → (if b then Some ds else None) ≡ Some es → AllSpelled word es ts → Spelled word d (s ∷ ts)
  from_test d es ds s ts true spelled e h = let due : es ≡ ds = cc in spelled refl (subst (λ (gs : List ProtocolDue). AllSpelled word gs ts) due h)
  from_test d es ds s ts false spelled e h = let none : ⊥ = cc in absurd none

  -- a number is spelled so
  abbrev pub HasNumber : List ℕ → Type 0
  HasNumber s = (n : ℕ) × (word n ≡ s)

  -- from what is due after a piece to what is due before it
  pub spelled_back : (d : ProtocolDue) (s : List ℕ) (es : List ProtocolDue) (ts : Pieces) → HasNumber s → protocol_follow d s ≡ Some es → AllSpelled word es ts → Spelled word d (s ∷ ts)
  spelled_back body s es ts held e h = from_test body es (more 0 ∷ []) s ts (bytes_eq s (codes "begin")) (λ t g.
      let x = lone protocol_layer (Spelled word) (more 0) ts g in (x.0, x.1, λ i. test_is s (codes "begin") t i ∷ x.2 i)) e h
  spelled_back (more o) s es ts held e h = from_test (more o) es (seq o ∷ []) s ts (bytes_eq s (codes ".")) (λ t g.
      let x = lone protocol_layer (Spelled word) (seq o) ts g in (x.0, x.1, (λ i. test_is s (codes ".") t i ∷ x.3 i) ∙ dotted_some word x.0 x.2)) e h
  spelled_back (seq o) s es ts held e h = from_item word o (seq o) es s ts (λ a p w some same. (p, w, some, same)) e h
  spelled_back (maybe o) s es ts held e h = from_item word o (maybe o) es s ts (λ a p w some same. (p, w, same)) e h
  spelled_back (behind o w) s es ts held e h = from_open word o w es s ts e h
  spelled_back (kind o) s es ts held e h = from_kind o es s ts e h
  spelled_back (label k) s es ts held e h = from_test (label k) es [] s ts (is_name s) (λ t g.
      (held.0, subst (λ (x : List ℕ). IsTrue (is_name x)) (sym held.1) t, λ i. sym held.1 i ∷ g i)) e h
  spelled_back (arms o k) s es ts held e h = from_test (arms o k) es (label k ∷ fixed (codes ":") ∷ maybe o ∷ arms o (suc k) ∷ []) s ts (bytes_eq s (codes ",")) (λ t g.
      let x = arm_from word o k [] ts g in
      let one = word x.0 ∷ codes ":" ∷ (seq_pieces word x.1 ++ listed word x.2) in
      let all : ts ≡ one = x.8 ∙ ap (λ y. one ++ y) x.7 ∙ append-nil one in
      (arm x.0 x.1 x.2, (x.4, x.5, x.6), λ i. test_is s (codes ",") t i ∷ all i)) e h
  spelled_back (fixed p) s es ts held e h = from_one (fixed p) es s p ts (λ same. ap (λ x. x ∷ []) same) e h

  pub none_spelled : (d : ProtocolDue) → protocol_may_be_none d ≡ true → Spelled word d []
  none_spelled body e = let none : ⊥ = cc in absurd none
  none_spelled (more o) e = (done, tt, refl)
  none_spelled (seq o) e = let none : ⊥ = cc in absurd none
  none_spelled (maybe o) e = (done, tt, refl)
  none_spelled (behind o w) e = let none : ⊥ = cc in absurd none
  none_spelled (kind o) e = let none : ⊥ = cc in absurd none
  none_spelled (label k) e = let none : ⊥ = cc in absurd none
  none_spelled (arms o k) e = (no_choice, tt, refl)
  none_spelled (fixed p) e = let none : ⊥ = cc in absurd none

  -- something spells each due, once a number is a name's
  module _ (a_name : ℕ) (named : IsTrue (is_name (word a_name))) where
    pub some_spelled : (d : ProtocolDue) → (a : Pieces) × Spelled word d a
    some_spelled body = (body_pieces word done, (done, tt, refl))
    some_spelled (more o) = ([], (done, tt, refl))
    some_spelled (seq o) = (seq_pieces word (message Out int done), (message Out int done, (tt, tt), (λ e. cc), refl))
    some_spelled (maybe o) = ([], (done, tt, refl))
    some_spelled (behind o w) = (open_piece w ∷ (kind_pieces word int ++ close_piece w ∷ []), inl (int, tt, refl))
    some_spelled (kind o) = (kind_pieces word int, (int, tt, refl))
    some_spelled (label k) = (word a_name ∷ [], (a_name, named, refl))
    some_spelled (arms o k) = ([], (no_choice, tt, refl))
    some_spelled (fixed p) = (p ∷ [], refl)
