-- What is due has the depth and the numbers that the pieces before it have.
use Rattle.std.proofs.Common.{◌≡◌, ℕ, suc, Bool, true, false, List, [], ◌∷◌, ◌++◌, Option, Some, None, refl, ap, sym, subst, ◌∙◌, arith, ◌⊎◌, inl, inr}
use Rattle.std.specs.Prelude.{codes, if◌then◌else◌}
use Rattle.std.specs.Str.{bytes_eq}
use Rattle.sj_grammar.specs.declared.tokens.Rule.TheVariants.{P4}
use Rattle.sj_lang.specs.Limits.{Limits}
use Rattle.sj_grammar.specs.Layers.{goes, stops, misfit, instead, step}
use Rattle.sj_grammar.specs.ProtocolDues.{ProtocolDue, body, more, seq, maybe, behind, kind, label, arms, fixed, protocol_layer, protocol_follow, protocol_may_be_none, protocol_counted, protocol_passes}
use Rattle.sj_grammar.proofs.StepLemmas.{due_behind, or_else}
use Rattle.sj_proto.specs.Wrong.{brackets_behind, items_behind, is_over}
use Rattle.sj_proto.proofs.NameLemmas.{test_is}
use Rattle.sj_proto.proofs.BodyLemmas.{no_name_begin}
use Rattle.sj_proto.proofs.DueLemmas.{Fits, Took, plain_piece, took_item, took_one, took_open, took_kind, took_label, took_fixed}

took_arms : (L : Limits) (n o k : ℕ) (bs : List ℕ) (ds es : List ProtocolDue) (s : List ℕ) → Fits bs (arms o k ∷ ds) → protocol_follow (arms o k) s ≡ Some es → Took L n bs (arms o k) es ds s
took_arms L n o k [] ds es s h e = absurd (omega (arith, h.1))
took_arms L n o k (b ∷ bs) ds es s h e =
    took_one L n (b ∷ bs) ds (arms o k) (label k ∷ fixed (codes ":") ∷ maybe o ∷ arms o (suc k) ∷ []) es s (codes ",")
    ((h.2, (plain_piece (codes ":") refl refl refl refl, (h.0, (h.0, omega arith, ap suc h.2, h.3)))), refl, refl) e

took : (L : Limits) (n : ℕ) (bs : List ℕ) (d : ProtocolDue) (ds es : List ProtocolDue) (s : List ℕ) → Fits bs (d ∷ ds) → protocol_follow d s ≡ Some es → Took L n bs d es ds s
took L n bs body ds es s h e = absurd h
took L n bs (more o) ds es s h e = took_one L n bs ds (more o) (seq o ∷ []) es s (codes ".") (h, refl, refl) e
took L n bs (seq o) ds es s h e = took_item L n bs ds o (seq o) es s (λ w t. (refl, refl)) h.0 h.1 e
took L n bs (maybe o) ds es s h e = took_item L n bs ds o (maybe o) es s (λ w t. (refl, refl)) h.0 h.1 e
took L n bs (behind o w) ds es s h e = took_open L n bs ds o w es s h.0 h.1 e
took L n bs (kind o) ds es s h e = took_kind L n bs ds o es s h.0 h.1 e
took L n bs (label k) ds es s h e = took_label L n bs ds k es s h.0 h.1 e
took L n bs (arms o k) ds es s h e = took_arms L n o k bs ds es s h e
took L n bs (fixed p) ds es s h e = took_fixed L n bs ds p es s h.0 h.1 e

-- in place of a due nothing may stand
skipped : (bs : List ℕ) (d : ProtocolDue) (ds : List ProtocolDue) → protocol_may_be_none d ≡ true → Fits bs (d ∷ ds) → Fits bs ds
skipped bs body ds e h = absurd h
skipped bs (more o) ds e h = h.1
skipped bs (seq o) ds e h = h.1
skipped bs (maybe o) ds e h = h.1
skipped bs (behind o w) ds e h = h.1
skipped bs (kind o) ds e h = h.1
skipped bs (label k) ds e h = h.1
skipped [] (arms o k) ds e h = absurd (omega (arith, h.1))
skipped (b ∷ bs) (arms o k) ds e h = h.3 b
skipped bs (fixed p) ds e h = let none : ⊥ = cc in absurd none

-- at the beginning, or after it
abbrev pub Begun : ℕ → List ℕ → List ProtocolDue → Type 0
Begun n bs ds = ((ds ≡ body ∷ []) × (n ≡ 0) × (bs ≡ [])) ⊎ Fits bs ds

-- where a piece is due it passes a limit, or it goes on
abbrev pub Goes : Limits → ℕ → List ℕ → List ProtocolDue → List ℕ → List ProtocolDue → Type 0
Goes L n bs ds s es = (step protocol_layer L n ds s ≡ (if is_over L n bs s then stops P4 else goes (items_behind n s) es)) × Fits (brackets_behind bs s) es

fits_step : (L : Limits) (n : ℕ) (bs : List ℕ) (ds es : List ProtocolDue) (s : List ℕ) → Fits bs ds → due_behind protocol_layer ds s ≡ Some es → Goes L n bs ds s es
fits_step L n bs [] es s h e = let none : ⊥ = cc in absurd none
fits_step L n bs (d ∷ ds) es s h e = by_follow (protocol_follow d s) (protocol_may_be_none d) refl refl (λ k f. fits_step L n bs ds es s k f) e
  where
    by_follow : (x : Option (List ProtocolDue)) (b : Bool) → protocol_follow d s ≡ x → protocol_may_be_none d ≡ b → (Fits bs ds → due_behind protocol_layer ds s ≡ Some es → Goes L n bs ds s es)
        → or_else protocol_layer x ds (if b then due_behind protocol_layer ds s else None) ≡ Some es
        → (instead x (protocol_passes L n d s) (protocol_counted n d s) ds (if b then step protocol_layer L n ds s else stops (misfit s)) ≡ (if is_over L n bs s then stops P4 else goes (items_behind n s) es)) × Fits (brackets_behind bs s) es
    by_follow (Some gs) b ef eb later f =
        let due : gs ++ ds ≡ es = cc in
        let t = took L n bs d ds gs s h ef in
        ((λ i. if t.2 i then stops P4 else goes (t.1 i) (due i)), subst (Fits (brackets_behind bs s)) due t.0)
    by_follow None true ef eb later f = later (skipped bs d ds eb h) f
    by_follow None false ef eb later f = let none : ⊥ = cc in absurd none

begin_step : (L : Limits) (es : List ProtocolDue) (s : List ℕ) → due_behind protocol_layer (body ∷ []) s ≡ Some es → Goes L 0 [] (body ∷ []) s es
begin_step L es s e = by_test (bytes_eq s (codes "begin")) refl e
  where
    by_test : (b : Bool) → bytes_eq s (codes "begin") ≡ b → or_else protocol_layer (if b then Some (more 0 ∷ []) else None) [] None ≡ Some es → Goes L 0 [] (body ∷ []) s es
    by_test true eb f =
        let due : more 0 ∷ [] ≡ es = cc in
        subst (λ (t : List ℕ). Goes L 0 [] (body ∷ []) t es) (sym (test_is s (codes "begin") eb)) (subst (λ (xs : List ProtocolDue). Goes L 0 [] (body ∷ []) (codes "begin") xs) due (rw no_name_begin refl, (refl, tt)))
    by_test false eb f = let none : ⊥ = cc in absurd none

pub begun_step : (L : Limits) (n : ℕ) (bs : List ℕ) (ds es : List ProtocolDue) (s : List ℕ) → Begun n bs ds → due_behind protocol_layer ds s ≡ Some es → Goes L n bs ds s es
begun_step L n bs ds es s (inl h) e =
    subst (λ (j : ℕ). Goes L j bs ds s es) (sym h.1) (subst (λ (ns : List ℕ). Goes L 0 ns ds s es) (sym h.2) (subst (λ (xs : List ProtocolDue). Goes L 0 [] xs s es) (sym h.0)
    (begin_step L es s (ap (λ (xs : List ProtocolDue). due_behind protocol_layer xs s) (sym h.0) ∙ e))))
begun_step L n bs ds es s (inr h) e = fits_step L n bs ds es s h e
