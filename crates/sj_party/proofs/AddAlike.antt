-- Pieces that add the same names and the same texts.
use Rattle.std.proofs.Common.{◌≡◌, ℕ, false, List, [], ◌∷◌, ◌++◌, refl, ap, sym, ◌∙◌}
use Rattle.std.specs.Prelude.{codes, if◌then◌else◌}
use Rattle.sj_grammar.specs.Names.{is_name}
use Rattle.sj_grammar.specs.Literals.{is_text, inner}
use Rattle.sj_grammar.specs.Tables.{with_entry}
use Rattle.sj_grammar.specs.Positions.{Pieces}
use Rattle.sj_grammar.proofs.LexedTableLemmas.{words_behind, texts_behind}

pub record AddAlike (a b : Pieces) : Type 0 where
  pub words : (ws : List (List ℕ)) → words_behind ws a ≡ words_behind ws b
  pub texts : (ts : List (List ℕ)) → texts_behind ts a ≡ texts_behind ts b

pub words_append : (a b : Pieces) (ws : List (List ℕ)) → words_behind ws (a ++ b) ≡ words_behind (words_behind ws a) b
words_append [] b ws = refl
words_append (s ∷ a) b ws = words_append a b (if is_name s then with_entry ws s else ws)

pub texts_append : (a b : Pieces) (ts : List (List ℕ)) → texts_behind ts (a ++ b) ≡ texts_behind (texts_behind ts a) b
texts_append [] b ts = refl
texts_append (s ∷ a) b ts = texts_append a b (if is_text s then with_entry ts (inner s) else ts)

pub alike_same : (a : Pieces) → AddAlike a a
alike_same a = record { words = λ ws. refl; texts = λ ts. refl }

pub alike_back : (a b : Pieces) → AddAlike a b → AddAlike b a
alike_back a b h = record { words = λ ws. sym (h.words ws); texts = λ ts. sym (h.texts ts) }

pub alike_then : (a b c : Pieces) → AddAlike a b → AddAlike b c → AddAlike a c
alike_then a b c h k = record { words = λ ws. h.words ws ∙ k.words ws; texts = λ ts. h.texts ts ∙ k.texts ts }

pub alike_append : (a b c d : Pieces) → AddAlike a b → AddAlike c d → AddAlike (a ++ c) (b ++ d)
alike_append a b c d h k = record {
  words = λ ws. words_append a c ws ∙ ap (λ v. words_behind v c) (h.words ws) ∙ k.words (words_behind ws b) ∙ sym (words_append b d ws);
  texts = λ ts. texts_append a c ts ∙ ap (λ v. texts_behind v c) (h.texts ts) ∙ k.texts (texts_behind ts b) ∙ sym (texts_append b d ts);
}

pub alike_cons : (s : List ℕ) (a b : Pieces) → AddAlike a b → AddAlike (s ∷ a) (s ∷ b)
alike_cons s a b h = record {
  words = λ ws. h.words (if is_name s then with_entry ws s else ws);
  texts = λ ts. h.texts (if is_text s then with_entry ts (inner s) else ts);
}

-- a piece that is no name and no text adds nothing
pub alike_less : (s : List ℕ) (a : Pieces) → is_name s ≡ false → is_text s ≡ false → AddAlike (s ∷ a) a
alike_less s a name plain = record { words = λ ws. rw name refl; texts = λ ts. rw plain refl }

-- nor do parentheses
pub alike_parens : (a b : Pieces) → AddAlike a b → AddAlike (codes "(" ∷ (a ++ codes ")" ∷ [])) b
alike_parens a b h = record {
  words = λ ws. words_append a (codes ")" ∷ []) ws ∙ h.words ws;
  texts = λ ts. texts_append a (codes ")" ∷ []) ts ∙ h.texts ts;
}
