-- The canonical pieces of an expression spell it, and add what its own pieces add.
use Rattle.std.proofs.Common.{◌≡◌, ℕ, suc, ℤ, ◌<◌, Bool, true, false, List, [], ◌∷◌, ◌++◌, refl, sym, subst}
use Rattle.std.specs.Prelude.{pos, negsuc, neg_ℤ, codes}
use Rattle.std.specs.Fmt.{decimal}
use Rattle.std.specs.Str.Parse.{digits_value}
use Rattle.sj_lang.specs.declared.party.Op.{Op}
use Rattle.sj_lang.specs.declared.party.Op.TheVariants.{Add, Sub, Mul, Less, LessEq, Equal}
use Rattle.sj_lang.specs.Term.{Term, int, boolean, text, var, not, two}
use Rattle.sj_lang.specs.Limits.{Limits}
use Rattle.sj_grammar.specs.Lexis.{most}
use Rattle.sj_grammar.specs.Literals.{is_number}
use Rattle.sj_grammar.specs.Tables.{Spelling}
use Rattle.sj_grammar.specs.Positions.{Pieces}
use Rattle.sj_grammar.specs.Expressions.{Level, whole, sum, term, factor, Spelt}
use Rattle.sj_grammar.specs.Expressions as spelt
use Rattle.sj_expr.specs.Signs.{op_piece}
use Rattle.sj_expr.proofs.TokenLemmas.{number_no_text, number_no_name}
use Rattle.sj_party.specs.CanonicalExpression.{left_of, right_of, needs_parens}
use Rattle.sj_party.proofs.AddAlike.{AddAlike, alike_same, alike_back, alike_then, alike_append, alike_cons, alike_less, alike_parens}
use Rattle.sj_party.proofs.PrintableLemmas.{int_pieces, enclosed_pieces, expression_pieces, IsPrintableInt, IsPrintable, MayNest, inside, printable, int_adds}

-- what two operands of an operator are
abbrev made_by : Op → Level
made_by Add = sum
made_by Sub = sum
made_by Mul = term
made_by Less = whole
made_by LessEq = whole
made_by Equal = whole

module _ (L : Limits) (names : Spelling) where
  as_level : (l : Level) (o : ℕ) (t : Term) (ps : Pieces) → Spelt L names factor o t ps → Spelt L names l o t ps
  as_level factor o t ps h = h
  as_level term o t ps h = spelt.of_factor h
  as_level sum o t ps h = spelt.of_term (spelt.of_factor h)
  as_level whole o t ps h = spelt.of_sum (spelt.of_term (spelt.of_factor h))

  raised : (l : Level) (op : Op) (o : ℕ) (t : Term) (ps : Pieces) → needs_parens l op ≡ false → Spelt L names (made_by op) o t ps → Spelt L names l o t ps
  raised whole Add o t ps e h = spelt.of_sum h
  raised whole Sub o t ps e h = spelt.of_sum h
  raised whole Mul o t ps e h = spelt.of_sum (spelt.of_term h)
  raised whole Less o t ps e h = h
  raised whole LessEq o t ps e h = h
  raised whole Equal o t ps e h = h
  raised sum Add o t ps e h = h
  raised sum Sub o t ps e h = h
  raised sum Mul o t ps e h = spelt.of_term h
  raised sum Less o t ps e h = let no : ⊥ = cc in absurd no
  raised sum LessEq o t ps e h = let no : ⊥ = cc in absurd no
  raised sum Equal o t ps e h = let no : ⊥ = cc in absurd no
  raised term Add o t ps e h = let no : ⊥ = cc in absurd no
  raised term Sub o t ps e h = let no : ⊥ = cc in absurd no
  raised term Mul o t ps e h = h
  raised term Less o t ps e h = let no : ⊥ = cc in absurd no
  raised term LessEq o t ps e h = let no : ⊥ = cc in absurd no
  raised term Equal o t ps e h = let no : ⊥ = cc in absurd no
  raised factor op o t ps e h = let no : ⊥ = cc in absurd no

  -- two operands, in parentheses where they are needed
  bare : (op : Op) (o : ℕ) (t u : Term) (a b : Pieces) → Spelt L names (left_of op) o t a → Spelt L names (right_of op) o u b → Spelt L names (made_by op) o (two op t u) (a ++ op_piece op ∷ b)
  bare Add o t u a b h k = spelt.of_addition h k
  bare Sub o t u a b h k = spelt.of_difference h k
  bare Mul o t u a b h k = spelt.of_product h k
  bare Less o t u a b h k = spelt.of_less h k
  bare LessEq o t u a b h k = spelt.of_less_eq h k
  bare Equal o t u a b h k = spelt.of_equal h k

  enclosed_spelt : (l : Level) (op : Op) (o : ℕ) (t u : Term) (a b : Pieces) (x : Bool) → needs_parens l op ≡ x → MayNest L names x o → Spelt L names (left_of op) (inside x o) t a → Spelt L names (right_of op) (inside x o) u b
      → Spelt L names l o (two op t u) (enclosed_pieces x (a ++ op_piece op ∷ b))
  enclosed_spelt l op o t u a b true e room h k =
      as_level l o (two op t u) (codes "(" ∷ ((a ++ op_piece op ∷ b) ++ codes ")" ∷ [])) (spelt.of_parens room (raised whole op (suc o) (two op t u) (a ++ op_piece op ∷ b) refl (bare op (suc o) t u a b h k)))
  enclosed_spelt l op o t u a b false e room h k = raised l op o (two op t u) (a ++ op_piece op ∷ b) e (bare op o t u a b h k)

  int_spelt : (z : ℤ) (o : ℕ) → IsPrintableInt z → Spelt L names factor o (int z) (int_pieces z)
  int_spelt (pos n) o h =
      subst (λ (v : ℕ). Spelt L names factor o (int (pos v)) (decimal n ∷ [])) h.0.value (spelt.of_number h.0.number (subst (λ (v : ℕ). v < most) (sym h.0.value) h.1))
  int_spelt (negsuc n) o h = subst (λ (v : ℕ). Spelt L names factor o (int (neg_ℤ (pos v))) (codes "-" ∷ decimal (suc n) ∷ [])) h.value (spelt.of_minus h.number)

  boolean_spelt : (b : Bool) (o : ℕ) → Spelt L names factor o (boolean b) (expression_pieces names factor (boolean b))
  boolean_spelt true o = spelt.of_true
  boolean_spelt false o = spelt.of_false

  pub spelt_again : (l : Level) (o : ℕ) (t : Term) → IsPrintable L names l o t → Spelt L names l o t (expression_pieces names l t)
  spelt_again l o (int z) h = as_level l o (int z) (int_pieces z) (int_spelt z o h)
  spelt_again l o (boolean b) h = as_level l o (boolean b) (expression_pieces names factor (boolean b)) (boolean_spelt b o)
  spelt_again l o (text n) h = as_level l o (text n) (expression_pieces names factor (text n)) (spelt.of_text h)
  spelt_again l o (var n) h = as_level l o (var n) (expression_pieces names factor (var n)) (spelt.of_name h)
  spelt_again l o (not t) h = as_level l o (not t) (expression_pieces names factor (not t)) (spelt.of_not h.0 (spelt_again factor (suc o) t h.1))
  spelt_again l o (two op t u) h =
      let x = needs_parens l op in
      enclosed_spelt l op o t u (expression_pieces names (left_of op) t) (expression_pieces names (right_of op) u) x refl h.0 (spelt_again (left_of op) (inside x o) t h.1) (spelt_again (right_of op) (inside x o) u h.2)

  -- what an expression adds doesn't rest on its parentheses
  enclosed_adds : (b : Bool) (ps : Pieces) → AddAlike (enclosed_pieces b ps) ps
  enclosed_adds true ps = alike_parens ps ps (alike_same ps)
  enclosed_adds false ps = alike_same ps

  levels_add : (l m : Level) (t : Term) → AddAlike (expression_pieces names l t) (expression_pieces names m t)
  levels_add l m (int z) = alike_same _
  levels_add l m (boolean b) = alike_same _
  levels_add l m (text n) = alike_same _
  levels_add l m (var n) = alike_same _
  levels_add l m (not t) = alike_same _
  levels_add l m (two op t u) =
      let ps = expression_pieces names (left_of op) t ++ op_piece op ∷ expression_pieces names (right_of op) u in
      alike_then (enclosed_pieces (needs_parens l op) ps) ps (enclosed_pieces (needs_parens m op) ps) (enclosed_adds (needs_parens l op) ps) (alike_back (enclosed_pieces (needs_parens m op) ps) ps (enclosed_adds (needs_parens m op) ps))

  at_level : (l m : Level) (t : Term) (a : Pieces) → AddAlike a (expression_pieces names l t) → AddAlike a (expression_pieces names m t)
  at_level l m t a h = alike_then a (expression_pieces names l t) (expression_pieces names m t) h (levels_add l m t)

  between : (op : Op) (a b c d : Pieces) → AddAlike a c → AddAlike b d → AddAlike (a ++ op_piece op ∷ b) (c ++ op_piece op ∷ d)
  between op a b c d h k = alike_append a c (op_piece op ∷ b) (op_piece op ∷ d) h (alike_cons (op_piece op) b d k)

  number_adds : (z : ℤ) (l : Level) (o : ℕ) (ps : Pieces) → Spelt L names l o (int z) ps → AddAlike ps [] → AddAlike ps (int_pieces z)
  number_adds z l o ps h k = alike_then ps [] (int_pieces z) k (alike_back (int_pieces z) [] (int_adds z (printable L names h)))

  minus_adds : (ds : List ℕ) → is_number ds ≡ true → AddAlike (codes "-" ∷ ds ∷ []) []
  minus_adds ds t = alike_then (codes "-" ∷ ds ∷ []) (ds ∷ []) [] (alike_less (codes "-") (ds ∷ []) refl refl) (alike_less ds [] (number_no_name ds t) (number_no_text ds t))

  pub adds_alike : {l : Level} {o : ℕ} {t : Term} {ps : Pieces} → Spelt L names l o t ps → AddAlike ps (expression_pieces names l t)
  adds_alike (spelt.of_number {o = o} {ds = ds} t small) = number_adds (pos (digits_value 10 ds)) factor o (ds ∷ []) (spelt.of_number t small) (alike_less ds [] (number_no_name ds t) (number_no_text ds t))
  adds_alike (spelt.of_minus {o = o} {ds = ds} t) = number_adds (neg_ℤ (pos (digits_value 10 ds))) factor o (codes "-" ∷ ds ∷ []) (spelt.of_minus t) (minus_adds ds t)
  adds_alike spelt.of_true = alike_same _
  adds_alike spelt.of_false = alike_same _
  adds_alike (spelt.of_text h) = alike_same _
  adds_alike (spelt.of_name h) = alike_same _
  adds_alike (spelt.of_not {o = o} {t = t} {a = a} room h) = alike_cons (codes "not") a (expression_pieces names factor t) (adds_alike h)
  adds_alike (spelt.of_parens {o = o} {t = t} {a = a} room h) =
      at_level whole factor t (codes "(" ∷ (a ++ codes ")" ∷ [])) (alike_parens a (expression_pieces names whole t) (adds_alike h))
  adds_alike (spelt.of_factor {o = o} {t = t} {a = a} h) = at_level factor term t a (adds_alike h)
  adds_alike (spelt.of_product {o = o} {t = t} {u = u} {a = a} {b = b} h k) = between Mul a b (expression_pieces names term t) (expression_pieces names factor u) (adds_alike h) (adds_alike k)
  adds_alike (spelt.of_term {o = o} {t = t} {a = a} h) = at_level term sum t a (adds_alike h)
  adds_alike (spelt.of_addition {o = o} {t = t} {u = u} {a = a} {b = b} h k) = between Add a b (expression_pieces names sum t) (expression_pieces names term u) (adds_alike h) (adds_alike k)
  adds_alike (spelt.of_difference {o = o} {t = t} {u = u} {a = a} {b = b} h k) = between Sub a b (expression_pieces names sum t) (expression_pieces names term u) (adds_alike h) (adds_alike k)
  adds_alike (spelt.of_sum {o = o} {t = t} {a = a} h) = at_level sum whole t a (adds_alike h)
  adds_alike (spelt.of_less {o = o} {t = t} {u = u} {a = a} {b = b} h k) = between Less a b (expression_pieces names sum t) (expression_pieces names sum u) (adds_alike h) (adds_alike k)
  adds_alike (spelt.of_less_eq {o = o} {t = t} {u = u} {a = a} {b = b} h k) = between LessEq a b (expression_pieces names sum t) (expression_pieces names sum u) (adds_alike h) (adds_alike k)
  adds_alike (spelt.of_equal {o = o} {t = t} {u = u} {a = a} {b = b} h k) = between Equal a b (expression_pieces names sum t) (expression_pieces names sum u) (adds_alike h) (adds_alike k)
