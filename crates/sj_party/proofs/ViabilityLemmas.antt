-- Up to where something is due a file can go on so, and with a token that passes a limit.
use Rattle.std.proofs.Common.{◌≡◌, ℕ, suc, ◌+◌, true, IsTrue, List, [], ◌∷◌, ◌++◌, length, map, Some, None, refl, sym, subst, ◌∙◌, append_assoc, append-nil, arith, inl}
use Rattle.std.specs.Prelude.{codes}
use Rattle.std.proofs.Math.ListN.{get_or-map}
use Rattle.sj_lang.specs.declared.party.Scalar.TheVariants.{Int}
use Rattle.sj_lang.specs.Code.{no_stmt}
use Rattle.sj_grammar.specs.declared.tokens.Rule.{Rule}
use Rattle.sj_grammar.specs.declared.tokens.Rule.TheVariants.{P4}
use Rattle.sj_lang.specs.Limits.{Limits}
use Rattle.sj_grammar.specs.Literals.{inner}
use Rattle.sj_grammar.specs.Names.{is_name}
use Rattle.sj_grammar.specs.Tables.{Spelling, entry_of}
use Rattle.sj_grammar.specs.Positions.{Pieces, spellings}
use Rattle.sj_grammar.specs.Layers.{step, may_end, rule_of}
use Rattle.sj_grammar.specs.Statements.{braced}
use Rattle.sj_grammar.specs.Statements as statements
use Rattle.sj_grammar.specs.Files.{IsSpelled}
use Rattle.sj_grammar.specs.FileDues.{Due, protocols, parties, connects, stmts, block, branches, awaited, name, fixed, proto, expr, file_layer, file_due}
use Rattle.sj_grammar.specs.Viable.{IsViable}
use Rattle.sj_grammar.proofs.StepLemmas.{step_over}
use Rattle.sj_grammar.proofs.SpellingLemmas.{IsHeld, AllHeld, spelling_of, first_of, held_at, all_held}
use Rattle.sj_grammar.proofs.CompletionLemmas.{due_back, run_back, ends_back, some_alls}
use Rattle.sj_proto.proofs.ViableLemmas.{x_is_a_name}
use Rattle.sj_proto.proofs.CompletionLemmas as protocol
use Rattle.sj_expr.proofs.FollowLemmas as expression
use Rattle.sj_party.specs.Leads.{Leads}
use Rattle.sj_party.specs.Viable.{IsSomeFile, IsViableWithin}
use Rattle.sj_party.proofs.LimitLemmas.{all_limits, are_wide, widely_two, named_widely}
use Rattle.sj_party.proofs.DuePieceLemmas.{Spelled, AllSpelled, lines_of, lines_spelled, none_spelled}
use Rattle.sj_party.proofs.FileBack.{file_back}
use Rattle.sj_party.proofs.FileRunLemmas.{file_completes}
use Rattle.sj_party.proofs.Faultless.{none_broken}

-- something spells each due, once a number is a name's
module _ (names : Spelling) (a_name : ℕ) (is : IsTrue (is_name (names.word a_name))) where
  some_spelled : (d : Due) → (a : Pieces) × Spelled names d a
  some_spelled (protocols k) = ([], none_spelled names (protocols k) refl)
  some_spelled (parties k) = ([], none_spelled names (parties k) refl)
  some_spelled (connects k) = ([], none_spelled names (connects k) refl)
  some_spelled (stmts o) = ([], none_spelled names (stmts o) refl)
  some_spelled (block o) = (codes "{" ∷ codes "}" ∷ [], (no_stmt, braced [], widely_two _ _ _ (λ M a b. statements.of_code a b) (suc o, λ M w. w.nesting) (0, λ M w. statements.none), refl))
  some_spelled (branches o) = ([], none_spelled names (branches o) refl)
  some_spelled awaited = (codes "int" ∷ [], inl (Int, refl))
  some_spelled name =
      let n = first_of names.word a_name in
      (names.word n.0 ∷ [], (n.0, named_widely names.word n.0 (subst (λ (s : List ℕ). IsTrue (is_name s)) (sym n.1) is) n.2, refl))
  some_spelled (fixed p) = (p ∷ [], refl)
  some_spelled (proto d) = protocol.some_spelled names.word a_name is d
  some_spelled (expr d) = expression.some_spelled names d

-- the spelling of these pieces, as the tables of a file have it
abbrev names_in : Pieces → Spelling
names_in ws = record { word = entry_of ws; text = entry_of (map inner ws) }

-- it is the one in which each piece has its first number
same_names : (ws : Pieces) → spelling_of ws ≡ names_in ws
same_names ws = λ i. record { word = entry_of ws; text = λ n. sym (get_or-map inner ws n []) i }

-- among them one is a name
abbrev and_x : Pieces → Pieces
and_x ps = codes "x" ∷ ps

-- and so each of the pieces is held
held_in : (ps post : Pieces) → AllHeld (IsHeld (names_in (and_x (ps ++ post)))) ps
held_in ps post = subst (λ (names : Spelling). AllHeld (IsHeld names) ps) (same_names (and_x (ps ++ post))) (all_held (codes "x" ∷ []) ps post)

module _ (L : Limits) (ps : Pieces) (m : ℕ) (due : List Due) (e : Leads L 0 file_due ps m due) where
  -- the pieces, and what then is due
  completed : (ws ts : Pieces) → AllHeld (IsHeld (names_in ws)) ps → AllSpelled (names_in ws) due ts → IsSomeFile (ps ++ ts)
  completed ws ts held h =
      let names = names_in ws in
      let all = run_back file_layer (Spelled names) (IsHeld names) (file_back names) (none_spelled names) L ps 0 m file_due due ts held e h in
      let p = all.2 in
      let q = all.3.2 in
      let c = all.3.3.2 in
      let k = p.1.0 + q.2.0 + c.1.0 + length p.0 + length q.0 + length c.0 in
      record {
        within = all_limits k;
        file = record { words = ws; texts = map inner ws; protocols = p.0; parties = q.0; connects = c.0 };
        lines = lines_of names file_due (ps ++ ts) all;
        spelled = record {
          parties = q.1;
          same = refl;
          all_protocols = p.1.1 (all_limits k) (are_wide p.1.0 k (omega arith));
          all_parties = q.2.1 (all_limits k) (are_wide q.2.0 k (omega arith));
          all_connects = c.1.1 (all_limits k) (are_wide c.1.0 k (omega arith));
          few_protocols = omega arith;
          few_parties = omega arith;
          few_connects = omega arith;
        };
        same = lines_spelled names file_due (ps ++ ts) all;
      }

  -- up to there
  pub viable : IsViable IsSomeFile ps
  viable =
      let ws = and_x (ps ++ []) in
      let ends = some_alls file_layer (Spelled (names_in ws)) (some_spelled (names_in ws) 0 x_is_a_name) due in
      record { later = ends.0; all = completed ws ends.0 (held_in ps []) ends.1 }

  -- with a token that passes a limit, limits aside
  pub viable_over : (s : List ℕ) → rule_of (step file_layer L m due s) ≡ Some P4 → IsViable IsSomeFile (ps ++ s ∷ [])
  viable_over s over =
      let es = step_over file_layer L m due s over in
      let ws = and_x (ps ++ s ∷ []) in
      let names = names_in ws in
      let held : IsHeld names s = subst (λ (x : Spelling). IsHeld x s) (same_names ws) (held_at (and_x ps) [] s) in
      let ends = some_alls file_layer (Spelled names) (some_spelled names 0 x_is_a_name) es.0 in
      let next = due_back file_layer (Spelled names) (IsHeld names) (file_back names) (none_spelled names) due es.0 s ends.0 held es.1 ends.1 in
      record { later = ends.0; all = subst IsSomeFile (sym (append_assoc ps (s ∷ []) ends.0)) (completed ws (s ∷ ends.0) (held_in ps (s ∷ [])) next) }

  -- where nothing need be due
  pub whole : may_end file_layer due ≡ true → IsSomeFile ps
  whole may =
      let ws = and_x (ps ++ []) in
      subst IsSomeFile (append-nil ps) (completed ws [] (held_in ps []) (ends_back file_layer (Spelled (names_in ws)) (none_spelled (names_in ws)) due may))

  -- within the same limits no file goes on with a token that breaks a rule
  pub not_within : (s : List ℕ) (rule : Rule) → rule_of (step file_layer L m due s) ≡ Some rule → IsViableWithin L (ps ++ s ∷ []) → ⊥
  not_within s rule breaks v =
      let all = v.viable.all in
      let w = file_completes L all.file all.lines 0 (subst (λ (M : Limits). IsSpelled M all.file all.lines) v.within all.spelled) in
      let taken = none_broken L 0 w.count m file_due w.dues due (spellings all.lines) ps v.viable.later s w.steps (all.same ∙ append_assoc ps (s ∷ []) v.viable.later) e in
      let both : Some rule ≡ None = sym breaks ∙ taken in
      cc
