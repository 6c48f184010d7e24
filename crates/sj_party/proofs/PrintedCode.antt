-- The canonical text of statements and arms, in the order in which it is put.
use Rattle.std.proofs.Common.{◌≡◌, ℕ, ◌+◌, ◌-◌, ◌<◌, ◌≤◌, List, ◌++◌, length, drop, get_or, ap, sym, ◌∙◌, append_assoc}
use Rattle.std.specs.Prelude.{codes, map, Vec}
use Rattle.std.proofs.lemmas.List.{take-append-drop, take-replicate, drop-replicate, drop_all}
use Rattle.std.specs.declared.alloc.Global.{Global}
use Rattle.sj_text.specs.Cut.{IsCutShort}
use Rattle.sj_text.proofs.CutLemmas.{StillTo, none_yet, one_more, ahead_is, open_by}
use Rattle.sj_lang.specs.declared.party.Expr.{Expr}
use Rattle.sj_lang.specs.declared.party.Deed.{Deed}
use Rattle.sj_lang.specs.declared.party.Deed.TheVariants as deeds
use Rattle.sj_lang.specs.declared.party.Stmt.{Stmt}
use Rattle.sj_lang.specs.declared.party.StmtArm.{StmtArm, out-StmtArm}
use Rattle.sj_lang.specs.CodeView.{term_of, code_of, deed_of, arm_of, branches_of}
use Rattle.sj_lang.specs.Code.{Code}
use Rattle.sj_lang.proofs.FoldLemmas.{stmt_of-fields, arm_of-fields, deed_of-If}
use Rattle.sj_grammar.specs.Tables.{Spelling}
use Rattle.sj_party.specs.CanonicalCode.{spaces, newline, in_block, valued_text, code_text, stmt_text, deed_text, arms_text, arm_text, block_text}

pub spaces_cut : (old new : List ℕ) (k n : ℕ) → k ≤ n → new ≡ old ++ spaces k → IsCutShort old (spaces n) new
spaces_cut old new k n h e = record {
  some = spaces k;
  rest = spaces (n - k);
  appended = e;
  begins = sym (take-append-drop k (spaces n)) ∙ (λ i. take-replicate k n 32 h i ++ drop-replicate k n 32 i);
}

-- what is left of a block and of arms, before the brace that closes them
abbrev pub closing : ℕ → List ℕ
closing n = spaces n ++ codes "}"

module _ (names : Spelling) where
  abbrev pub code_ahead : ℕ → ℕ → ℕ → List Stmt → List ℕ
  code_ahead n m i body = code_text names m (code_of (drop i body)) ++ closing n

  abbrev pub arms_ahead : ℕ → ℕ → ℕ → List StmtArm → List ℕ
  arms_ahead n m i arms = arms_text names m (branches_of (map arm_of (drop i arms))) ++ closing n

  pub stmt_step : (n m i : ℕ) (body : List Stmt) (x : Stmt) → i < length body → x ≡ get_or body i x
      → code_ahead n m i body ≡ spaces m ++ (deed_text names m (deed_of x.deed) ++ (newline ++ code_ahead n m (i + 1) body))
  stmt_step n m i body x h e =
      let rest = code_text names m (code_of (drop (i + 1) body)) in
      let deed = deed_text names m (deed_of x.deed) in
      ap (λ xs. code_text names m (code_of xs) ++ closing n) (open_by i body x h e)
      ∙ ap (λ s. (stmt_text names m s ++ rest) ++ closing n) (stmt_of-fields x)
      ∙ append_assoc (spaces m ++ (deed ++ newline)) rest (closing n)
      ∙ append_assoc (spaces m) (deed ++ newline) (rest ++ closing n)
      ∙ ap (λ xs. spaces m ++ xs) (append_assoc deed newline (rest ++ closing n))

  pub arm_step : (n m i : ℕ) (arms : List StmtArm) (x : StmtArm) → i < length arms → x ≡ get_or arms i x
      → arms_ahead n m i arms ≡ spaces m ++ (names.word (out-StmtArm x).label ++ ((codes ":" ++ block_text names m (code_of (out-StmtArm x).body.items)) ++ (newline ++ arms_ahead n m (i + 1) arms)))
  arm_step n m i arms x h e =
      let rest = arms_text names m (branches_of (map arm_of (drop (i + 1) arms))) in
      let word = names.word (out-StmtArm x).label in
      let block = codes ":" ++ block_text names m (code_of (out-StmtArm x).body.items) in
      ap (λ xs. arms_text names m (branches_of (map arm_of xs)) ++ closing n) (open_by i arms x h e)
      ∙ ap (λ (a : ℕ × Code). (arm_text names m a.0 (code_text names (m + 2) a.1) ++ rest) ++ closing n) (arm_of-fields x)
      ∙ append_assoc (spaces m ++ (word ++ (block ++ newline))) rest (closing n)
      ∙ append_assoc (spaces m) (word ++ (block ++ newline)) (rest ++ closing n)
      ∙ ap (λ xs. spaces m ++ xs) (append_assoc word (block ++ newline) (rest ++ closing n) ∙ ap (λ xs. word ++ xs) (append_assoc block newline (rest ++ closing n)))

  pub code_done : (n m i : ℕ) (body : List Stmt) → length body ≤ i → code_ahead n m i body ≡ closing n
  code_done n m i body h = ap (λ xs. code_text names m (code_of xs) ++ closing n) (drop_all i body h)

  pub arms_done : (n m i : ℕ) (arms : List StmtArm) → length arms ≤ i → arms_ahead n m i arms ≡ closing n
  arms_done n m i arms h = ap (λ xs. arms_text names m (branches_of (map arm_of xs)) ++ closing n) (drop_all i arms h)

  -- a block is opened
  pub block_opened : (old lead now first : List ℕ) (n m : ℕ) (body : List Stmt) → m ≡ n + 2 → first ≡ old ++ lead → now ≡ first ++ codes " {\n"
      → StillTo old (lead ++ block_text names n (code_of body)) (code_ahead n m 0 body) now
  unfolding in_block
  block_opened old lead now first n m body e f g =
      let whole = lead ++ block_text names n (code_of body) in
      ahead_is old whole (code_text names (n + 2) (code_of body) ++ closing n) (code_ahead n m 0 body) now (ap (λ k. code_text names k (code_of body) ++ closing n) (sym e))
      (one_more old whole (codes " {\n") (code_text names (n + 2) (code_of body) ++ closing n) first now
      (one_more old whole lead (codes " {\n" ++ (code_text names (n + 2) (code_of body) ++ closing n)) old first (none_yet old whole) f) g)

  pub arms_opened : (old now : List ℕ) (n m : ℕ) (arms : List StmtArm) → m ≡ n + 2 → now ≡ old ++ codes " {\n"
      → StillTo old (in_block n (arms_text names (n + 2) (branches_of (map arm_of arms)))) (arms_ahead n m 0 arms) now
  unfolding in_block
  arms_opened old now n m arms e g =
      let whole = in_block n (arms_text names (n + 2) (branches_of (map arm_of arms))) in
      ahead_is old whole (arms_text names (n + 2) (branches_of (map arm_of arms)) ++ closing n) (arms_ahead n m 0 arms) now (ap (λ k. arms_text names k (branches_of (map arm_of arms)) ++ closing n) (sym e))
      (one_more old whole (codes " {\n") (arms_text names (n + 2) (branches_of (map arm_of arms)) ++ closing n) old now (none_yet old whole) g)

  pub if_text : (n : ℕ) (d : Deed) (e : Expr) (v w : Vec Stmt Global) (first second : List Stmt) → d ≡ deeds.If e v w → first ≡ v.items → second ≡ w.items
      → deed_text names n (deed_of d) ≡ valued_text names (codes "if ") (term_of e) ++ (block_text names n (code_of first) ++ (codes " else" ++ block_text names n (code_of second)))
  if_text n d e v w first second is one two =
      ap (λ x. deed_text names n (deed_of x)) is ∙ ap (deed_text names n) (deed_of-If e v w)
      ∙ (λ i. valued_text names (codes "if ") (term_of e) ++ (block_text names n (code_of (sym one i)) ++ (codes " else" ++ block_text names n (code_of (sym two i)))))
