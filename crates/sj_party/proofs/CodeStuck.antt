-- Where a text is stuck in statements, blocks and arms.
use Rattle.std.proofs.Common.{◌≡◌, ℕ, suc, ◌<◌, Bool, true, false, List, ◌∷◌, Some, None, refl, ap, subst}
use Rattle.std.specs.Prelude.{codes, nat_le, if◌then◌else◌}
use Rattle.std.specs.Str.{bytes_eq}
use Rattle.sj_lang.specs.declared.file.Names.{Names}
use Rattle.sj_lang.specs.Code.{Code, Branches}
use Rattle.sj_grammar.specs.declared.tokens.Fault.{Fault}
use Rattle.sj_grammar.specs.declared.tokens.Rule.TheVariants.{P1, P3, P4}
use Rattle.sj_grammar.specs.declared.refusal.ParseRefusal.{ParseRefusal}
use Rattle.sj_grammar.specs.declared.refusal.ParseRefusal.TheVariants as refusals
use Rattle.sj_lang.specs.Limits.{limits}
use Rattle.sj_grammar.specs.Lexis.{Ahead, at_end, bad, token, next_of}
use Rattle.sj_grammar.specs.Literals.{is_largest}
use Rattle.sj_grammar.specs.Names.{is_name}
use Rattle.sj_grammar.specs.Reading.{Reading}
use Rattle.sj_grammar.specs.Positions.{At, Takes}
use Rattle.sj_grammar.specs.Layers.{step, rule_of}
use Rattle.sj_grammar.specs.FileDues.{Due, stmts, block, branches, name, fixed, file_layer}
use Rattle.sj_grammar.specs.Faults.{Stuck, broken}
use Rattle.sj_grammar.specs.Statements.{AreArms}
use Rattle.sj_grammar.specs.Asked.{Refuses, Passes, spelled_next}
use Rattle.sj_grammar.proofs.StucknessLemmas.{stuck_cons, stuck_by, refuses_stuck, skip}
use Rattle.sj_proto.specs.Parsed.{standing, Stops}
use Rattle.sj_proto.specs.Choices.{but_first}
use Rattle.sj_proto.proofs.NameLemmas.{test_is}
use Rattle.sj_proto.proofs.RuleLemmas.{Refusing, over_rule}
use Rattle.sj_expr.proofs.ReadLemmas.{agrees_itself}
use Rattle.sj_party.specs.Read.{ReadsOnLines, ReadsCode}
use Rattle.sj_party.specs.Parts.{AreSome}
use Rattle.sj_party.proofs.RunLemmas.{code_leads, open_block}
use Rattle.sj_party.proofs.PartLemmas.{leads_stuck, some_arms_lead}
use Rattle.sj_proto.proofs.FrontLemmas.{spelling_at}

-- after statements
code_stuck : (o : ℕ) (c : Code) (a m : At) (ds : List Due) (f : Fault) → ReadsCode o a m c → ((k : ℕ) → Stuck file_layer limits k m (stmts o ∷ ds) f) → (n : ℕ) → Stuck file_layer limits n a (stmts o ∷ ds) f
code_stuck o c a m ds f r st n = leads_stuck a m r.pieces (stmts o ∷ ds) (stmts o ∷ ds) f r.begins (λ k. code_leads limits (spelling_at m) (r.are (spelling_at m) (agrees_itself m)) k ds) st n

pub code_stops : (o : ℕ) (c : Code) (a m : At) (e : ParseRefusal) → ReadsCode o a m c → ((n : ℕ) → Stops (λ ds. stmts o ∷ ds) n m e) → (n : ℕ) → Stops (λ ds. stmts o ∷ ds) n a e
code_stops o c a m (refusals.At f) r st n = λ ds. code_stuck o c a m ds f r (λ k. st k ds) n
code_stops o c a m refusals.NoMemory r st n = tt

-- a brace that is none, or too deep
pub block_stops : (o : ℕ) (r : Reading) (names : Names) (f : Fault) → Refuses (but_first (codes "{") (nat_le 32 o)) r f → (n : ℕ) → Stops (λ ds. block o ∷ ds) n (standing r names) (refusals.At f)
block_stops o r names f h n = λ ds. refuses_stuck file_layer limits (but_first (codes "{") (nat_le 32 o)) n (standing r names) (block o ∷ ds) f refl (block_rule ds) h
  where
    block_rule : (ds : List Due) → Refusing (but_first (codes "{") (nat_le 32 o)) n (block o ∷ ds)
    block_rule ds s r e = by_tests (is_largest s) (bytes_eq s (codes "{")) refl refl e
      where
        by_tests : (x y : Bool) → is_largest s ≡ x → bytes_eq s (codes "{") ≡ y → (if x then Some P3 else (if y then (if nat_le 32 o then Some P4 else None) else Some P1)) ≡ Some r
            → rule_of (step file_layer limits n (block o ∷ ds) s) ≡ Some r
        by_tests true true ex ey e = let was : is_largest (codes "{") ≡ true = subst (λ (t : List ℕ). is_largest t ≡ true) (test_is s (codes "{") ey) ex in let none : ⊥ = cc in absurd none
        by_tests true false ex ey e = rw (ey, ex) e
        by_tests false true ex ey e = rw ey (over_rule (nat_le 32 o) n (stmts (suc o) ∷ fixed (codes "}") ∷ ds) r e)
        by_tests false false ex ey e = rw (ey, ex) e

-- in a block, after its brace, and after its statements
module _ (o k : ℕ) (a m : At) (deeper : k ≡ suc o) (deep : o < 32) (brace : Takes a (codes "{") m) where
  opened_stuck : (ds : List Due) (f : Fault) → ((n : ℕ) → Stuck file_layer limits n m (stmts k ∷ fixed (codes "}") ∷ ds) f) → (n : ℕ) → Stuck file_layer limits n a (block o ∷ ds) f
  opened_stuck ds f st n =
      stuck_cons file_layer limits n n a m (codes "{") (block o ∷ ds) (stmts (suc o) ∷ fixed (codes "}") ∷ ds) f brace (open_block limits o n ds deep)
      (subst (λ (j : ℕ). Stuck file_layer limits n m (stmts j ∷ fixed (codes "}") ∷ ds) f) deeper (st n))

  pub opened_stops : (e : ParseRefusal) → ((n : ℕ) → Stops (λ ds. stmts k ∷ ds) n m e) → (n : ℕ) → Stops (λ ds. block o ∷ ds) n a e
  opened_stops (refusals.At f) st n = λ ds. opened_stuck ds f (λ j. st j (fixed (codes "}") ∷ ds)) n
  opened_stops refusals.NoMemory st n = tt

  pub filled_stops : (c : Code) (b : At) (e : ParseRefusal) → ReadsCode k m b c → Passes file_layer (stmts k) (next_of b.text.ahead) → ((n : ℕ) → Stops (λ ds. fixed (codes "}") ∷ ds) n b e) → (n : ℕ) → Stops (λ ds. block o ∷ ds) n a e
  filled_stops c b (refusals.At f) r passes st n = λ ds.
      opened_stuck ds f (code_stuck k c m b (fixed (codes "}") ∷ ds) f r (λ j. skip file_layer limits j b (stmts k) (fixed (codes "}") ∷ ds) f refl passes (st j ds))) n
  filled_stops c b refusals.NoMemory r passes st n = tt

-- one arm more
module _ (o : ℕ) (m : At) (named : is_name (spelled_next (next_of m.text.ahead)) ≡ true) where
  abbrev an_arm : List Due → List Due
  an_arm ds = name ∷ fixed (codes ":") ∷ block o ∷ ds

  arm_same : (n : ℕ) (ds : List Due) (s : List ℕ) → is_name s ≡ true → step file_layer limits n (branches o ∷ ds) s ≡ step file_layer limits n (an_arm (branches o ∷ ds)) s
  arm_same n ds s e = rw e refl

  arm_broken : (n : ℕ) (ds : List Due) (x : Ahead) → is_name (spelled_next x) ≡ true → broken file_layer limits n (branches o ∷ ds) x ≡ broken file_layer limits n (an_arm (branches o ∷ ds)) x
  arm_broken n ds at_end e = let none : ⊥ = cc in absurd none
  arm_broken n ds (bad r rest) e = refl
  arm_broken n ds (token what s rest) e = ap rule_of (arm_same n ds s e)

  arm_stuck : (n : ℕ) (ds : List Due) (f : Fault) → Stuck file_layer limits n m (an_arm (branches o ∷ ds)) f → Stuck file_layer limits n m (branches o ∷ ds) f
  arm_stuck n ds f st =
      stuck_by file_layer limits n n m (an_arm (branches o ∷ ds)) (branches o ∷ ds) f (arm_broken n ds (next_of m.text.ahead) named)
      (λ what s rest e. arm_same n ds s (subst (λ (x : Ahead). is_name (spelled_next x) ≡ true) e named)) st

  pub arms_stop : (arms : Branches) (a : At) (e : ParseRefusal) → AreSome arms → ReadsOnLines a m (λ names ps. AreArms limits names o arms ps) → ((n : ℕ) → Stops (λ ds. name ∷ fixed (codes ":") ∷ block o ∷ ds) n m e)
      → (n : ℕ) → Stops (λ ds. name ∷ fixed (codes ":") ∷ block o ∷ branches o ∷ ds) n a e
  arms_stop arms a (refusals.At f) some r st n = λ ds.
      leads_stuck a m r.pieces (an_arm (branches o ∷ ds)) (branches o ∷ ds) f r.begins (λ k. some_arms_lead (spelling_at m) o arms r.pieces some (r.are (spelling_at m) (agrees_itself m)) k ds)
      (λ k. arm_stuck k ds f (st k (branches o ∷ ds))) n
  arms_stop arms a refusals.NoMemory some r st n = tt
