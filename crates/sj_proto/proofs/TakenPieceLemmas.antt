-- After the pieces that are taken: how many items, which brackets, and no limit passed.
use Rattle.std.proofs.Common.{◌≡◌, ℕ, Bool, true, false, List, [], ◌∷◌, ◌++◌, Option, Some, None, refl, ap, sym, subst, ◌∙◌, inr}
use Rattle.std.specs.Prelude.{if◌then◌else◌}
use Rattle.std.specs.List.{fold}
use Rattle.sj_grammar.specs.declared.tokens.Rule.{Rule}
use Rattle.sj_grammar.specs.declared.tokens.Rule.TheVariants.{P4}
use Rattle.sj_lang.specs.Limits.{Limits, limits}
use Rattle.sj_grammar.specs.Positions.{Pieces}
use Rattle.sj_grammar.specs.Layers.{Step, goes, stops, misfit, onward, rule_of, step, run}
use Rattle.sj_grammar.specs.ProtocolDues.{ProtocolDue, protocol_layer}
use Rattle.sj_grammar.proofs.StepLemmas.{IsStep, due_behind, step_due, step_is, onward_goes}
use Rattle.sj_proto.specs.Wrong.{brackets_behind, items_behind, is_over}
use Rattle.sj_proto.proofs.CountLemmas.{Begun, Goes, begun_step}

-- no piece passes a limit, with so many items and these brackets before them
abbrev pub NonePasses : ℕ → List ℕ → Pieces → Type 0
NonePasses n bs ps = (before later : Pieces) (s : List ℕ) → ps ≡ before ++ s ∷ later → is_over limits (fold items_behind n before) (fold brackets_behind bs before) s ≡ false

none_passes : (n : ℕ) (bs : List ℕ) (s : List ℕ) (ps : Pieces) → is_over limits n bs s ≡ false → NonePasses (items_behind n s) (brackets_behind bs s) ps → NonePasses n bs (s ∷ ps)
none_passes n bs s ps here rest [] later t e = let same : s ≡ t = cc in subst (λ (x : List ℕ). is_over limits n bs x ≡ false) same here
none_passes n bs s ps here rest (u ∷ before) later t e =
    let same : s ≡ u = cc in
    let tail : ps ≡ before ++ t ∷ later = cc in
    subst (λ (x : List ℕ). is_over limits (fold items_behind (items_behind n x) before) (fold brackets_behind (brackets_behind bs x) before) t ≡ false) same (rest before later t tail)

is_under : (over : Bool) (k m : ℕ) (gs es : List ProtocolDue) → (if over then stops P4 else goes k gs) ≡ goes m es → (over ≡ false) × (k ≡ m) × (gs ≡ es)
is_under true k m gs es e = let none : ⊥ = cc in absurd none
is_under false k m gs es e = (refl, cc, cc)

begun_on : (L : Limits) (n : ℕ) (bs : List ℕ) (ds es : List ProtocolDue) (s : List ℕ) → Goes L n bs ds s es → Begun (items_behind n s) (brackets_behind bs s) es
begun_on L n bs ds es s g = inr g.1

-- after the pieces that are taken: so many items, those brackets, and no limit passed
pub run_begun : (ps : Pieces) (n m : ℕ) (bs : List ℕ) (ds es : List ProtocolDue) → Begun n bs ds → run protocol_layer limits n ds ps ≡ goes m es
    → (Begun m (fold brackets_behind bs ps) es) × (m ≡ fold items_behind n ps) × NonePasses n bs ps
run_begun [] n m bs ds es b e =
    let count : n ≡ m = cc in
    let due : ds ≡ es = cc in
    (subst (λ (k : ℕ). Begun k bs es) count (subst (Begun n bs) due b), sym count, λ before later s f. absurd (nothing before later s f))
  where
    nothing : (before later : Pieces) (s : List ℕ) → [] ≡ before ++ s ∷ later → ⊥
    nothing [] later s f = cc
    nothing (u ∷ before) later s f = cc
run_begun (s ∷ ps) n m bs ds es b e =
    let x = onward_goes protocol_layer limits (step protocol_layer limits n ds s) (λ j gs. run protocol_layer limits j gs ps) m es e in
    let g = begun_step limits n bs ds x.1 s b (step_due protocol_layer limits n x.0 ds x.1 s x.2) in
    let under = is_under (is_over limits n bs s) (items_behind n s) x.0 x.1 x.1 (sym g.0 ∙ x.2) in
    let rest = run_begun ps (items_behind n s) m (brackets_behind bs s) x.1 es (inr g.1) (ap (λ (j : ℕ). run protocol_layer limits j x.1 ps) under.1 ∙ x.3) in
    (rest.0, rest.1, none_passes n bs s ps under.0 rest.2)

-- what is taken limits aside, and passes none, is taken
pub run_within : (M : Limits) (ps : Pieces) (n k j : ℕ) (bs : List ℕ) (ds es : List ProtocolDue) → Begun n bs ds → run protocol_layer M k ds ps ≡ goes j es → NonePasses n bs ps → (m : ℕ) × (run protocol_layer limits n ds ps ≡ goes m es)
run_within M [] n k j bs ds es b e none = let due : ds ≡ es = cc in (n, ap (goes n) due)
run_within M (s ∷ ps) n k j bs ds es b e none =
    let x = onward_goes protocol_layer M (step protocol_layer M k ds s) (λ i gs. run protocol_layer M i gs ps) j es e in
    let g = begun_step limits n bs ds x.1 s b (step_due protocol_layer M k x.0 ds x.1 s x.2) in
    let here : step protocol_layer limits n ds s ≡ goes (items_behind n s) x.1 = g.0 ∙ ap (λ (over : Bool). if over then stops P4 else goes (items_behind n s) x.1) (none [] ps s refl) in
    let rest = run_within M ps (items_behind n s) x.0 j (brackets_behind bs s) x.1 es (inr g.1) x.3 (λ before later t f. none (s ∷ before) later t (ap (λ xs. s ∷ xs) f)) in
    (rest.0, ap (λ (t : Step ProtocolDue). onward t (λ i gs. run protocol_layer limits i gs ps)) here ∙ rest.1)

-- at a token, where the rule is that of what is due
module _ (n : ℕ) (bs : List ℕ) (ds : List ProtocolDue) (s : List ℕ) (b : Begun n bs ds) where
  pub not_due : due_behind protocol_layer ds s ≡ None → step protocol_layer limits n ds s ≡ stops (misfit s)
  not_due e = by_due (due_behind protocol_layer ds s) e (step_is protocol_layer limits n ds s)
    where
      by_due : (x : Option (List ProtocolDue)) → x ≡ None → IsStep protocol_layer limits n ds s x (step protocol_layer limits n ds s) → step protocol_layer limits n ds s ≡ stops (misfit s)
      by_due None e h = h
      by_due (Some es) e h = let none : ⊥ = cc in absurd none

  pub due_over : (es : List ProtocolDue) (rule : Rule) → due_behind protocol_layer ds s ≡ Some es → rule_of (step protocol_layer limits n ds s) ≡ Some rule → (rule ≡ P4) × (is_over limits n bs s ≡ true)
  due_over es rule e h = by_over (is_over limits n bs s) (sym (ap rule_of (begun_step limits n bs ds es s b e).0) ∙ h)
    where
      by_over : (over : Bool) → rule_of (if over then stops P4 else goes (items_behind n s) es) ≡ Some rule → (rule ≡ P4) × (over ≡ true)
      by_over true f = (cc, refl)
      by_over false f = let none : ⊥ = cc in absurd none
