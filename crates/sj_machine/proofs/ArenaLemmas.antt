-- The blocks of an arena's nodes.
use Rattle.std.proofs.Common.{◌≡◌, ℕ, zero, suc, ◌+◌, ◌<◌, ◌≤◌, List, [], ◌∷◌, ◌++◌, length, get_or, Option, Some, None, refl, ap, sym, subst, ◌∙◌, arith, length-append}
use Rattle.sj_lang.specs.CodeView.{term_of}
use Rattle.sj_lang.specs.Code.{Code, no_stmt, stmt_then, at, inbranch, outwhile, inwhile, relay, if_else, branch}
use Rattle.sj_machine.specs.declared.arena.ArmAt.{ArmAt}
use Rattle.sj_machine.specs.declared.arena.Op.{Op}
use Rattle.sj_machine.specs.declared.arena.Op.TheVariants.{Send, Delegate, Take, TakeEnd, Select, Branch, OutWhile, InWhile, Relay, If, Let, Close, Request, Accept}
use Rattle.sj_machine.specs.declared.arena.CodeNode.{CodeNode}
use Rattle.sj_machine.specs.Arena.{code_in, arms_in, deed_in, node_code, codes_from, codes_of, IsBelow, AreBelow, IsOpBelow, IsBackward}

-- ---- below

pub below_more : (a b : ℕ) (o : Option ℕ) → a ≤ b → IsBelow a o → IsBelow b o
below_more a b None l h = tt
below_more a b (Some i) l h = omega arith

pub arms_below_more : (a b : ℕ) (arms : List ArmAt) → a ≤ b → AreBelow a arms → AreBelow b arms
arms_below_more a b [] l h = tt
arms_below_more a b (x ∷ arms) l h = (below_more a b x.body l h.0, arms_below_more a b arms l h.1)

pub op_below_more : (a b : ℕ) (op : Op) → a ≤ b → IsOpBelow a op → IsOpBelow b op
op_below_more a b (Send x e) l h = tt
op_below_more a b (Delegate x y) l h = tt
op_below_more a b (Take x n k) l h = tt
op_below_more a b (TakeEnd x y p) l h = tt
op_below_more a b (Select x m) l h = tt
op_below_more a b (Branch x arms) l h = arms_below_more a b arms.items l h
op_below_more a b (OutWhile x e body) l h = below_more a b body l h
op_below_more a b (InWhile x body) l h = below_more a b body l h
op_below_more a b (Relay x y body) l h = below_more a b body l h
op_below_more a b (If e first second) l h = (below_more a b first l h.0, below_more a b second l h.1)
op_below_more a b (Let n e) l h = tt
op_below_more a b (Close x) l h = tt
op_below_more a b (Request x p q) l h = tt
op_below_more a b (Accept x p q) l h = tt

-- ---- blocks that are kept where nodes are appended

get_or_before : (xs : List Code) (y : Code) (j : ℕ) (d : Code) → j < length xs → get_or (xs ++ y ∷ []) j d ≡ get_or xs j d
get_or_before [] y j d h = absurd (omega arith)
get_or_before (x ∷ xs) y zero d h = refl
get_or_before (x ∷ xs) y (suc j) d h = get_or_before xs y j d (omega arith)

pub get_or_end : (xs : List Code) (y : Code) (j : ℕ) (d : Code) → j ≡ length xs → get_or (xs ++ y ∷ []) j d ≡ y
get_or_end [] y j d h = ap (λ (t : ℕ). get_or (y ∷ []) t d) h
get_or_end (x ∷ xs) y zero d h = absurd (omega arith)
get_or_end (x ∷ xs) y (suc j) d h = get_or_end xs y j d (omega arith)

codes_kept : (codes : List Code) (ns : List CodeNode) (j : ℕ) (d : Code) → j < length codes → get_or (codes_from codes ns) j d ≡ get_or codes j d
codes_kept codes [] j d h = refl
codes_kept codes (n ∷ ns) j d h =
    codes_kept (codes ++ node_code codes n ∷ []) ns j d (omega (arith, length-append codes (node_code codes n ∷ []))) ∙ get_or_before codes (node_code codes n) j d h

pub code_kept : (codes : List Code) (ns : List CodeNode) (o : Option ℕ) → IsBelow (length codes) o → code_in (codes_from codes ns) o ≡ code_in codes o
code_kept codes ns None h = refl
code_kept codes ns (Some i) h = codes_kept codes ns i no_stmt h

pub arms_kept : (codes : List Code) (ns : List CodeNode) (arms : List ArmAt) → AreBelow (length codes) arms → arms_in (codes_from codes ns) arms ≡ arms_in codes arms
arms_kept codes ns [] h = refl
arms_kept codes ns (a ∷ arms) h = λ i. branch a.label (code_kept codes ns a.body h.0 i) (arms_kept codes ns arms h.1 i)

pub deed_kept : (codes : List Code) (ns : List CodeNode) (op : Op) → IsOpBelow (length codes) op → deed_in (codes_from codes ns) op ≡ deed_in codes op
deed_kept codes ns (Send x e) h = refl
deed_kept codes ns (Delegate x y) h = refl
deed_kept codes ns (Take x n k) h = refl
deed_kept codes ns (TakeEnd x y p) h = refl
deed_kept codes ns (Select x m) h = refl
deed_kept codes ns (Branch x arms) h = ap (inbranch x) (arms_kept codes ns arms.items h)
deed_kept codes ns (OutWhile x e body) h = ap (outwhile x (term_of e)) (code_kept codes ns body h)
deed_kept codes ns (InWhile x body) h = ap (inwhile x) (code_kept codes ns body h)
deed_kept codes ns (Relay x y body) h = ap (relay x y) (code_kept codes ns body h)
deed_kept codes ns (If e first second) h = λ i. if_else (term_of e) (code_kept codes ns first h.0 i) (code_kept codes ns second h.1 i)
deed_kept codes ns (Let n e) h = refl
deed_kept codes ns (Close x) h = refl
deed_kept codes ns (Request x p b) h = refl
deed_kept codes ns (Accept x p b) h = refl

node_kept : (codes : List Code) (ns : List CodeNode) (n : CodeNode) → IsBelow (length codes) n.next → IsOpBelow (length codes) n.op → node_code (codes_from codes ns) n ≡ node_code codes n
node_kept codes ns n a b = λ i. stmt_then (at n.line (deed_kept codes ns n.op b i)) (code_kept codes ns n.next a i)

-- ---- the block that begins with a node

node_code_from : (codes : List Code) (ns : List CodeNode) (j : ℕ) (n : CodeNode) → IsBackward (length codes) ns → j < length ns → n ≡ get_or ns j n
    → get_or (codes_from codes ns) (length codes + j) no_stmt ≡ node_code (codes_from codes ns) n
node_code_from codes [] j n h lt e = absurd (omega arith)
node_code_from codes (m ∷ ns) zero n h lt e =
    let more : List Code = codes ++ node_code codes m ∷ [] in
    codes_kept more ns (length codes + 0) no_stmt (omega (arith, length-append codes (node_code codes m ∷ [])))
    ∙ get_or_end codes (node_code codes m) (length codes + 0) no_stmt (omega arith)
    ∙ sym (node_kept codes (m ∷ ns) m h.0 h.1)
    ∙ ap (node_code (codes_from codes (m ∷ ns))) (sym e)
node_code_from codes (m ∷ ns) (suc j) n h lt e =
    let more : List Code = codes ++ node_code codes m ∷ [] in
    let len : suc (length codes) ≡ length more = omega (arith, length-append codes (node_code codes m ∷ [])) in
    let there : length codes + suc j ≡ length more + j = omega arith in
    ap (λ (t : ℕ). get_or (codes_from more ns) t no_stmt) there
    ∙ node_code_from more ns j n (subst (λ (t : ℕ). IsBackward t ns) len h.2) (omega arith) e

pub node_code_of : (nodes : List CodeNode) (i : ℕ) (n : CodeNode) → IsBackward 0 nodes → i < length nodes → n ≡ get_or nodes i n → code_in (codes_of nodes) (Some i) ≡ node_code (codes_of nodes) n
node_code_of nodes i n back lt e =
    let start : 0 + i ≡ i = omega arith in
    subst (λ (t : ℕ). get_or (codes_of nodes) t no_stmt ≡ node_code (codes_of nodes) n) start (node_code_from [] nodes i n back lt e)

backward_from : (k : ℕ) (ns : List CodeNode) (j : ℕ) (n : CodeNode) → IsBackward k ns → j < length ns → n ≡ get_or ns j n → IsBelow (k + j) n.next × IsOpBelow (k + j) n.op
backward_from k [] j n h lt e = absurd (omega arith)
backward_from k (m ∷ ns) zero n h lt e =
    subst (λ (t : CodeNode). IsBelow (k + 0) t.next × IsOpBelow (k + 0) t.op) (sym e) (below_more k (k + 0) m.next (omega arith) h.0, op_below_more k (k + 0) m.op (omega arith) h.1)
backward_from k (m ∷ ns) (suc j) n h lt e =
    let s : suc k + j ≡ k + suc j = omega arith in
    subst (λ (t : ℕ). IsBelow t n.next × IsOpBelow t n.op) s (backward_from (suc k) ns j n h.2 (omega arith) e)

-- a node names only nodes before it
pub backward_at : (nodes : List CodeNode) (i : ℕ) (n : CodeNode) → IsBackward 0 nodes → i < length nodes → n ≡ get_or nodes i n → IsBelow i n.next × IsOpBelow i n.op
backward_at nodes i n back lt e =
    let s : 0 + i ≡ i = omega arith in
    subst (λ (t : ℕ). IsBelow t n.next × IsOpBelow t n.op) s (backward_from 0 nodes i n back lt e)
