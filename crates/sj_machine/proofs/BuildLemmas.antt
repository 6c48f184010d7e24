-- What appending nodes to others keeps.
use Rattle.std.proofs.Common.{◌≡◌, ℕ, zero, suc, ◌+◌, ◌-◌, ◌<◌, ◌≤◌, drop, take, map, List, [], ◌∷◌, ◌++◌, length, get_or, Option, Some, refl, ap, sym, subst, ◌∙◌, arith, length-append, append_assoc, append-nil}
use Rattle.sj_lang.specs.Code.{Code, DeedAt, no_stmt, stmt_then, at, branch}
use Rattle.sj_lang.specs.CodeView.{branches_of, code_of, stmt_of}
use Rattle.sj_lang.specs.declared.party.Stmt.{Stmt}
use Rattle.sj_lang.specs.declared.party.StmtArm.{StmtArm}
use Rattle.sj_machine.specs.declared.arena.ArmAt.{ArmAt}
use Rattle.sj_machine.specs.declared.arena.CodeNode.{CodeNode}
use Rattle.sj_machine.specs.Arena.{code_in, arms_in, node_code, codes_from, codes_of, IsBelow, AreBelow, IsOpBelow, IsBackward, Grown}
use Rattle.sj_machine.proofs.ArenaLemmas.{code_kept, arms_kept, below_more, arms_below_more, get_or_end}

codes_from_append : (codes : List Code) (ns ms : List CodeNode) → codes_from codes (ns ++ ms) ≡ codes_from (codes_from codes ns) ms
codes_from_append codes [] ms = refl
codes_from_append codes (n ∷ ns) ms = codes_from_append (codes ++ node_code codes n ∷ []) ns ms

length-codes_from : (codes : List Code) (ns : List CodeNode) → length (codes_from codes ns) ≡ length codes + length ns
length-codes_from codes [] = omega arith
length-codes_from codes (n ∷ ns) = let h = length-codes_from (codes ++ node_code codes n ∷ []) ns in omega (arith, length-append codes (node_code codes n ∷ []))

length-codes_of : (ns : List CodeNode) → length (codes_of ns) ≡ length ns
length-codes_of ns = let h = length-codes_from [] ns in omega arith

pub grown_code : (old new : List CodeNode) (b : Option ℕ) → Grown old new → IsBelow (length old) b → code_in (codes_of new) b ≡ code_in (codes_of old) b
grown_code old new b g h =
    ap (λ (t : List CodeNode). code_in (codes_of t) b) g.is ∙ ap (λ (t : List Code). code_in t b) (codes_from_append [] old g.more)
    ∙ code_kept (codes_of old) g.more b (subst (λ (t : ℕ). IsBelow t b) (sym (length-codes_of old)) h)

pub grown_arms : (old new : List CodeNode) (arms : List ArmAt) → Grown old new → AreBelow (length old) arms → arms_in (codes_of new) arms ≡ arms_in (codes_of old) arms
grown_arms old new arms g h =
    ap (λ (t : List CodeNode). arms_in (codes_of t) arms) g.is ∙ ap (λ (t : List Code). arms_in t arms) (codes_from_append [] old g.more)
    ∙ arms_kept (codes_of old) g.more arms (subst (λ (t : ℕ). AreBelow t arms) (sym (length-codes_of old)) h)

pub grown_length : (old new : List CodeNode) → Grown old new → length old ≤ length new
grown_length old new g = let e : length new ≡ length old + length g.more = ap length g.is ∙ length-append old g.more in omega arith

pub grown_below : (old new : List CodeNode) (b : Option ℕ) → Grown old new → IsBelow (length old) b → IsBelow (length new) b
grown_below old new b g h = below_more (length old) (length new) b (grown_length old new g) h

pub grown_arms_below : (old new : List CodeNode) (arms : List ArmAt) → Grown old new → AreBelow (length old) arms → AreBelow (length new) arms
grown_arms_below old new arms g h = arms_below_more (length old) (length new) arms (grown_length old new g) h

pub grown_none : (ns : List CodeNode) → IsBackward 0 ns → Grown ns ns
grown_none ns h = record { back = h; more = []; is = sym (append-nil ns) }

pub grown_twice : (a b c : List CodeNode) → Grown a b → Grown b c → Grown a c
grown_twice a b c g h = record { back = h.back; more = g.more ++ h.more; is = h.is ∙ ap (λ (t : List CodeNode). t ++ h.more) g.is ∙ append_assoc a g.more h.more }

backward_push : (k : ℕ) (ns : List CodeNode) (n : CodeNode) → IsBackward k ns → IsBelow (k + length ns) n.next → IsOpBelow (k + length ns) n.op → IsBackward k (ns ++ n ∷ [])
backward_push k [] n h a b =
    let e : k + 0 ≡ k = omega arith in
    (subst (λ (t : ℕ). IsBelow t n.next) e a, subst (λ (t : ℕ). IsOpBelow t n.op) e b, tt)
backward_push k (m ∷ ns) n h a b =
    let e : k + suc (length ns) ≡ suc k + length ns = omega arith in
    (h.0, h.1, backward_push (suc k) ns n h.2 (subst (λ (t : ℕ). IsBelow t n.next) e a) (subst (λ (t : ℕ). IsOpBelow t n.op) e b))

pub grown_push : (old new : List CodeNode) (n : CodeNode) → new ≡ old ++ n ∷ [] → IsBackward 0 old → IsBelow (length old) n.next → IsOpBelow (length old) n.op → Grown old new
grown_push old new n e h a b =
    let z : length old ≡ 0 + length old = omega arith in
    record {
      back = subst (IsBackward 0) (sym e) (backward_push 0 old n h (subst (λ (t : ℕ). IsBelow t n.next) z a) (subst (λ (t : ℕ). IsOpBelow t n.op) z b));
      more = n ∷ [];
      is = e;
    }

pub pushed_code : (old new : List CodeNode) (n : CodeNode) (i : ℕ) → new ≡ old ++ n ∷ [] → i ≡ length old → code_in (codes_of new) (Some i) ≡ node_code (codes_of old) n
pushed_code old new n i e ei =
    ap (λ (t : ℕ). get_or (codes_of new) t no_stmt) ei ∙ ap (λ (t : List CodeNode). get_or (codes_of t) (length old) no_stmt) e
    ∙ ap (λ (t : List Code). get_or t (length old) no_stmt) (codes_from_append [] old (n ∷ []))
    ∙ get_or_end (codes_of old) (node_code (codes_of old) n) (length old) no_stmt (sym (length-codes_of old))

-- ---- the block from an index on: its statement, and the block after it

code_suc : (stmts : List Stmt) (j : ℕ) (s : Stmt) → j < length stmts → s ≡ get_or stmts j s → code_of (drop j stmts) ≡ stmt_then (stmt_of s) (code_of (drop (suc j) stmts))
code_suc [] j s h e = absurd (omega arith)
code_suc (x ∷ xs) zero s h e = ap (λ (t : Stmt). stmt_then (stmt_of t) (code_of xs)) (sym e)
code_suc (x ∷ xs) (suc j) s h e = code_suc xs j s (omega arith) e

pub code_before : (stmts : List Stmt) (a : ℕ) (s : Stmt) → 0 < a → a ≤ length stmts → s ≡ get_or stmts (a - 1) s → code_of (drop (a - 1) stmts) ≡ stmt_then (stmt_of s) (code_of (drop a stmts))
code_before stmts a s h l e =
    let same : suc (a - 1) ≡ a = omega arith in
    code_suc stmts (a - 1) s (omega arith) e ∙ ap (λ (t : ℕ). stmt_then (stmt_of s) (code_of (drop t stmts))) same

pub then_same : (l : ℕ) (x y : DeedAt) (c d : Code) → x ≡ y → c ≡ d → stmt_then (at l x) c ≡ stmt_then (at l y) d
then_same l x y c d ex ec = λ i. stmt_then (at l (ex i)) (ec i)

-- ---- arms, one after another

pub arms_push : (codes : List Code) (arms : List ArmAt) (a : ArmAt) (bs : List (ℕ × Code)) → arms_in codes arms ≡ branches_of bs → arms_in codes (arms ++ a ∷ []) ≡ branches_of (bs ++ (a.label, code_in codes a.body) ∷ [])
arms_push codes [] a [] e = refl
arms_push codes [] a (b ∷ bs) e = cc
arms_push codes (x ∷ arms) a [] e = cc
arms_push codes (x ∷ arms) a (b ∷ bs) e =
    let label : x.label ≡ b.0 = cc in
    let body : code_in codes x.body ≡ b.1 = cc in
    let rest : arms_in codes arms ≡ branches_of bs = cc in
    λ i. branch (label i) (body i) (arms_push codes arms a bs rest i)

pub below_push : (k : ℕ) (arms : List ArmAt) (a : ArmAt) → AreBelow k arms → IsBelow k a.body → AreBelow k (arms ++ a ∷ [])
below_push k [] a h b = (b, tt)
below_push k (x ∷ arms) a h b = (h.0, below_push k arms a h.1 b)

map_take_suc : (f : StmtArm → ℕ × Code) (xs : List StmtArm) (i : ℕ) (x : StmtArm) → i < length xs → x ≡ get_or xs i x → map f (take (suc i) xs) ≡ map f (take i xs) ++ f x ∷ []
map_take_suc f [] i x lt e = absurd (omega arith)
map_take_suc f (y ∷ xs) zero x lt e = ap (λ t. f t ∷ []) (sym e)
map_take_suc f (y ∷ xs) (suc i) x lt e = ap (λ t. f y ∷ t) (map_take_suc f xs i x (omega arith) e)

pub map_take_next : (f : StmtArm → ℕ × Code) (xs : List StmtArm) (i : ℕ) (x : StmtArm) → i < length xs → x ≡ get_or xs i x → map f (take (i + 1) xs) ≡ map f (take i xs) ++ f x ∷ []
map_take_next f xs i x lt e = subst (λ (j : ℕ). map f (take j xs) ≡ map f (take i xs) ++ f x ∷ []) (let s : suc i ≡ i + 1 = omega arith in s) (map_take_suc f xs i x lt e)
