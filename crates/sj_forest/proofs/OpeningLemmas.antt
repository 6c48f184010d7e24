-- The first request or accept of statements, arms and parties, from one of them on.
use Rattle.std.proofs.Common.{◌≡◌, ℕ, suc, ◌+◌, ◌<◌, List, [], ◌∷◌, ◌++◌, Vec, map, length, get_or, drop, Option, Some, None, refl, ap, sym, ◌∙◌, add-one, drop-cons}
use Rattle.std.specs.declared.alloc.Global.{Global}
use Rattle.sj_acceptance.specs.Openings.{OpeningAt, found_in, found_inside, found_in_arms}
use Rattle.sj_forest_laws.specs.Opens.{as_opening, first_line, openings_of}
use Rattle.sj_lang.specs.Code as code
use Rattle.sj_lang.specs.Code.{Code, DeedAt, StmtAt}
use Rattle.sj_lang.specs.CodeView.{arm_of, branches_of, code_of, deed_of, stmt_of}
use Rattle.sj_lang.specs.FileView.{party_of}
use Rattle.sj_lang.specs.declared.file.Party.{Party}
use Rattle.sj_lang.specs.declared.party.Deed.{Deed}
use Rattle.sj_lang.specs.declared.party.Deed.TheVariants as deeds
use Rattle.sj_lang.specs.declared.party.Expr.{Expr}
use Rattle.sj_lang.specs.declared.party.Stmt.{Stmt}
use Rattle.sj_lang.specs.declared.party.StmtArm.{StmtArm, out-StmtArm}
use Rattle.sj_lang.proofs.FoldLemmas.{arm_of-fields, deed_of-If, stmt_of-fields}

-- the one line, or where there is none the other
abbrev pub or_else : Option ℕ → Option ℕ → Option ℕ
or_else None other = other
or_else (Some line) other = Some line

first_line-append : (xs ys : List OpeningAt) → first_line (xs ++ ys) ≡ or_else (first_line xs) (first_line ys)
first_line-append [] ys = refl
first_line-append (x ∷ xs) ys = refl

-- what the first of those from one on says of all
pub told_now : (all now head rest : Option ℕ) (line : ℕ) → now ≡ all → now ≡ or_else head rest → Some line ≡ head → Some line ≡ all
told_now all now head rest line all_now split it = ap (λ (h : Option ℕ). or_else h rest) it ∙ sym split ∙ all_now

pub told_later : (all now head rest : Option ℕ) → now ≡ all → now ≡ or_else head rest → None ≡ head → rest ≡ all
told_later all now head rest all_now split it = ap (λ (h : Option ℕ). or_else h rest) it ∙ sym split ∙ all_now

-- ---- one, and those after it

abbrev pub in_code : Code → Option ℕ
in_code c = first_line (found_in as_opening c)

abbrev pub in_deed : ℕ → DeedAt → Option ℕ
in_deed line act = first_line (as_opening line act ++ found_inside as_opening act)

pub stmts_split : (stmts : List Stmt) (i : ℕ) (s : Stmt) → i < length stmts → s ≡ get_or stmts i s → in_code (code_of (drop i stmts)) ≡ or_else (in_deed s.line (deed_of s.deed)) (in_code (code_of (drop (i + 1) stmts)))
stmts_split stmts i s lt there =
    rw add-one
    (ap (λ (ss : List Stmt). in_code (code_of ss)) (drop-cons stmts i s lt)
    ∙ ap (λ (t : Stmt). in_code (code.stmt_then (stmt_of t) (code_of (drop (suc i) stmts)))) (sym there)
    ∙ ap (λ (t : StmtAt). in_code (code.stmt_then t (code_of (drop (suc i) stmts)))) (stmt_of-fields s)
    ∙ first_line-append (as_opening s.line (deed_of s.deed) ++ found_inside as_opening (deed_of s.deed)) (found_in as_opening (code_of (drop (suc i) stmts))))

abbrev pub in_arms : List StmtArm → Option ℕ
in_arms arms = first_line (found_in_arms as_opening (branches_of (map arm_of arms)))

pub arms_split : (arms : List StmtArm) (i : ℕ) (a : StmtArm) (body : List Stmt) → i < length arms → a ≡ get_or arms i a → body ≡ (out-StmtArm a).body.items → in_arms (drop i arms) ≡ or_else (in_code (code_of body)) (in_arms (drop (i + 1) arms))
arms_split arms i a body lt there is =
    rw add-one
    (ap in_arms (drop-cons arms i a lt)
    ∙ ap (λ (b : StmtArm). in_arms (b ∷ drop (suc i) arms)) (sym there)
    ∙ ap (λ (p : ℕ × Code). first_line (found_in_arms as_opening (code.branch p.0 p.1 (branches_of (map arm_of (drop (suc i) arms)))))) (arm_of-fields a)
    ∙ first_line-append (found_in as_opening (code_of (out-StmtArm a).body.items)) (found_in_arms as_opening (branches_of (map arm_of (drop (suc i) arms))))
    ∙ ap (λ (ss : List Stmt). or_else (in_code (code_of ss)) (in_arms (drop (suc i) arms))) (sym is))

abbrev pub in_parties : List Party → Option ℕ
in_parties ps = first_line (openings_of (map party_of ps))

pub parties_split : (ps : List Party) (i : ℕ) (p : Party) (body : List Stmt) → i < length ps → p ≡ get_or ps i p → body ≡ p.body.items → in_parties (drop i ps) ≡ or_else (in_code (code_of body)) (in_parties (drop (i + 1) ps))
parties_split ps i p body lt there is =
    rw add-one
    (ap in_parties (drop-cons ps i p lt)
    ∙ ap (λ (q : Party). in_parties (q ∷ drop (suc i) ps)) (sym there)
    ∙ first_line-append (found_in as_opening (code_of p.body.items)) (openings_of (map party_of (drop (suc i) ps)))
    ∙ ap (λ (ss : List Stmt). or_else (in_code (code_of ss)) (in_parties (drop (suc i) ps))) (sym is))

-- an `if` and its two blocks
pub if_split : (line : ℕ) (deed : Deed) (e : Expr) (a b : Vec Stmt Global) (xs ys : List Stmt) → deed ≡ deeds.If e a b → xs ≡ a.items → ys ≡ b.items → in_deed line (deed_of deed) ≡ or_else (in_code (code_of xs)) (in_code (code_of ys))
if_split line deed e a b xs ys h first second =
    ap (in_deed line) (ap deed_of h ∙ deed_of-If e a b)
    ∙ first_line-append (found_in as_opening (code_of a.items)) (found_in as_opening (code_of b.items))
    ∙ (λ i. or_else (in_code (code_of (sym first i))) (in_code (code_of (sym second i))))
