-- What a party has at the start.
use Rattle.std.proofs.Common.{◌≡◌, ℕ, zero, suc, ◌+◌, ◌<◌, ◌≤◌, drop, take, map, List, [], ◌∷◌, ◌++◌, length, get_or, slice_index_or, ap, sym, subst, ◌∙◌, arith, append_assoc}
use Rattle.sj_base.specs.declared.EndId.{EndId}
use Rattle.sj_lang.specs.declared.file.Connect.{Connect}
use Rattle.sj_lang.specs.FileAt.{FileAt, end_of_party, ends_from}
use Rattle.sj_lang.specs.FileView.{connect_of}
use Rattle.sj_machine.specs.Names.{AreBelowName}

ends_suc : (file : FileAt) (p n : ℕ) (cs : List Connect) (i : ℕ) (c : Connect) → i < length cs → c ≡ get_or cs i c
    → ends_from file p n (map connect_of (drop i cs)) ≡ end_of_party file p (connect_of c).first (record { sess = n; side = 0 }) ++ end_of_party file p (connect_of c).second (record { sess = n; side = 1 }) ++ ends_from file p (n + 1) (map connect_of (drop (suc i) cs))
ends_suc file p n [] i c lt e = absurd (omega arith)
ends_suc file p n (x ∷ cs) zero c lt e = ap (λ (t : Connect). end_of_party file p (connect_of t).first (record { sess = n; side = 0 }) ++ end_of_party file p (connect_of t).second (record { sess = n; side = 1 }) ++ ends_from file p (n + 1) (map connect_of cs)) (sym e)
ends_suc file p n (x ∷ cs) (suc i) c lt e = ends_suc file p n cs i c (omega arith) e

-- the ends of one more connection, and of those after it
pub ends_next : (file : FileAt) (p : ℕ) (cs : List Connect) (i : ℕ) (c : Connect) (old mid new all : List (ℕ × EndId)) → i < length cs → c ≡ get_or cs i c
    → mid ≡ old ++ end_of_party file p (connect_of c).first (record { sess = i; side = 0 })
    → new ≡ mid ++ end_of_party file p (connect_of c).second (record { sess = i; side = 1 })
    → old ++ ends_from file p i (map connect_of (drop i cs)) ≡ all
    → new ++ ends_from file p (i + 1) (map connect_of (drop (i + 1) cs)) ≡ all
ends_next file p cs i c old mid new all lt e em en so_far =
    let first : List (ℕ × EndId) = end_of_party file p (connect_of c).first (record { sess = i; side = 0 }) in
    let second : List (ℕ × EndId) = end_of_party file p (connect_of c).second (record { sess = i; side = 1 }) in
    let more : List (ℕ × EndId) = ends_from file p (i + 1) (map connect_of (drop (i + 1) cs)) in
    let next : ends_from file p i (map connect_of (drop i cs)) ≡ first ++ second ++ more =
    subst (λ (j : ℕ). ends_from file p i (map connect_of (drop i cs)) ≡ first ++ second ++ ends_from file p (i + 1) (map connect_of (drop j cs))) (let s : suc i ≡ i + 1 = omega arith in s) (ends_suc file p i cs i c lt e) in
    ap (λ (t : List (ℕ × EndId)). t ++ more) (en ∙ ap (λ (t : List (ℕ × EndId)). t ++ second) em)
    ∙ append_assoc (old ++ first) second more ∙ append_assoc old first (second ++ more)
    ∙ ap (λ (t : List (ℕ × EndId)). old ++ t) (sym (append_assoc first second more))
    ∙ ap (λ (t : List (ℕ × EndId)). old ++ t) (sym next) ∙ so_far

below_suc : (a b : ℕ) (es : List (ℕ × EndId)) (i : ℕ) (d : ℕ × EndId) → a ≤ b → i < length es → (slice_index_or es i d).0 < b → AreBelowName a (take i es) → AreBelowName b (take (suc i) es)
below_suc a b [] i d l lt here h = absurd (omega arith)
below_suc a b (e ∷ es) zero d l lt here h = (here, tt)
below_suc a b (e ∷ es) (suc i) d l lt here h = (let u = h.0 in omega arith, below_suc a b es i d l (omega arith) here h.1)

pub names_next : (a b : ℕ) (es : List (ℕ × EndId)) (i : ℕ) (d : ℕ × EndId) → a ≤ b → i < length es → (slice_index_or es i d).0 < b → AreBelowName a (take i es) → AreBelowName b (take (i + 1) es)
names_next a b es i d l lt here h = subst (λ (j : ℕ). AreBelowName b (take j es)) (let s : suc i ≡ i + 1 = omega arith in s) (below_suc a b es i d l lt here h)
