-- Ends under different names below a number are no more than that number.
use Rattle.std.proofs.Common.{◌≡◌, ◌≢◌, ℕ, zero, suc, ◌<◌, ◌≤◌, ◌==◌, Bool, true, false, not, cond, List, [], ◌∷◌, ◌++◌, length, refl, ap, sym, subst, ◌∙◌, arith, inl, inr}
use Rattle.std.proofs.lemmas.Bool.{cases_Bool, eqb-true, eqb-false, ne_eqb}
use Rattle.sj_base.specs.declared.EndId.{EndId}
use Rattle.sj_semantics.specs.Program.{ends_without, ends_with}
use Rattle.sj_machine.specs.declared.arena.Op.{Op}
use Rattle.sj_machine.specs.declared.arena.Op.TheVariants.{Send, Delegate, Take, TakeEnd, Select, Branch, OutWhile, InWhile, Relay, If, Let, Close, Request, Accept}
use Rattle.sj_machine.specs.Names.{BindsBelow, Lacks, NamesDiffer, AreBelowName, AreNamedOnce}

without_hit : (e : ℕ × EndId) (es : List (ℕ × EndId)) (n : ℕ) → e.0 == n ≡ true → ends_without (e ∷ es) n ≡ ends_without es n
without_hit e es n h = ap (λ (t : Bool). cond (not t) (e ∷ ends_without es n) (ends_without es n)) h

without_miss : (e : ℕ × EndId) (es : List (ℕ × EndId)) (n : ℕ) → e.0 == n ≡ false → ends_without (e ∷ es) n ≡ e ∷ ends_without es n
without_miss e es n h = ap (λ (t : Bool). cond (not t) (e ∷ ends_without es n) (ends_without es n)) h

lacks_without : (m n : ℕ) (es : List (ℕ × EndId)) → Lacks m es → Lacks m (ends_without es n)
lacks_without m n [] h = tt
lacks_without m n (e ∷ es) h =
    elim (cases_Bool (e.0 == n)) [
      | inl hit ↦ subst (Lacks m) (sym (without_hit e es n hit)) (lacks_without m n es h.1)
      | inr miss ↦ subst (Lacks m) (sym (without_miss e es n miss)) (h.0, lacks_without m n es h.1)
    ]

pub without_lacks : (n : ℕ) (es : List (ℕ × EndId)) → Lacks n (ends_without es n)
without_lacks n [] = tt
without_lacks n (e ∷ es) =
    elim (cases_Bool (e.0 == n)) [
      | inl hit ↦ subst (Lacks n) (sym (without_hit e es n hit)) (without_lacks n es)
      | inr miss ↦ subst (Lacks n) (sym (without_miss e es n miss)) (eqb-false e.0 n miss, without_lacks n es)
    ]

pub once_without : (size n : ℕ) (es : List (ℕ × EndId)) → AreNamedOnce size es → AreNamedOnce size (ends_without es n)
once_without size n [] h = tt
once_without size n (e ∷ es) h =
    elim (cases_Bool (e.0 == n)) [
      | inl hit ↦ subst (AreNamedOnce size) (sym (without_hit e es n hit)) (once_without size n es h.2)
      | inr miss ↦ subst (AreNamedOnce size) (sym (without_miss e es n miss)) (h.0, lacks_without e.0 n es h.1, once_without size n es h.2)
    ]

lacks_append : (m n : ℕ) (x : EndId) (es : List (ℕ × EndId)) → Lacks m es → n ≢ m → Lacks m (es ++ (n, x) ∷ [])
lacks_append m n x [] h ne = (ne, tt)
lacks_append m n x (e ∷ es) h ne = (h.0, lacks_append m n x es h.1 ne)

once_append : (size n : ℕ) (x : EndId) (es : List (ℕ × EndId)) → AreNamedOnce size es → Lacks n es → n < size → AreNamedOnce size (es ++ (n, x) ∷ [])
once_append size n x [] h l lt = (lt, tt, tt)
once_append size n x (e ∷ es) h l lt = (h.0, lacks_append e.0 n x es h.1 (λ q. l.0 (sym q)), once_append size n x es h.2 l.1 lt)

pub once_bound : (size n : ℕ) (x : EndId) (es : List (ℕ × EndId)) → AreNamedOnce size es → n < size → AreNamedOnce size (ends_with es n x)
once_bound size n x es h lt = once_append size n x (ends_without es n) (once_without size n es h) (without_lacks n es) lt

-- ---- how many they are

without_none : (n : ℕ) (es : List (ℕ × EndId)) → Lacks n es → ends_without es n ≡ es
without_none n [] h = refl
without_none n (e ∷ es) h = without_miss e es n (ne_eqb e.0 n h.0) ∙ ap (λ t. e ∷ t) (without_none n es h.1)

length-without : (size n : ℕ) (es : List (ℕ × EndId)) → AreNamedOnce size es → length es ≤ suc (length (ends_without es n))
length-without size n [] h = omega arith
length-without size n (e ∷ es) h =
    elim (cases_Bool (e.0 == n)) [
      | inl hit ↦ omega (arith, ap length (without_hit e es n hit ∙ without_none n es (subst (λ (t : ℕ). Lacks t es) (eqb-true e.0 n hit) h.1)))
      | inr miss ↦ omega (arith, ap length (without_miss e es n miss), length-without size n es h.2)
    ]

under_pred : (size : ℕ) (es : List (ℕ × EndId)) → AreNamedOnce (suc size) es → Lacks size es → AreNamedOnce size es
under_pred size [] h l = tt
under_pred size (e ∷ es) h l = (let a = h.0 in let b = l.0 in omega arith, h.1, under_pred size es h.2 l.1)

none_under : (es : List (ℕ × EndId)) → AreNamedOnce 0 es → length es ≤ 0
none_under [] h = omega arith
none_under (e ∷ es) h = let a = h.0 in absurd (omega arith)

pub once_length : (size : ℕ) (es : List (ℕ × EndId)) → AreNamedOnce size es → length es ≤ size
once_length zero es h = none_under es h
once_length (suc size) es h =
    omega (arith, length-without (suc size) size es h, once_length size (ends_without es size) (under_pred size (ends_without es size) (once_without (suc size) size es h) (without_lacks size es)))

-- one more name has room
pub room_for : (size n : ℕ) (es : List (ℕ × EndId)) → AreNamedOnce size es → n < size → length (ends_without es n) < size
room_for size n es h lt =
    let x : EndId = record { sess = 0; side = 0 } in
    let more : AreNamedOnce size ((n, x) ∷ ends_without es n) = (lt, without_lacks n es, once_without size n es h) in
    omega (arith, once_length size ((n, x) ∷ ends_without es n) more)

pub once_more : (a b : ℕ) (es : List (ℕ × EndId)) → a ≤ b → AreNamedOnce a es → AreNamedOnce b es
once_more a b [] l h = tt
once_more a b (e ∷ es) l h = (let u = h.0 in omega arith, h.1, once_more a b es l h.2)

pub binds_more : (a b : ℕ) (op : Op) → a ≤ b → BindsBelow a op → BindsBelow b op
binds_more a b (Send x e) l h = tt
binds_more a b (Delegate x y) l h = tt
binds_more a b (Take x n k) l h = omega arith
binds_more a b (TakeEnd x n p) l h = omega arith
binds_more a b (Select x m) l h = tt
binds_more a b (Branch x arms) l h = tt
binds_more a b (OutWhile x e body) l h = tt
binds_more a b (InWhile x body) l h = tt
binds_more a b (Relay x y body) l h = tt
binds_more a b (If e first second) l h = tt
binds_more a b (Let n e) l h = omega arith
binds_more a b (Close x) l h = tt
binds_more a b (Request x p q) l h = omega arith
binds_more a b (Accept x p q) l h = omega arith

pub once_from : (size : ℕ) (es : List (ℕ × EndId)) → NamesDiffer es → AreBelowName size es → AreNamedOnce size es
once_from size [] h b = tt
once_from size (e ∷ es) h b = (b.0, h.0, once_from size es h.1 b.1)
