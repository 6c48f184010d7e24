-- Flags and names of ends, as `NumberLemmas`.
use Rattle.std.proofs.Common.{◌≡◌, ℕ, zero, suc, ◌^◌, ◌<◌, ◌≤◌, Bool, true, false, eqb, List, ◌++◌, Some, None, refl, ap, subst, ◌∙◌, append_assoc, arith}
use Rattle.sj_base.specs.declared.EndId.{EndId}
use Rattle.sj_wire.specs.Spelling.{number, flag, end_id}
use Rattle.sj_wire.specs.Reading.{Field, made, flag_at, end_id_at}
use Rattle.sj_wire.proofs.NumberLemmas.{IsBytes, bind_some, some_is, Takes, then_takes, wide1, wide4, number_takes, number_again, limited_takes, limited_again}

-- what a reader made of what it took
pub made_some : {A B : Type 0} (f : A → B) {r : Field A} {y : B × List ℕ} → made f r ≡ Some y → (x : A × List ℕ) × (r ≡ Some x) × ((f x.0, x.1) ≡ y)
made_some f {r = Some x} e = (x, refl, some_is e)
made_some f {r = None} e = absurd cc

is_one : (n : ℕ) → n ≤ 1 → number 1 n ≡ flag (eqb n 1)
unfolding flag
is_one zero le = refl
is_one (suc zero) le = refl
is_one (suc (suc n)) le = absurd (omega arith)

pub flag_takes : {bytes : List ℕ} {x : Bool × List ℕ} → IsBytes bytes → flag_at bytes ≡ Some x → Takes bytes (flag x.0) x.1
unfolding flag_at
flag_takes {bytes} {x} fits e =
    let b = bind_some e in
    let t = limited_takes wide1 fits b.1 in
    subst (λ (y : Bool × List ℕ). Takes bytes (flag y.0) y.1) (some_is b.2) (subst (λ (s : List ℕ). Takes bytes s b.0.1) (is_one b.0.0 t.1) t.0)

pub flag_again : (b : Bool) (rest : List ℕ) → flag_at (flag b ++ rest) ≡ Some (b, rest)
unfolding flag_at flag
flag_again true rest = rw (limited_again 1 1 1 rest (omega arith) (omega arith)) refl
flag_again false rest = rw (limited_again 1 1 0 rest (omega arith) (omega arith)) refl

pub end_id_takes : {bytes : List ℕ} {x : EndId × List ℕ} → IsBytes bytes → end_id_at bytes ≡ Some x → Takes bytes (end_id x.0) x.1 × (x.0.sess < 2 ^ 32) × (x.0.side ≤ 1)
unfolding end_id_at end_id
end_id_takes {bytes} {x} fits e =
    let a = bind_some e in
    let ta = number_takes wide4 fits a.1 in
    let b = bind_some a.2 in
    let tb = limited_takes wide1 ta.0.fits b.1 in
    subst (λ (y : EndId × List ℕ). Takes bytes (number 4 y.0.sess ++ number 1 y.0.side) y.1 × (y.0.sess < 2 ^ 32) × (y.0.side ≤ 1)) (some_is b.2)
    (then_takes ta.0 tb.0, omega (arith, ta.1), tb.1)

pub end_id_again : (e : EndId) (rest : List ℕ) → e.sess < 2 ^ 32 → e.side ≤ 1 → end_id_at (end_id e ++ rest) ≡ Some (e, rest)
unfolding end_id_at end_id
end_id_again e rest sess side =
    let parts : end_id e ++ rest ≡ number 4 e.sess ++ (number 1 e.side ++ rest) = append_assoc (number 4 e.sess) (number 1 e.side) rest in
    ap end_id_at parts ∙ rw (number_again 4 e.sess (number 1 e.side ++ rest) (omega arith), limited_again 1 1 e.side rest side (omega arith)) refl
