-- A text that grows piece by piece.
use Rattle.std.proofs.Common.{◌≡◌, ℕ, List, ◌++◌, Result, Ok, Err, OnOk, ap, ◌∙◌, append_assoc}

-- the next part is there, and the rest is what it was
pub go_on : (now part rest new whole : List ℕ) → now ++ (part ++ rest) ≡ whole → new ≡ now ++ part → new ++ rest ≡ whole
go_on now part rest new whole h e = ap (λ t. t ++ rest) e ∙ append_assoc now part rest ∙ h

-- five parts, one after another
module _ (t0 a b c d e t1 t2 t3 t4 : List ℕ) (ea : t1 ≡ t0 ++ a) (eb : t2 ≡ t1 ++ b) (ec : t3 ≡ t2 ++ c) (ed : t4 ≡ t3 ++ d) where
  pub five : (t5 : List ℕ) → t5 ≡ t4 ++ e → t5 ≡ t0 ++ (a ++ (b ++ (c ++ (d ++ e))))
  five t5 ee =
      ee ∙ ap (λ t. t ++ e) ed ∙ append_assoc t3 d e ∙ ap (λ t. t ++ (d ++ e)) ec ∙ append_assoc t2 c (d ++ e)
      ∙ ap (λ t. t ++ (c ++ (d ++ e))) eb ∙ append_assoc t1 b (c ++ (d ++ e)) ∙ ap (λ t. t ++ (b ++ (c ++ (d ++ e)))) ea ∙ append_assoc t0 a (b ++ (c ++ (d ++ e)))

  pub five_ok : {X E : Type 0} (r : Result X E) (t5 : List ℕ) → OnOk r (t5 ≡ t4 ++ e) → OnOk r (t5 ≡ t0 ++ (a ++ (b ++ (c ++ (d ++ e)))))
  five_ok (Ok x) t5 ee = five t5 ee
  five_ok (Err x) t5 ee = tt

-- three parts, one after another
three : (t0 a b c t1 t2 t3 : List ℕ) → t1 ≡ t0 ++ a → t2 ≡ t1 ++ b → t3 ≡ t2 ++ c → t3 ≡ t0 ++ (a ++ (b ++ c))
three t0 a b c t1 t2 t3 ea eb ec = ec ∙ ap (λ t. t ++ c) eb ∙ append_assoc t1 b c ∙ ap (λ t. t ++ (b ++ c)) ea ∙ append_assoc t0 a (b ++ c)

pub three_ok : {X E : Type 0} (r : Result X E) (t0 a b c t1 t2 t3 : List ℕ) → t1 ≡ t0 ++ a → t2 ≡ t1 ++ b → OnOk r (t3 ≡ t2 ++ c) → OnOk r (t3 ≡ t0 ++ (a ++ (b ++ c)))
three_ok (Ok x) t0 a b c t1 t2 t3 ea eb ec = three t0 a b c t1 t2 t3 ea eb ec
three_ok (Err x) t0 a b c t1 t2 t3 ea eb ec = tt
