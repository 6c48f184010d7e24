-- The calls that lines tell, one line more.
use Rattle.std.proofs.Common.{◌≡◌, ℕ, Bool, List, [], ◌∷◌, ◌++◌, ap, sym, ◌∙◌, append-nil, append_assoc}
use Rattle.sj_rules.specs.Log.{LineAt}
use Rattle.sj_seat_laws.specs.Calls.{Call}
use Rattle.sj_seats.specs.Calls.{OpenedAs, callers_by, callers_told, calls_in, calls_told, first_calls, no_calls, then_calls}

pub told_more : (opened : OpenedAs) (q : ℕ) (lines : List LineAt) (l : LineAt) → calls_told opened q (lines ++ l ∷ []) ≡ calls_told opened q lines ++ calls_in opened q l
told_more opened q [] l = append-nil (calls_in opened q l)
told_more opened q (k ∷ ks) l = ap (λ cs. calls_in opened q k ++ cs) (told_more opened q ks l) ∙ sym (append_assoc (calls_in opened q k) (calls_told opened q ks) (calls_in opened q l))

-- what was told, then the line's, then those
pub then_more : (opened : OpenedAs) (past : List LineAt) (l : LineAt) (rest : ℕ → List Call) (q : ℕ) → then_calls opened past (first_calls opened l rest) q ≡ then_calls opened (past ++ l ∷ []) rest q
then_more opened past l rest q = sym (append_assoc (calls_told opened q past) (calls_in opened q l) (rest q)) ∙ ap (λ cs. cs ++ rest q) (sym (told_more opened q past l))

-- where nothing more is called
pub callers_end : (seats : ℕ → Bool) (opened : OpenedAs) (lines : List LineAt) → callers_by seats (then_calls opened lines no_calls) ≡ callers_told seats opened lines
callers_end seats opened lines = λ i q. callers_by seats (λ r. append-nil (calls_told opened r lines) i) q

pub callers_same : (seats more : ℕ → Bool) (calls : ℕ → List Call) → ((q : ℕ) → more q ≡ seats q) → callers_by more calls ≡ callers_by seats calls
callers_same seats more calls same = λ i q. callers_by (λ r. same r i) calls q
