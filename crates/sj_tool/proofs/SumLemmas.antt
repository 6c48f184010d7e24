-- Sums over the sessions and the parties of a world, one after another.
use Rattle.std.proofs.Common.{◌≡◌, ◌∙◌, ◌<◌, ◌+◌, ℕ, zero, suc, List, [], ◌∷◌, Some, option_map, length, drop, ap, add-one, arith}
use Rattle.std.proofs.lemmas.List.Sums.{sum_by-cons}
use Rattle.std.specs.Prelude.{slice_get, sum_by}
use Rattle.sj_base.specs.declared.EndId.{EndId}
use Rattle.sj_semantics.specs.Ends.{Session, end_at}
use Rattle.sj_semantics.specs.Program.{Program}

abbrev sent_in : Session → ℕ
sent_in z = length z.first.sent + length z.second.sent

abbrev pub end_of_side : ℕ → ℕ → EndId
end_of_side sess side = record { sess = sess; side = side }

session_suc : (zs : List Session) (i : ℕ) → i < length zs
    → sum_by sent_in (drop i zs) ≡ (length (end_at zs (end_of_side i 0)).sent + length (end_at zs (end_of_side i 1)).sent) + sum_by sent_in (drop (suc i) zs)
session_suc [] i h = absurd (omega (arith, h))
session_suc (z ∷ zs) zero h = sum_by-cons sent_in z zs
session_suc (z ∷ zs) (suc i) h = session_suc zs i (omega (arith, h))

-- the sessions ahead are the next one and those after it
pub session_more : (zs : List Session) (i c a b : ℕ) → i < length zs → c + sum_by sent_in (drop i zs) ≡ sum_by sent_in zs
    → a ≡ c + length (end_at zs (end_of_side i 0)).sent → b ≡ a + length (end_at zs (end_of_side i 1)).sent → b + sum_by sent_in (drop (i + 1) zs) ≡ sum_by sent_in zs
session_more zs i c a b h so_far first second =
    let next = session_suc zs i h in
    let same = ap (λ k. sum_by sent_in (drop k zs)) (add-one i) in
    omega (arith, so_far, first, second, next, same)

program_suc : (gs : List Program) (i n : ℕ) → option_map (λ g. g.steps) (slice_get gs i) ≡ Some n → sum_by (λ g. g.steps) (drop i gs) ≡ n + sum_by (λ g. g.steps) (drop (suc i) gs)
program_suc [] i n h = cc
program_suc (g ∷ gs) zero n h = let it : g.steps ≡ n = cc in sum_by-cons (λ g. g.steps) g gs ∙ ap (λ k. k + sum_by (λ g. g.steps) gs) it
program_suc (g ∷ gs) (suc i) n h = program_suc gs i n h

-- the parties ahead are the next one and those after it
pub program_more : (gs : List Program) (i c n b : ℕ) → c + sum_by (λ g. g.steps) (drop i gs) ≡ sum_by (λ g. g.steps) gs
    → option_map (λ g. g.steps) (slice_get gs i) ≡ Some n → b ≡ c + n → b + sum_by (λ g. g.steps) (drop (i + 1) gs) ≡ sum_by (λ g. g.steps) gs
program_more gs i c n b so_far there more =
    let next = program_suc gs i n there in
    let same = ap (λ k. sum_by (λ g. g.steps) (drop k gs)) (add-one i) in
    omega (arith, so_far, more, next, same)
