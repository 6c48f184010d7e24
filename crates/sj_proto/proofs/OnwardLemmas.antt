-- Readers that advance.
use Rattle.std.proofs.Common.{◌≡◌, ℕ, ◌+◌, ◌-◌, ◌≤◌, List, ◌++◌, length, drop, refl, ap, sym, ◌∙◌, arith, length-append, length-drop}
use Rattle.std.proofs.lemmas.List.{take-append-drop, drop-drop, drop_at}
use Rattle.sj_grammar.specs.Reading.{Reading}
use Rattle.sj_proto.specs.Onward.{Advances}
use Rattle.sj_proto.proofs.PositionLemmas.{reading_at}

-- one call after another
pub advances_on : {a b c : Reading} → Advances a b → Advances b c → Advances a c
advances_on h k = record { text = k.text ∙ h.text; onward = omega (arith, h.onward, k.onward) }

pub advances_none : (a : Reading) → Advances a a
advances_none a = record { text = refl; onward = omega arith }

-- to a later position of the same bytes
pub place_advances : (xs : List ℕ) (at to : ℕ) → at ≤ to → to ≤ length xs → Advances (reading_at xs at) (reading_at xs to)
place_advances xs at to later within = record {
  text = take-append-drop to xs ∙ sym (take-append-drop at xs);
  onward = omega (arith, length-drop at xs, length-drop to xs);
}

-- what is ahead was ahead before, but for what was read between
pub still_ahead : (r q : Reading) → Advances r q → q.ahead ≡ drop (length q.before - length r.before) r.ahead
still_ahead r q h =
    let n = length r.before in
    let more = length q.before - n in
    let whole : length (q.before ++ q.ahead) ≡ length (r.before ++ r.ahead) = ap length h.text in
    let far : length q.before ≡ n + more = omega (arith, whole, length-append q.before q.ahead, length-append r.before r.ahead, h.onward) in
    sym (drop_at q.before q.ahead (length q.before) refl)
    ∙ ap (drop (length q.before)) h.text
    ∙ ap (λ k. drop k (r.before ++ r.ahead)) far
    ∙ sym (drop-drop more n (r.before ++ r.ahead))
    ∙ ap (drop more) (drop_at r.before r.ahead n refl)
