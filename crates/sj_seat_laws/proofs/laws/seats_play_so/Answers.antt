use Rattle.std.proofs.Common.{◌≡◌, ℕ, zero, suc, List, [], ◌∷◌, Option, Some, None, unwrap_or, refl, ap, sym, ◌∙◌}
use Rattle.sj_seat_laws.specs.Calls.{Ends, SeatedAt, place_held}
use Rattle.sj_lang.specs.FileAt.{FileAt}
use Rattle.sj_seat_laws.specs.SeatSamples.{accepter, both, both_open, first, requester, second}
use Rattle.sj_seat_laws.specs.Resting.{HoldsNoOpenEnd}
use Rattle.sj_seat_laws.specs.SeatsStart.{Callers, seats_start}
use Rattle.sj_seat_laws.specs.SeatsWorld.{SeatsWorld, after_seats, seat_of}
use Rattle.sj_semantics_laws.specs.OpeningSamples.{accepted}
use Rattle.sj_semantics_laws.specs.Samples.{greeting}
use Rattle.sj_seat_laws.proofs.laws.seats_play_so.Goals as goal

-- the world after these acts
abbrev last : FileAt → Callers → List ℕ → SeatsWorld
last file calls acts = unwrap_or (after_seats (seats_start file calls) acts) (seats_start file calls)

-- whoever holds nothing
abbrev ends_in : Option SeatedAt → Ends
ends_in None = []
ends_in (Some s) = s.ends

holds_none : (o : Option SeatedAt) → ends_in o ≡ [] → (s : SeatedAt) → o ≡ Some s → HoldsNoOpenEnd s
holds_none o none s at e place h =
    let empty : s.ends ≡ [] = sym (ap ends_in at) ∙ none in
    let clash : None ≡ Some place = sym (ap (λ bs. place_held bs e) empty) ∙ h in absurd (cc clash)

two_hold_none : (a b : Option SeatedAt) → ends_in a ≡ [] → ends_in b ≡ [] → (q : ℕ) (s : SeatedAt) → seat_of (a ∷ b ∷ []) q ≡ Some s → HoldsNoOpenEnd s
two_hold_none a b none no_more zero s at = holds_none a none s at
two_hold_none a b none no_more (suc zero) s at = holds_none b no_more s at
two_hold_none a b none no_more (suc (suc q)) s at = absurd (cc at)

pub returns-clause-first : goal.returns-clause-first
returns-clause-first c = (last greeting first (0 ∷ 1 ∷ 0 ∷ 1 ∷ []), refl, record { others = refl; codes = two_hold_none _ _ refl refl })

pub returns-clause-second : goal.returns-clause-second
returns-clause-second c = (last greeting second (0 ∷ 1 ∷ 1 ∷ 0 ∷ []), refl, record { others = refl; codes = two_hold_none _ _ refl refl })

pub returns-clause-both : goal.returns-clause-both
returns-clause-both c = (last greeting both (0 ∷ 1 ∷ 0 ∷ 1 ∷ []), refl, record { others = refl; codes = two_hold_none _ _ refl refl })

pub returns-clause-unguarded : goal.returns-clause-unguarded
returns-clause-unguarded c = refl

pub returns-clause-waits : goal.returns-clause-waits
returns-clause-waits c = refl

pub returns-clause-requester : goal.returns-clause-requester
returns-clause-requester c = (last accepted requester (0 ∷ 1 ∷ 0 ∷ 1 ∷ 0 ∷ 1 ∷ []), refl, record { others = refl; codes = two_hold_none _ _ refl refl })

pub returns-clause-accepter : goal.returns-clause-accepter
returns-clause-accepter c = (last accepted accepter (0 ∷ 0 ∷ 1 ∷ 1 ∷ 1 ∷ 0 ∷ []), refl, record { others = refl; codes = two_hold_none _ _ refl refl })

pub returns-clause-both_open : goal.returns-clause-both_open
returns-clause-both_open c = (last accepted both_open (0 ∷ 0 ∷ 0 ∷ 1 ∷ 1 ∷ 1 ∷ []), refl, record { others = refl; codes = two_hold_none _ _ refl refl })

pub returns-clause-other_protocol : goal.returns-clause-other_protocol
returns-clause-other_protocol c = refl

pub returns-clause-unoffered : goal.returns-clause-unoffered
returns-clause-unoffered c = refl
