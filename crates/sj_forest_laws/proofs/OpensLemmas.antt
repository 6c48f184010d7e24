-- No request or accept is found exactly where a file opens no session.
use Rattle.std.proofs.Common.{◌≡◌, ℕ, zero, suc, List, [], ◌∷◌, ◌++◌, slice_get, Some, None, refl, ap, ap₂, sym, ◌∙◌, subst}
use Rattle.sj_lang.specs.Code.{Code, DeedAt, Branches, no_stmt, stmt_then, at, send, delegate, take_value, take_end, outbranch, inbranch, outwhile, inwhile, relay, if_else, let_be, close, request, accept, no_branch, branch}
use Rattle.sj_lang.specs.FileAt.{FileAt, PartyAt}
use Rattle.sj_acceptance.specs.Openings.{OpeningAt, found_in, found_inside, found_in_arms}
use Rattle.sj_semantics_laws.specs.Openless.{OpensNone, DeedOpensNone, ArmsOpenNone, IsOpenless}
use Rattle.sj_forest_laws.specs.Forest.{IsForest}
use Rattle.sj_forest_laws.specs.Opens.{as_opening, openings_of, first_line, first_opening}

none_in : (xs ys : List OpeningAt) → xs ++ ys ≡ [] → (xs ≡ []) × (ys ≡ [])
none_in [] ys h = (refl, h)
none_in (x ∷ xs) ys h = cc

none_of_both : (xs ys : List OpeningAt) → xs ≡ [] → ys ≡ [] → xs ++ ys ≡ []
none_of_both xs ys h k = ap₂ (λ as' bs. as' ++ bs) h k

mutual
  block_opens_none : (code : Code) → found_in as_opening code ≡ [] → OpensNone code
  block_opens_none no_stmt h = tt
  block_opens_none (stmt_then (at line act) code) h =
      let parts = none_in (as_opening line act ++ found_inside as_opening act) (found_in as_opening code) h in
      (deed_opens_none line act parts.0, block_opens_none code parts.1)

  deed_opens_none : (line : ℕ) (act : DeedAt) → as_opening line act ++ found_inside as_opening act ≡ [] → DeedOpensNone act
  deed_opens_none line (request x p b) h = cc
  deed_opens_none line (accept x p b) h = cc
  deed_opens_none line (inbranch x arms) h = arms_open_none arms h
  deed_opens_none line (outwhile x e body) h = block_opens_none body h
  deed_opens_none line (inwhile x body) h = block_opens_none body h
  deed_opens_none line (relay x y body) h = block_opens_none body h
  deed_opens_none line (if_else e first second) h =
      let parts = none_in (found_in as_opening first) (found_in as_opening second) h in
      (block_opens_none first parts.0, block_opens_none second parts.1)
  deed_opens_none line (send x e) h = tt
  deed_opens_none line (delegate x y) h = tt
  deed_opens_none line (take_value x n k) h = tt
  deed_opens_none line (take_end x y p) h = tt
  deed_opens_none line (outbranch x l) h = tt
  deed_opens_none line (let_be n e) h = tt
  deed_opens_none line (close x) h = tt

  arms_open_none : (arms : Branches) → found_in_arms as_opening arms ≡ [] → ArmsOpenNone arms
  arms_open_none no_branch h = tt
  arms_open_none (branch l code arms) h =
      let parts = none_in (found_in as_opening code) (found_in_arms as_opening arms) h in
      (block_opens_none code parts.0, arms_open_none arms parts.1)

mutual
  none_in_block : (code : Code) → OpensNone code → found_in as_opening code ≡ []
  none_in_block no_stmt h = refl
  none_in_block (stmt_then (at line act) code) h =
      none_of_both (as_opening line act ++ found_inside as_opening act) (found_in as_opening code) (none_in_deed line act h.0) (none_in_block code h.1)

  none_in_deed : (line : ℕ) (act : DeedAt) → DeedOpensNone act → as_opening line act ++ found_inside as_opening act ≡ []
  none_in_deed line (request x p b) h = absurd h
  none_in_deed line (accept x p b) h = absurd h
  none_in_deed line (inbranch x arms) h = none_in_arms arms h
  none_in_deed line (outwhile x e body) h = none_in_block body h
  none_in_deed line (inwhile x body) h = none_in_block body h
  none_in_deed line (relay x y body) h = none_in_block body h
  none_in_deed line (if_else e first second) h = none_of_both (found_in as_opening first) (found_in as_opening second) (none_in_block first h.0) (none_in_block second h.1)
  none_in_deed line (send x e) h = refl
  none_in_deed line (delegate x y) h = refl
  none_in_deed line (take_value x n k) h = refl
  none_in_deed line (take_end x y p) h = refl
  none_in_deed line (outbranch x l) h = refl
  none_in_deed line (let_be n e) h = refl
  none_in_deed line (close x) h = refl

  none_in_arms : (arms : Branches) → ArmsOpenNone arms → found_in_arms as_opening arms ≡ []
  none_in_arms no_branch h = refl
  none_in_arms (branch l code arms) h = none_of_both (found_in as_opening code) (found_in_arms as_opening arms) (none_in_block code h.0) (none_in_arms arms h.1)

parties_open_none : (qs : List PartyAt) → openings_of qs ≡ [] → (p : ℕ) (q : PartyAt) → slice_get qs p ≡ Some q → OpensNone q.code
parties_open_none [] h p q there = cc
parties_open_none (r ∷ qs) h zero q there =
    let it : r ≡ q = cc in
    subst (λ (t : PartyAt). OpensNone t.code) it (block_opens_none r.code (none_in (found_in as_opening r.code) (openings_of qs) h).0)
parties_open_none (r ∷ qs) h (suc p) q there = parties_open_none qs (none_in (found_in as_opening r.code) (openings_of qs) h).1 p q there

none_in_parties : (qs : List PartyAt) → ((p : ℕ) (q : PartyAt) → slice_get qs p ≡ Some q → OpensNone q.code) → openings_of qs ≡ []
none_in_parties [] h = refl
none_in_parties (r ∷ qs) h = none_of_both (found_in as_opening r.code) (openings_of qs) (none_in_block r.code (h 0 r refl)) (none_in_parties qs (λ p q there. h (suc p) q there))

no_line : (os : List OpeningAt) → first_line os ≡ None → os ≡ []
no_line [] h = refl
no_line (o ∷ os) h = cc

pub openless_from : (file : FileAt) → first_opening file ≡ None → IsOpenless file
openless_from file h = record { none = parties_open_none file.parties (no_line (openings_of file.parties) h) }

pub none_is_first : (file : FileAt) → IsOpenless file → first_opening file ≡ None
none_is_first file openless = ap first_line (none_in_parties file.parties openless.none)

-- a file that opens a session is no forest
pub opens_is_no_forest : (file : FileAt) (line : ℕ) → first_opening file ≡ Some line → IsForest file → ⊥
opens_is_no_forest file line h forest = let clash : None ≡ Some line = sym (none_is_first file forest.openless) ∙ h in cc
