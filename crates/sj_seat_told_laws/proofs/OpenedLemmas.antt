-- The sessions that were opened, as lines report them.
use Rattle.std.proofs.Common.{◌≡◌, ℕ, zero, suc, ◌+◌, ◌<◌, ◌≤◌, Bool, ◌&&◌, List, [], ◌∷◌, ◌++◌, map, length, decimal, codes, Option, Some, None, is_some, refl, ap, sym, ◌∙◌, arith}
use Rattle.std.specs.List.{list_all}
use Rattle.std.proofs.lemmas.List.{map-append}
use Rattle.sj_lang.specs.FileAt.{FileAt}
use Rattle.sj_semantics.specs.declared.Opened.{Opened}
use Rattle.sj_semantics.specs.Ends.{Session}
use Rattle.sj_semantics.specs.Requests.{Request, Requests, limit_of_requests, opened_by, opened_from, opened_number}
use Rattle.sj_semantics.specs.State.{is_accepted}
use Rattle.sj_semantics.specs.Transcript.{end_lines, end_text, line_of, name_of}
use Rattle.sj_rules.specs.Log.{LineAt}
use Rattle.sj_seat_told_laws.specs.SeatsOpened.{RequestTold, accepted_end_text, accepted_if, is_accepted_in, opened_ends_line, opened_ends_lines, requests_told, sessions_told, told_session, unnamed}
use Rattle.sj_seat_told_laws.proofs.RequestLemmas.{accepted_at, numbered}

-- ---- of one party, from its number k on

told_by : (lines : List LineAt) (a k : ℕ) (rs : List Request) → k + length rs ≤ limit_of_requests
    → ((j : ℕ) → k + j < limit_of_requests → accepted_at rs j ≡ is_accepted_in (opened_number a (k + j)) lines) → map unnamed (opened_by a k rs) ≡ map (told_session lines a) (numbered a k rs)
told_by lines a k [] few each = refl
told_by lines a k (r ∷ rs) few each =
    let most : k + suc (length rs) ≤ 100 = few in
    let here : is_some r.second ≡ is_accepted_in (opened_number a k) lines =
    each 0 (let it : k + 0 < 100 = omega (arith, most) in it) ∙ ap (λ (n : ℕ). is_accepted_in (opened_number a n) lines) (let e : k + 0 ≡ k = omega arith in e) in
    let rest = told_by lines a (k + 1) rs (let it : k + 1 + length rs ≤ 100 = omega (arith, most) in it) (λ j lt.
    let same : k + suc j ≡ k + 1 + j = omega arith in
    let within : k + 1 + j < 100 = lt in
    each (suc j) (let it : k + suc j < 100 = omega (arith, within) in it) ∙ ap (λ (n : ℕ). is_accepted_in (opened_number a n) lines) same) in
    let head : Bool → Opened = λ b. record { sess = opened_number a k; from = a; first = 0; to = r.to; second = accepted_if b } in
    λ i. head (here i) ∷ rest i

module _ (lines : List LineAt) (all : Requests) (requests : (a : ℕ) → numbered a 0 (all a) ≡ requests_told a lines)
    (accepts : (a k : ℕ) → k < limit_of_requests → accepted_at (all a) k ≡ is_accepted_in (opened_number a k) lines) (few : (a : ℕ) → length (all a) ≤ limit_of_requests) where
  one_told : (a : ℕ) → map unnamed (opened_by a 0 (all a)) ≡ map (told_session lines a) (requests_told a lines)
  one_told a =
      let most : length (all a) ≤ 100 = few a in
      told_by lines a 0 (all a) (let it : 0 + length (all a) ≤ 100 = omega (arith, most) in it) (λ j lt.
      let same : j ≡ 0 + j = omega arith in
      let within : 0 + j < 100 = lt in
      accepts a j (let it : j < 100 = omega (arith, within) in it) ∙ ap (λ (n : ℕ). is_accepted_in (opened_number a n) lines) same)
      ∙ ap (map (told_session lines a)) (requests a)

  -- those of so many parties
  pub all_told : (n p : ℕ) → map unnamed (opened_from all n p) ≡ sessions_told lines n p
  all_told zero p = refl
  all_told (suc n) p =
      map-append unnamed (opened_by p 0 (all p)) (opened_from all n (p + 1))
      ∙ (let one = one_told p in let rest = all_told n (p + 1) in λ i. one i ++ rest i)

-- ---- their lines, and whether each was accepted, rest on no name

unnamed_end : (s : ℕ) (o : Option ℕ) → accepted_end_text s (accepted_if (is_some o)) ≡ accepted_end_text s o
unnamed_end s None = refl
unnamed_end s (Some y) = refl

unnamed_accepted : (o : Option ℕ) → is_some (accepted_if (is_some o)) ≡ is_some o
unnamed_accepted None = refl
unnamed_accepted (Some y) = refl

pub unnamed_lines : (file : FileAt) (zs : List Session) (os : List Opened) → opened_ends_lines file zs (map unnamed os) ≡ opened_ends_lines file zs os
unnamed_lines file zs [] = refl
unnamed_lines file zs (o ∷ os) =
    let text = unnamed_end o.sess o.second in
    let line : opened_ends_line file (unnamed o) ≡ opened_ends_line file o =
    ap (λ (x : List ℕ). line_of (codes "session" ∷ decimal o.sess ∷ name_of file o.from ∷ end_text o.sess 0 ∷ name_of file o.to ∷ x ∷ [])) text in
    let rest = unnamed_lines file zs os in
    λ i. line i ++ end_lines file zs (record { sess = o.sess; side = 0 }) ++ end_lines file zs (record { sess = o.sess; side = 1 }) ++ rest i

pub all_accepted : (os : List Opened) → list_all is_accepted (map unnamed os) ≡ list_all is_accepted os
all_accepted [] = refl
all_accepted (o ∷ os) = let here = unnamed_accepted o.second in let rest = all_accepted os in λ i. here i && rest i
