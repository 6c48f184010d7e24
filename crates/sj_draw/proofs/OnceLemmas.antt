-- The arrows of what is gathered are those of the lines, one for each, in order.
use Rattle.std.proofs.Common.{◌≡◌, ℕ, ◌+◌, Bool, true, false, List, [], ◌∷◌, ◌++◌, map, Option, Some, None, if◌then◌else◌, refl, ap, sym, ◌∙◌, append_assoc, append-nil}
use Rattle.std.proofs.lemmas.List.{map-append}
use Rattle.std.specs.List.{filter_map, cons_option}
use Rattle.sj_draw.specs.Chart.{ArrowAt, ChartAt, Outcome, Gathered, Unread, Beyond, empty, outcome_with, then_on, gathered, is_within, with_line, with_any, with_party, with_session, arrow_of, request_of}
use Rattle.sj_draw.specs.Lines.{DrawnLineAt, Session, Opened, Party, Message, Delivery, Log, Verdict, read}
use Rattle.sj_draw.specs.Told.{ToldAt, told_arrow, told_by, told_in, is_log, HasNoLog}

pub any_arrows : (f : ChartAt) (name : Option (List ℕ)) → (with_any f name).arrows ≡ f.arrows
any_arrows f None = refl
any_arrows f (Some name) = refl

-- one more arrow
pushed : (xs ys : List ArrowAt) (a : ArrowAt) → xs ≡ ys → map told_arrow (xs ++ a ∷ []) ≡ map told_arrow ys ++ told_arrow a ∷ []
pushed xs ys a e = ap (λ zs. map told_arrow (zs ++ a ∷ [])) e ∙ map-append told_arrow ys (a ∷ [])

-- what a line adds
added : (f : ChartAt) (x : DrawnLineAt) → is_log (Some x) ≡ false → map told_arrow (with_line f x).arrows ≡ map told_arrow f.arrows ++ cons_option (told_by (Some x)) []
added f (Session s) h = sym (append-nil (map told_arrow f.arrows))
added f (Opened s) h =
    let g = with_session (with_party (with_party f s.first_party) s.second_party) s in pushed g.arrows f.arrows (arrow_of g (request_of s)) refl
added f (Party name) h = sym (append-nil (map told_arrow f.arrows))
added f (Message p) h = let g = with_any (with_party f p.from) p.to in pushed g.arrows f.arrows (arrow_of g p) (any_arrows (with_party f p.from) p.to)
added f (Delivery p) h = let g = with_party (with_any f p.to) p.from in pushed g.arrows f.arrows (arrow_of g p) (any_arrows f p.to)
added f Log h = absurd (true_is_false h)
  where
    true_is_false : true ≡ false → ⊥
    true_is_false e = cc
added f Verdict h = sym (append-nil (map told_arrow f.arrows))

chart_in : Outcome → ChartAt
chart_in (Gathered f) = f
chart_in (Unread n) = empty
chart_in (Beyond n) = empty

in_front : (o : Option ToldAt) (ts : List ToldAt) → cons_option o [] ++ ts ≡ cons_option o ts
in_front None ts = refl
in_front (Some t) ts = refl

-- what was joined goes on
goes_on : (b : Bool) (k g : ChartAt) (n : ℕ) (next : ChartAt → Outcome) → then_on (if b then Gathered k else Beyond n) next ≡ Gathered g → next k ≡ Gathered g
goes_on true k g n next e = e
goes_on false k g n next e = cc

module _ (f g : ChartAt) (n : ℕ) (next : ChartAt → Outcome) (ts : List ToldAt)
    (and_then : (k : ChartAt) → next k ≡ Gathered g → map told_arrow g.arrows ≡ map told_arrow k.arrows ++ ts) where
  by_line : (o : Option DrawnLineAt) → is_log o ≡ false → then_on (outcome_with f n o) next ≡ Gathered g → map told_arrow g.arrows ≡ map told_arrow f.arrows ++ cons_option (told_by o) ts
  by_line None h e = cc
  by_line (Some x) h e =
      and_then (with_line f x) (goes_on (is_within (with_line f x)) (with_line f x) g n next e)
      ∙ ap (λ t. t ++ ts) (added f x h)
      ∙ append_assoc (map told_arrow f.arrows) (cons_option (told_by (Some x)) []) ts
      ∙ ap (λ t. map told_arrow f.arrows ++ t) (in_front (told_by (Some x)) ts)

pub once : (f g : ChartAt) (n : ℕ) (lines : List (List ℕ)) → HasNoLog lines → gathered f n lines ≡ Gathered g
    → map told_arrow g.arrows ≡ map told_arrow f.arrows ++ filter_map told_in lines
unfolding chart_in
once f g n [] h e = ap (λ o. map told_arrow (chart_in o).arrows) (sym e) ∙ sym (append-nil (map told_arrow f.arrows))
once f g n (l ∷ ls) h e =
    by_line f g n (λ k. gathered k (n + 1) ls) (filter_map told_in ls) (λ k same. once k g (n + 1) ls h.1 same) (read l) h.0 e
