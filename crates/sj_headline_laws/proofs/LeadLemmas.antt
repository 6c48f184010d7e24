-- Messages that lead a taker from one place to another.
use Rattle.std.proofs.Common.{◌≡◌, ℕ, zero, suc, ◌≤◌, List, [], ◌∷◌, ◌++◌, map, length, drop, slice_get, Option, Some, unwrap_or, refl, ap, sym, ◌∙◌, arith, subst, inl, inr, ◌⊎◌}
use Rattle.std.proofs.lemmas.Option.{slice_get_within}
use Rattle.sj_base.specs.declared.Msg.{Msg}
use Rattle.sj_lang.specs.declared.proto.Way.TheVariants.{Out, Into}
use Rattle.sj_lang.specs.Place.{Place}
use Rattle.sj_lang.specs.Meet.{Meets}
use Rattle.sj_lang.specs.After.{after_place}
use Rattle.sj_lang.proofs.MeetLemmas.{meets_back}
use Rattle.sj_lang.proofs.HeadLemmas.{send_answered}
use Rattle.sj_semantics.specs.declared.Passed.{Passed}
use Rattle.sj_semantics.specs.Balanced.{FitsNext, LeadsTaker}
use Rattle.sj_semantics.specs.Ends.{Session, EndAt}
use Rattle.sj_semantics.specs.Uses.{sends, takes, delegates, end_after}
use Rattle.sj_headline_laws.proofs.WayLemmas.{not_both_ways}
use Rattle.sj_headline_laws.proofs.StandLemmas.{fits_met}
use Rattle.sj_semantics_laws.proofs.ClaimLemmas.{length-push}

-- what the giver sent and the taker hasn't taken
abbrev pub coming : EndAt → EndAt → List Passed
coming taker giver = drop (length taker.takers) giver.sent

abbrev pub coming_messages : EndAt → EndAt → List Msg
coming_messages taker giver = map (λ x. x.msg) (coming taker giver)

pub record Ahead (zs : List Session) (taker giver : EndAt) : Type 0 where
  pub nothing_back : coming_messages giver taker ≡ []
  pub leads : LeadsTaker zs taker.place (coming_messages taker giver) giver.place

pub record Pair (zs : List Session) (one other : EndAt) : Type 0 where
  pub even : Ahead zs one other ⊎ Ahead zs other one
  pub one_taken : length one.takers ≤ length other.sent
  pub other_taken : length other.takers ≤ length one.sent

pub swap_even : (zs : List Session) (a b : EndAt) → Ahead zs a b ⊎ Ahead zs b a → Ahead zs b a ⊎ Ahead zs a b
swap_even zs a b (inl h) = inr h
swap_even zs a b (inr h) = inl h

pub pair_swap : (zs : List Session) (a b : EndAt) → Pair zs a b → Pair zs b a
pair_swap zs a b p = record { even = swap_even zs a b p.even; one_taken = p.other_taken; other_taken = p.one_taken }

-- ---- lists

pub drop_push : (k : ℕ) (xs : List Passed) (y : Passed) → k ≤ length xs → drop k (xs ++ y ∷ []) ≡ drop k xs ++ y ∷ []
drop_push zero xs y le = refl
drop_push (suc k) [] y le = absurd (omega arith)
drop_push (suc k) (x ∷ xs) y le = drop_push k xs y (omega arith)

pub map_push : (xs : List Passed) (y : Passed) → map (λ x. x.msg) (xs ++ y ∷ []) ≡ map (λ x. x.msg) xs ++ y.msg ∷ []
map_push [] y = refl
map_push (x ∷ xs) y = ap (λ t. x.msg ∷ t) (map_push xs y)

pub drop_head : (k : ℕ) (xs : List Passed) (x : Passed) → slice_get xs k ≡ Some x → drop k xs ≡ x ∷ drop (suc k) xs
drop_head k [] x h = cc
drop_head zero (y ∷ xs) x h = let it : y ≡ x = cc in ap (λ t. t ∷ xs) it
drop_head (suc k) (y ∷ xs) x h = drop_head k xs x h

pub length-push_passed : (xs : List Passed) (p : Passed) → length (xs ++ p ∷ []) ≡ suc (length xs)
length-push_passed [] p = refl
length-push_passed (x ∷ xs) p = ap suc (length-push_passed xs p)

-- ---- leading a taker

pub leads_push : (zs : List Session) (p : Place) (ms : List Msg) (last : Place) (m : Msg) (next : Place) → LeadsTaker zs p ms last → FitsNext zs last m → after_place last Out m ≡ Some next → LeadsTaker zs p (ms ++ m ∷ []) next
leads_push zs p [] last m next l fit h =
    let r : (q : Place) × (after_place p Into m ≡ Some q) × Meets next q = send_answered last p next m (meets_back p last l) h in
    (r.0, fits_met zs p last m l fit, r.1, meets_back next r.0 r.2)
leads_push zs p (n ∷ ms) last m next l fit h = (l.0, l.1, l.2, leads_push zs l.0 ms last m next l.3 fit h)

-- where the taker is to send, nothing is coming to it
pub nothing_coming : (zs : List Session) (p q r : Place) (m : Msg) (ms : List Msg) → after_place p Out m ≡ Some q → LeadsTaker zs p ms r → (ms ≡ []) × Meets p r
nothing_coming zs p q r m [] h l = (refl, l)
nothing_coming zs p q r m (n ∷ ms) h l = absurd (not_both_ways p q l.0 m n h l.2)

-- where a is to send, b is the taker
pub for_sender : (zs : List Session) (a b : EndAt) (q : Place) (m : Msg) → after_place a.place Out m ≡ Some q → Ahead zs a b ⊎ Ahead zs b a → Ahead zs b a
for_sender zs a b q m h (inr t) = t
for_sender zs a b q m h (inl t) =
    let none = nothing_coming zs a.place q b.place m (coming_messages a b) h t.leads in
    record {
      nothing_back = none.0;
      leads = subst (λ (ms : List Msg). LeadsTaker zs b.place ms a.place) (sym t.nothing_back) (meets_back a.place b.place none.1);
    }

pub moved_to : (p q : Place) (o : Option Place) → o ≡ Some q → unwrap_or o p ≡ q
moved_to p q o h = ap (λ t. unwrap_or t p) h

pub pair_sends : (zs : List Session) (a b : EndAt) (p : ℕ) (m : Msg) (next : Place) → Pair zs a b → after_place a.place Out m ≡ Some next → FitsNext zs a.place m → Pair zs (end_after p (sends m) a) b
pair_sends zs a b p m next pair h fit =
    let t = for_sender zs a b next m h pair.even in
    let grown : coming_messages b (end_after p (sends m) a) ≡ coming_messages b a ++ m ∷ [] =
    ap (map (λ x. x.msg)) (drop_push (length b.takers) a.sent (record { msg = m; by = p }) pair.other_taken) ∙ map_push (drop (length b.takers) a.sent) (record { msg = m; by = p }) in
    record {
      even = inr (record {
        nothing_back = t.nothing_back;
        leads = subst (λ (q : Place). LeadsTaker zs b.place (coming_messages b (end_after p (sends m) a)) q) (sym (moved_to a.place next (after_place a.place Out m) h))
            (subst (λ (ms : List Msg). LeadsTaker zs b.place ms next) (sym grown) (leads_push zs b.place (coming_messages b a) a.place m next t.leads fit h));
      });
      one_taken = pair.one_taken;
      other_taken = omega (arith, pair.other_taken, length-push_passed a.sent (record { msg = m; by = p }));
    }

-- what a taker is about to take
pub record Taking (zs : List Session) (place : Place) (m : Msg) : Type 0 where
  pub next : Place
  pub fits : FitsNext zs place m
  pub after : after_place place Into m ≡ Some next

abbrev pub coming_is : (a b : EndAt) (x : Passed) → Type 0
coming_is a b x = coming_messages a b ≡ x.msg ∷ map (λ y. y.msg) (drop (suc (length a.takers)) b.sent)

pub for_taker : (zs : List Session) (a b : EndAt) (x : Passed) → coming_is a b x → Ahead zs a b ⊎ Ahead zs b a → Ahead zs a b
for_taker zs a b x e (inl t) = t
for_taker zs a b x e (inr t) = let none = t.nothing_back in cc

pub pair_taking : (zs : List Session) (a b : EndAt) (x : Passed) → Pair zs a b → slice_get b.sent (length a.takers) ≡ Some x → Taking zs a.place x.msg
pair_taking zs a b x pair h =
    let e : coming_is a b x = ap (map (λ y. y.msg)) (drop_head (length a.takers) b.sent x h) in
    let t = for_taker zs a b x e pair.even in
    let l = subst (λ (ms : List Msg). LeadsTaker zs a.place ms b.place) e t.leads in
    record { next = l.0; fits = l.1; after = l.2 }

pub pair_takes : (zs : List Session) (a b : EndAt) (p : ℕ) (x : Passed) → Pair zs a b → slice_get b.sent (length a.takers) ≡ Some x → Pair zs (end_after p (takes x.msg) a) b
pair_takes zs a b p x pair h =
    let e : coming_is a b x = ap (map (λ y. y.msg)) (drop_head (length a.takers) b.sent x h) in
    let t = for_taker zs a b x e pair.even in
    let l = subst (λ (ms : List Msg). LeadsTaker zs a.place ms b.place) e t.leads in
    record {
      even = inl (record {
        nothing_back = t.nothing_back;
        leads = subst (λ (k : ℕ). LeadsTaker zs (unwrap_or (after_place a.place Into x.msg) a.place) (map (λ y. y.msg) (drop k b.sent)) b.place) (sym (length-push a.takers p))
            (subst (λ (q : Place). LeadsTaker zs q (map (λ y. y.msg) (drop (suc (length a.takers)) b.sent)) b.place) (sym (moved_to a.place l.0 (after_place a.place Into x.msg) l.2)) l.3);
      });
      one_taken = omega (arith, length-push a.takers p, slice_get_within b.sent (length a.takers) x h);
      other_taken = pair.other_taken;
    }

pub pair_hands : (zs : List Session) (a b : EndAt) (p : ℕ) → Pair zs a b → Pair zs (end_after p delegates a) b
pair_hands zs a b p pair = record { even = hands_even pair.even; one_taken = pair.one_taken; other_taken = pair.other_taken }
  where
    hands_even : Ahead zs a b ⊎ Ahead zs b a → Ahead zs (end_after p delegates a) b ⊎ Ahead zs b (end_after p delegates a)
    hands_even (inl t) = inl (record { nothing_back = t.nothing_back; leads = t.leads })
    hands_even (inr t) = inr (record { nothing_back = t.nothing_back; leads = t.leads })
