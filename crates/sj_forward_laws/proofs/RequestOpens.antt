-- A party opens a session: what is open between parties is kept.
use Rattle.std.proofs.Common.{◌≡◌, ℕ, ◌+◌, ◌<◌, ◌≤◌, List, [], ◌∷◌, ◌++◌, refl, sym, subst, ap, ◌∙◌, arith, append-nil, append_assoc}
use Rattle.std.specs.Prelude.{Bool, true, false, ◌&&◌, ◌==◌, if◌then◌else◌, map, None}
use Rattle.std.specs.List.{AllByRecursion}
use Rattle.std.proofs.lemmas.Bool.{eqb-true, eq-eqb, ne_eqb, le-leb}
use Rattle.std.proofs.lemmas.List.Elements.{filter_map-append}
use Rattle.sj_base.specs.declared.EndId.{EndId}
use Rattle.sj_rules.specs.Binding.{BindsAlso}
use Rattle.sj_rules.specs.Limits.{limit_of_requests, first_opened}
use Rattle.sj_rules.specs.Opened.{opened_number, opener_of}
use Rattle.sj_rules.specs.PlainSide.{PlainSide, PlainAt}
use Rattle.sj_rules.specs.Play.{Play}
use Rattle.sj_rules.specs.Reading.{IsUnopened}
use Rattle.sj_rules.specs.Record.{is_same_end, offered_end}
use Rattle.sj_opened_lemmas.proofs.RequestKeepLemmas.{opener_of_opened}
use Rattle.sj_forward_rules.specs.Acts.{open_session}
use Rattle.sj_forward_rules.specs.Record.{Open, Mail, session_opened, opened_in}
use Rattle.sj_forward_rules.specs.World.{WorldAt, frames_for}
use Rattle.sj_forward_laws.specs.Kept.{IsHeldRecord, AreRising, IsOffer, IsOpenKept}
use Rattle.sj_forward_laws.proofs.ChainLemmas.{all_map}
use Rattle.sj_forward_laws.proofs.EndLemmas.{both_true, same_is}
use Rattle.sj_forward_laws.proofs.NewSession.{near, far_apart}
use Rattle.sj_forward_laws.proofs.OfferLemmas.{rising_push, offer_is_opened}
use Rattle.sj_forward_laws.proofs.RequestRecords.{world_requested, plain_requested, new_session, rec_else, none_was}
use Rattle.sj_forward_laws.proofs.RequestKeeps.{sides_else, sides_far, request_keeps}
use Rattle.sj_forward_laws.proofs.RequestRecords.{world_requested, plain_requested, new_session, rec_else, none_was}
use Rattle.sj_forward_laws.proofs.RequestKeeps.{sides_else, sides_far, request_keeps}
use Rattle.sj_forward_laws.proofs.RoadLemmas.{all_both}

module _ {P Q : Type 0} (IsOver : P → Type 0) (play : Play P Q) (binds : Q → EndId → Bool) (parties : ℕ) (w : WorldAt Q) (plain : PlainAt P Q)
    (kept : IsOpenKept IsOver binds parties w plain)
    (p : ℕ) (place : P) (to : ℕ) (few : plain.requests p < limit_of_requests) (p_below : p < parties) (to_below : to < parties)
    (binds_it : BindsAlso binds (plain.programs p) (play.opened (plain.programs p) (near (opened_number p (plain.requests p))))
    (near (opened_number p (plain.requests p)))) where
  abbrev sess : ℕ
  sess = opened_number p (plain.requests p)

  abbrev v : WorldAt Q
  v = world_requested IsOver play binds parties w plain kept p place to few p_below to_below binds_it

  abbrev plain' : PlainAt P Q
  plain' = plain_requested IsOver play binds parties w plain kept p place to few p_below to_below binds_it

  record_same : (x s : ℕ) → (v.nodes x).records (offered_end s) 0 ≡ (w.nodes x).records (offered_end s) 0
  record_same x s = rec_else IsOver play binds parties w plain kept p place to few p_below to_below binds_it x (offered_end s) 0 (far_apart sess s)

  -- ---- what is offered

  offers_node : (from k : ℕ) → (v.nodes k).offers from ≡ (w.nodes k).offers from
  offers_node from k = by (k == p) refl
    where
      by : (b : Bool) → (k == p) ≡ b → (if b then (open_session play (w.nodes p) to sess).node else w.nodes k).offers from ≡ (w.nodes k).offers from
      by true t = ap (λ (x : ℕ). (w.nodes x).offers from) (sym (eqb-true k p t))
      by false t = refl

  -- the session of the frame that goes to that party, or none
  sent_to : (k : ℕ) → opened_in (frames_for k (record { party = to; frame = Open sess } ∷ [])) ≡ (if k == to then sess ∷ [] else [])
  sent_to k = by (k == to)
    where
      by : (b : Bool) → opened_in (map (λ (m : Mail). m.frame) (if b then record { party = to; frame = Open sess } ∷ [] else []))
          ≡ (if b then sess ∷ [] else [])
      by true = refl
      by false = refl

  opened_lane : (from k : ℕ) → opened_in (v.lanes from k)
      ≡ (if (from == p) && (k == to) then opened_in (w.lanes from k) ++ sess ∷ [] else opened_in (w.lanes from k))
  opened_lane from k = by (from == p)
    where
      here : (b : Bool) → (k == to) ≡ b
          → opened_in (w.lanes from k) ++ (if b then sess ∷ [] else [])
          ≡ (if true && b then opened_in (w.lanes from k) ++ sess ∷ [] else opened_in (w.lanes from k))
      here true t = refl
      here false t = append-nil (opened_in (w.lanes from k))

      by : (b : Bool) → opened_in (if b then w.lanes from k ++ frames_for k (record { party = to; frame = Open sess } ∷ []) else w.lanes from k)
          ≡ (if b && (k == to) then opened_in (w.lanes from k) ++ sess ∷ [] else opened_in (w.lanes from k))
      by true =
          filter_map-append session_opened (w.lanes from k) (frames_for k (record { party = to; frame = Open sess } ∷ []))
          ∙ ap (λ (l : List ℕ). opened_in (w.lanes from k) ++ l) (sent_to k) ∙ here (k == to) refl
      by false = refl

  -- the lane of the request
  both : (from k : ℕ) → ((from == p) && (k == to)) ≡ true → (from ≡ p) × (k ≡ to)
  both from k t = let b = both_true (from == p) (k == to) t in (eqb-true from p b.0, eqb-true k to b.1)

  offers_now : (from k : ℕ) → (v.nodes k).offers from ++ opened_in (v.lanes from k) ≡ plain'.offers from k
  offers_now from k =
      ap (λ (l : List ℕ). l ++ opened_in (v.lanes from k)) (offers_node from k)
      ∙ ap (λ (l : List ℕ). (w.nodes k).offers from ++ l) (opened_lane from k) ∙ by ((from == p) && (k == to)) refl
    where
      by : (b : Bool) → ((from == p) && (k == to)) ≡ b
          → (w.nodes k).offers from ++ (if b then opened_in (w.lanes from k) ++ sess ∷ [] else opened_in (w.lanes from k))
          ≡ (if b then plain.offers p to ++ sess ∷ [] else plain.offers from k)
      by true t =
          sym (append_assoc ((w.nodes k).offers from) (opened_in (w.lanes from k)) (sess ∷ []))
          ∙ ap (λ (l : List ℕ). l ++ sess ∷ []) (kept.offers from k)
          ∙ ap (λ (x : ℕ). plain.offers x k ++ sess ∷ []) (both from k t).0 ∙ ap (λ (y : ℕ). plain.offers p y ++ sess ∷ []) (both from k t).1
      by false t = kept.offers from k

  rising_now : (from k : ℕ) → AreRising (plain'.offers from k)
  rising_now from k = by ((from == p) && (k == to))
    where
      by : (b : Bool) → AreRising (if b then plain.offers p to ++ sess ∷ [] else plain.offers from k)
      by true =
          rising_push (plain.offers p to) sess (kept.rising p to)
          (all_map (IsOffer plain p) (λ s. s < sess) (λ s o. o.below) (plain.offers p to) (kept.opened p to))
      by false = kept.rising from k

  more_requests : (k : ℕ) → plain.requests k ≤ plain'.requests k
  more_requests k = by (k == p)
    where
      by : (b : Bool) → plain.requests k ≤ (if b then plain.requests k + 1 else plain.requests k)
      by true = omega arith
      by false = omega arith

  own_requests : plain'.requests p ≡ plain.requests p + 1
  own_requests = ap (λ (b : Bool). if b then plain.requests p + 1 else plain.requests p) (eq-eqb p p refl)

  offer_still : (from s : ℕ) → IsOffer plain from s → IsOffer plain' from s
  offer_still from s o = record {
    opener = o.opener;
    below = (let lt = o.below in let more = more_requests from in omega (arith, lt, more));
    offered = ap (λ (x : PlainSide P). x.offered)
        (sides_else IsOver play binds parties w plain kept p place to few p_below to_below binds_it (offered_end s)
        (ne_eqb s sess (λ is. offer_is_opened plain from s o
        (subst (λ (n : ℕ). IsUnopened plain n) (sym is)
        (new_session IsOver play binds parties w plain kept p place to few p_below to_below binds_it)))))
        ∙ o.offered;
  }

  offer_new : IsOffer plain' p sess
  offer_new = record {
    opener = ap (λ (b : Bool). b && (opener_of sess == p)) (le-leb first_opened sess (omega arith))
        ∙ eq-eqb (opener_of sess) p (opener_of_opened p (plain.requests p) few);
    below = (let own = own_requests in omega (arith, own));
    offered = ap (λ (x : PlainSide P). x.offered) (sides_far IsOver play binds parties w plain kept p place to few p_below to_below binds_it);
  }

  opened_now : (from k : ℕ) → AllByRecursion (IsOffer plain' from) (plain'.offers from k)
  opened_now from k = by ((from == p) && (k == to)) refl
    where
      by : (b : Bool) → ((from == p) && (k == to)) ≡ b
          → AllByRecursion (IsOffer plain' from) (if b then plain.offers p to ++ sess ∷ [] else plain.offers from k)
      by true t =
          subst (λ (x : ℕ). AllByRecursion (IsOffer plain' x) (plain.offers p to ++ sess ∷ [])) (sym (both from k t).0)
          (all_both (IsOffer plain' p) (plain.offers p to) (sess ∷ [])
          (all_map (IsOffer plain p) (IsOffer plain' p) (offer_still p) (plain.offers p to) (kept.opened p to)) (offer_new, tt))
      by false t = all_map (IsOffer plain from) (IsOffer plain' from) (offer_still from) (plain.offers from k) (kept.opened from k)

  -- ---- the records

  bare_now : (from k : ℕ) → AllByRecursion (λ s. (v.nodes k).records (offered_end s) 0 ≡ None) (opened_in (v.lanes from k))
  bare_now from k =
      subst (λ l. AllByRecursion (λ s. (v.nodes k).records (offered_end s) 0 ≡ None) l) (sym (opened_lane from k)) (by ((from == p) && (k == to)))
    where
      old : AllByRecursion (λ s. (v.nodes k).records (offered_end s) 0 ≡ None) (opened_in (w.lanes from k))
      old =
          all_map (λ s. (w.nodes k).records (offered_end s) 0 ≡ None) (λ s. (v.nodes k).records (offered_end s) 0 ≡ None)
          (λ s none. record_same k s ∙ none)
          (opened_in (w.lanes from k)) (kept.bare from k)

      by : (b : Bool) → AllByRecursion (λ s. (v.nodes k).records (offered_end s) 0 ≡ None)
          (if b then opened_in (w.lanes from k) ++ sess ∷ [] else opened_in (w.lanes from k))
      by true =
          all_both (λ s. (v.nodes k).records (offered_end s) 0 ≡ None) (opened_in (w.lanes from k)) (sess ∷ []) old (
            record_same k sess ∙ none_was IsOver play binds parties w plain kept p place to few p_below to_below binds_it (offered_end sess) refl
                (omega arith) k,
            tt,
          )
      by false = old

  requests_now : (k : ℕ) → (v.nodes k).requests ≡ plain'.requests k
  requests_now k = by (k == p) refl
    where
      by : (b : Bool) → (k == p) ≡ b → (if b then (open_session play (w.nodes p) to sess).node else w.nodes k).requests
          ≡ (if b then plain.requests k + 1 else plain.requests k)
      by true t = ap (λ (n : ℕ). n + 1) (kept.requests p) ∙ ap (λ (x : ℕ). plain.requests x + 1) (sym (eqb-true k p t))
      by false t = kept.requests k

  -- a session that is still unopened was so, and isn't the one
  still : (s : ℕ) → IsUnopened plain' s → IsUnopened plain s
  still s none = (none.0, none.1, (let le = none.2 in let more = more_requests none.0 in omega (arith, le, more)), none.3, none.4)

  not_it : (s : ℕ) → IsUnopened plain' s → s ≡ sess → ⊥
  not_it s none is =
      let same : none.0 ≡ p =
      sym (opener_of_opened none.0 none.1 none.3) ∙ ap opener_of (sym none.4 ∙ is) ∙ opener_of_opened p (plain.requests p) few in
      let above : plain'.requests p ≤ none.1 = subst (λ (x : ℕ). plain'.requests x ≤ none.1) same none.2 in
      let number : s ≡ opened_number p none.1 = subst (λ (x : ℕ). s ≡ opened_number x none.1) same none.4 in
      let own = own_requests in
      omega (arith, above, number, own, is)

  pub request_opens : IsOpenKept IsOver binds parties v plain'
  request_opens = record {
    kept = request_keeps IsOver play binds parties w plain kept p place to few p_below to_below binds_it;
    requests = requests_now;
    offers = offers_now;
    rising = rising_now;
    opened = opened_now;
    held = λ from k. subst (λ l. AllByRecursion (λ s. IsHeldRecord ((v.nodes k).records (offered_end s) 0)) l) (sym (offers_node from k))
        (all_map (λ s. IsHeldRecord ((w.nodes k).records (offered_end s) 0)) (λ s. IsHeldRecord ((v.nodes k).records (offered_end s) 0))
        (λ s h. subst IsHeldRecord (sym (record_same k s)) h) ((w.nodes k).offers from) (kept.held from k));
    bare = bare_now;
    unopened = λ s none k e is low.
        rec_else IsOver play binds parties w plain kept p place to few p_below to_below binds_it k e 0
        (apart s none e is (is_same_end e (near sess)) refl)
        ∙ kept.unopened s (still s none) k e is low;
  }
    where
      apart : (s : ℕ) → IsUnopened plain' s → (e : EndId) → e.sess ≡ s → (b : Bool) → is_same_end e (near sess) ≡ b
          → is_same_end e (near sess) ≡ false
      apart s none e is true t = absurd (not_it s none (sym is ∙ ap (λ x. x.sess) (same_is e (near sess) t)))
      apart s none e is false t = t
