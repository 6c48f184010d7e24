-- An Open comes: what is open between parties is kept.
use Rattle.std.proofs.Common.{◌≡◌, ℕ, ◌<◌, List, [], ◌∷◌, ◌++◌, refl, sym, subst, ap, ◌∙◌, arith, append_assoc}
use Rattle.std.specs.Prelude.{Bool, true, false, ◌&&◌, ◌==◌, if◌then◌else◌, Option, Some, None}
use Rattle.std.specs.List.{AllByRecursion}
use Rattle.std.proofs.lemmas.Bool.{eqb-true, eq-eqb, ne_eqb}
use Rattle.sj_base.specs.declared.EndId.{EndId}
use Rattle.sj_rules.specs.Opened.{is_opened_by}
use Rattle.sj_rules.specs.PlainSide.{PlainAt}
use Rattle.sj_rules.specs.Reading.{IsUnopened}
use Rattle.sj_rules.specs.Record.{is_same_end, offered_end}
use Rattle.sj_forward_rules.specs.Arrivals.{comes}
use Rattle.sj_forward_rules.specs.Node.{quietly}
use Rattle.sj_forward_rules.specs.Record.{RecordAt, Held, FrameAt, Open, opened_in}
use Rattle.sj_forward_rules.specs.World.{WorldAt, with_lane}
use Rattle.sj_forward_laws.specs.Kept.{IsHeldRecord, AreRising, IsOffer, IsOpenKept}
use Rattle.sj_forward_laws.specs.Roads.{inward}
use Rattle.sj_forward_laws.proofs.ChainLemmas.{all_map}
use Rattle.sj_forward_laws.proofs.EndLemmas.{same_is, both_true}
use Rattle.sj_forward_laws.proofs.MovedLemmas.{quiet_lane}
use Rattle.sj_forward_laws.proofs.OfferLemmas.{all_back, all_two, rising_behind, one_opener, offer_is_opened}
use Rattle.sj_forward_laws.proofs.OpenArrives.{node_opened, world_opened, open_row, open_keeps}
use Rattle.sj_forward_laws.proofs.RoadLemmas.{all_both, road_self}

module _ {P Q : Type 0} (IsOver : P → Type 0) (binds : Q → EndId → Bool) (parties : ℕ) (w : WorldAt Q) (plain : PlainAt P Q)
    (kept : IsOpenKept IsOver binds parties w plain)
    (q p sess : ℕ) (rest : List FrameAt) (front : w.lanes q p ≡ Open sess ∷ rest) where
  abbrev e : EndId
  e = offered_end sess

  abbrev v : WorldAt Q
  v = world_opened IsOver binds parties w plain kept.kept q p sess rest front

  -- the session is one that q offers to p, after those that came
  split : (w.nodes p).offers q ++ sess ∷ opened_in rest ≡ plain.offers q p
  split = sym (ap (λ l. (w.nodes p).offers q ++ opened_in l) front) ∙ kept.offers q p

  offer_here : IsOffer plain q sess
  offer_here =
      (all_back (IsOffer plain q) ((w.nodes p).offers q) (sess ∷ opened_in rest)
      (subst (λ l. AllByRecursion (IsOffer plain q) l) (sym split) (kept.opened q p))).0

  bare_all : AllByRecursion (λ s. (w.nodes p).records (offered_end s) 0 ≡ None) (sess ∷ opened_in rest)
  bare_all = subst (λ l. AllByRecursion (λ s. (w.nodes p).records (offered_end s) 0 ≡ None) (opened_in l)) front (kept.bare q p)

  -- so its row fits
  pub open_fits : comes (w.nodes p) q (Open sess) ≡ Some (quietly (node_opened IsOver binds parties w plain kept.kept q p sess rest front))
  open_fits = open_row IsOver binds parties w plain kept.kept q p sess rest front offer_here.opener bare_all.0

  lane_now : (from to : ℕ) → v.lanes from to ≡ with_lane q p rest w.lanes from to
  lane_now from to = quiet_lane p (with_lane q p rest w.lanes) from to

  offers_now : (from k : ℕ) → (v.nodes k).offers from ++ opened_in (v.lanes from k) ≡ (w.nodes k).offers from ++ opened_in (w.lanes from k)
  offers_now from k = ap (λ l. (v.nodes k).offers from ++ opened_in l) (lane_now from k) ∙ by (k == p) (from == q) refl refl
    where
      by : (at own : Bool) → (k == p) ≡ at → (from == q) ≡ own
          → (if at then node_opened IsOver binds parties w plain kept.kept q p sess rest front else w.nodes k).offers from ++ opened_in
          (if own && at then rest else w.lanes from k)
          ≡ (w.nodes k).offers from ++ opened_in (w.lanes from k)
      by true true i j =
          let here : k ≡ p = eqb-true k p i in
          let origin : from ≡ q = eqb-true from q j in
          rw (j, here, origin, front) (append_assoc ((w.nodes p).offers q) (sess ∷ []) (opened_in rest))
      by true false i j = let here : k ≡ p = eqb-true k p i in rw (j, here) refl
      by false true i j = refl
      by false false i j = refl

  abbrev new_record : Option RecordAt
  new_record = Some (record { behind = q; state = Held [] })

  held_still : (k : ℕ) (d : EndId) → IsHeldRecord ((w.nodes k).records d 0) → IsHeldRecord ((v.nodes k).records d 0)
  held_still k d held = by (k == p) refl
    where
      here : (b : Bool) → IsHeldRecord ((w.nodes p).records d 0) → IsHeldRecord (if b then new_record else (w.nodes p).records d 0)
      here true h = (q, [], refl)
      here false h = h

      by : (b : Bool) → (k == p) ≡ b → IsHeldRecord
          ((if b then node_opened IsOver binds parties w plain kept.kept q p sess rest front else w.nodes k).records d 0)
      by true t = here (is_same_end d e && (0 == 0)) (subst (λ (x : ℕ). IsHeldRecord ((w.nodes x).records d 0)) (eqb-true k p t) held)
      by false t = held

  abbrev AreHeld : ℕ → List ℕ → Type 0
  AreHeld k l = AllByRecursion (λ s. IsHeldRecord ((v.nodes k).records (offered_end s) 0)) l

  held_now : (from k : ℕ) → AreHeld k ((v.nodes k).offers from)
  held_now from k = by (k == p) refl
    where
      old : AreHeld k ((w.nodes k).offers from)
      old =
          all_map (λ s. IsHeldRecord ((w.nodes k).records (offered_end s) 0)) (λ s. IsHeldRecord ((v.nodes k).records (offered_end s) 0))
          (λ s h. held_still k (offered_end s) h) ((w.nodes k).offers from) (kept.held from k)

      new : (k == p) ≡ true → IsHeldRecord ((v.nodes k).records e 0)
      new t =
          subst IsHeldRecord
          (sym (ap (λ (b : Bool). (if b then node_opened IsOver binds parties w plain kept.kept q p sess rest front else w.nodes k).records e 0) t
          ∙ ap (λ (b : Bool). if b then new_record else (w.nodes p).records e 0) (road_self (inward e 0)))) (q, [], refl)

      own : (k == p) ≡ true → (o : Bool) → (from == q) ≡ o → AreHeld k (if o then (w.nodes p).offers q ++ sess ∷ [] else (w.nodes p).offers from)
      own t true u =
          all_both (λ s. IsHeldRecord ((v.nodes k).records (offered_end s) 0)) ((w.nodes p).offers q) (sess ∷ [])
          (subst (λ (x : ℕ). AreHeld k ((w.nodes p).offers x)) (eqb-true from q u)
          (subst (λ (x : ℕ). AreHeld k ((w.nodes x).offers from)) (eqb-true k p t) old)) (new t, tt)
      own t false u = subst (λ (x : ℕ). AreHeld k ((w.nodes x).offers from)) (eqb-true k p t) old

      by : (b : Bool) → (k == p) ≡ b → AreHeld k
          ((if b then node_opened IsOver binds parties w plain kept.kept q p sess rest front else w.nodes k).offers from)
      by true t = own t (from == q) refl
      by false t = old

  -- no other record is new
  none_still : (k : ℕ) (d : EndId) → (k ≡ p → is_same_end d e ≡ false) → (w.nodes k).records d 0 ≡ None → (v.nodes k).records d 0 ≡ None
  none_still k d apart none = by (k == p) refl
    where
      by : (b : Bool) → (k == p) ≡ b → (if b then node_opened IsOver binds parties w plain kept.kept q p sess rest front else w.nodes k).records d
          0 ≡ None
      by true t =
          ap (λ (b : Bool). if b && (0 == 0) then new_record else (w.nodes p).records d 0) (apart (eqb-true k p t))
          ∙ ap (λ (x : ℕ). (w.nodes x).records d 0) (sym (eqb-true k p t)) ∙ none
      by false t = none

  -- no other Open is of that session
  abbrev IsElse : ℕ → ℕ → Type 0
  IsElse k s = k ≡ p → is_same_end (offered_end s) e ≡ false

  not_it : (s : ℕ) → (s ≡ sess → ⊥) → is_same_end (offered_end s) e ≡ false
  not_it s apart = ap (λ (b : Bool). b && (1 == 1)) (ne_eqb s sess apart)

  else_lane : (from k : ℕ) → ((from == q) && (k == p)) ≡ false → AllByRecursion (IsElse k) (opened_in (w.lanes from k))
  else_lane from k other =
      all_map (IsOffer plain from) (IsElse k) (λ s o at. not_it s (λ is. clash s o at is)) (opened_in (w.lanes from k))
      (all_back (IsOffer plain from) ((w.nodes k).offers from) (opened_in (w.lanes from k))
      (subst (λ l. AllByRecursion (IsOffer plain from) l) (sym (kept.offers from k)) (kept.opened from k)))
    where
      clash : (s : ℕ) → IsOffer plain from s → k ≡ p → s ≡ sess → ⊥
      clash s o at is =
          let same : from ≡ q = one_opener from q sess (subst (λ (n : ℕ). is_opened_by from n ≡ true) is o.opener) offer_here.opener in
          let both : ((from == q) && (k == p)) ≡ true = rw (eq-eqb from q same, eq-eqb k p at) refl in
          cc (both, other)

  later_apart : AllByRecursion (IsElse p) (opened_in rest)
  later_apart =
      all_map (λ m. sess < m) (IsElse p) (λ m lt at. not_it m (λ is. omega (arith, lt, is))) (opened_in rest)
      (rising_behind ((w.nodes p).offers q) sess (opened_in rest) (subst (λ l. AreRising l) (sym split) (kept.rising q p)))

  bare_now : (from k : ℕ) → AllByRecursion (λ s. (v.nodes k).records (offered_end s) 0 ≡ None) (opened_in (v.lanes from k))
  bare_now from k =
      subst (λ l. AllByRecursion (λ s. (v.nodes k).records (offered_end s) 0 ≡ None) (opened_in l)) (sym (lane_now from k))
      (by ((from == q) && (k == p)) refl)
    where
      these : (l : List ℕ) → AllByRecursion (IsElse k) l → AllByRecursion (λ s. (w.nodes k).records (offered_end s) 0 ≡ None) l
          → AllByRecursion (λ s. (v.nodes k).records (offered_end s) 0 ≡ None) l
      these l a b =
          all_two (IsElse k) (λ s. (w.nodes k).records (offered_end s) 0 ≡ None) (λ s. (v.nodes k).records (offered_end s) 0 ≡ None)
          (λ s apart none. none_still k (offered_end s) apart none) l a b

      by : (b : Bool) → ((from == q) && (k == p)) ≡ b
          → AllByRecursion (λ s. (v.nodes k).records (offered_end s) 0 ≡ None) (opened_in (if b then rest else w.lanes from k))
      by true t =
          let here : k ≡ p = eqb-true k p (both_true (from == q) (k == p) t).1 in
          these (opened_in rest) (subst (λ (x : ℕ). AllByRecursion (IsElse x) (opened_in rest)) (sym here) later_apart)
          (subst (λ (x : ℕ). AllByRecursion (λ s. (w.nodes x).records (offered_end s) 0 ≡ None) (opened_in rest)) (sym here) bare_all.1)
      by false t = these (opened_in (w.lanes from k)) (else_lane from k t) (kept.bare from k)

  requests_now : (k : ℕ) → (v.nodes k).requests ≡ (w.nodes k).requests
  requests_now k = by (k == p) refl
    where
      by : (b : Bool) → (k == p) ≡ b → (if b then node_opened IsOver binds parties w plain kept.kept q p sess rest front else w.nodes k).requests
          ≡ (w.nodes k).requests
      by true t = ap (λ (x : ℕ). (w.nodes x).requests) (sym (eqb-true k p t))
      by false t = refl

  -- what is open is kept
  pub opened_keeps : IsOpenKept IsOver binds parties v plain
  opened_keeps = record {
    kept = open_keeps IsOver binds parties w plain kept.kept q p sess rest front;
    requests = λ k. requests_now k ∙ kept.requests k;
    offers = λ from k. offers_now from k ∙ kept.offers from k;
    rising = kept.rising;
    opened = kept.opened;
    held = held_now;
    bare = bare_now;
    unopened = λ s none k d is low. none_still k d (λ at. other s none d is (is_same_end d e) refl) (kept.unopened s none k d is low);
  }
    where
      other : (s : ℕ) → IsUnopened plain s → (d : EndId) → d.sess ≡ s → (b : Bool) → is_same_end d e ≡ b → is_same_end d e ≡ false
      other s none d is true t =
          let it : sess ≡ s = sym (ap (λ x. x.sess) (same_is d e t)) ∙ is in
          absurd (offer_is_opened plain q sess offer_here (subst (λ (n : ℕ). IsUnopened plain n) (sym it) none))
      other s none d is false t = t
