-- A party accepts the first session that is offered to it: the invariant is kept, and what is open
-- between parties.
use Rattle.std.proofs.Common.{◌≡◌, ℕ, ◌<◌, List, [], ◌∷◌, ◌++◌, refl, sym, subst, ap, ◌∙◌, arith, inl, inr}
use Rattle.std.specs.Prelude.{◌⊎◌, Bool, true, false, ◌&&◌, ◌==◌, if◌then◌else◌, Some, None}
use Rattle.std.specs.List.{AllByRecursion}
use Rattle.std.proofs.lemmas.Bool.{eqb-true, eq-eqb, ne_eqb}
use Rattle.sj_base.specs.declared.EndId.{EndId}
use Rattle.sj_rules.specs.Acts.{plain_accepted}
use Rattle.sj_rules.specs.Binding.{BindsAlso}
use Rattle.sj_rules.specs.Moves.{with_program, with_opened, with_side}
use Rattle.sj_rules.specs.Opened.{is_opened_by, smallest, without}
use Rattle.sj_rules.specs.PlainChanges.{waits_of}
use Rattle.sj_rules.specs.PlainSide.{PlainSide, PlainAt}
use Rattle.sj_rules.specs.Play.{Play}
use Rattle.sj_rules.specs.Record.{is_same_end, offered_end}
use Rattle.sj_forward_rules.specs.Acts.{accept_session}
use Rattle.sj_forward_rules.specs.Node.{NodeAt, Worked}
use Rattle.sj_forward_rules.specs.Record.{Open, opened_in}
use Rattle.sj_forward_rules.specs.World.{WorldAt, after_event, lanes_with}
use Rattle.sj_forward_laws.specs.Kept.{in_use, at_its_end, IsLast, IsHeldRecord, AreRising}
use Rattle.sj_forward_laws.specs.Kept.{IsOffer, IsKept, IsOpenKept}
use Rattle.sj_forward_laws.specs.Roads.{Chains, IsOnRoad}
use Rattle.sj_forward_laws.proofs.ActLemmas.{is_in_use, program_goes, bound_goes}
use Rattle.sj_forward_laws.proofs.ChainLemmas.{all_map}
use Rattle.sj_forward_laws.proofs.EndLemmas.{both_true, same_is}
use Rattle.sj_forward_laws.proofs.MovedLemmas.{quiet_lane, uses_stay}
use Rattle.sj_forward_laws.proofs.OfferLemmas.{all_front, all_two, one_opener}
use Rattle.sj_forward_laws.proofs.QuietKeeps.{quiet_keeps}
use Rattle.sj_forward_laws.proofs.RecordLemmas.{kept_records, kept_alone}
use Rattle.sj_forward_laws.proofs.RoadLemmas.{all_both}
use Rattle.sj_forward_laws.proofs.SendKeeps.{last_by}
use Rattle.sj_forward_laws.proofs.StayLemmas.{still_there}
use Rattle.sj_forward_laws.proofs.FirstOffers.{first_smallest, without_first}
use Rattle.sj_forward_laws.proofs.HeldSeats.{opens_on_road, IsHeldAt, held_lies}

module _ {P Q : Type 0} (IsOver : P → Type 0) (play : Play P Q) (binds : Q → EndId → Bool) (parties : ℕ) (w : WorldAt Q) (plain : PlainAt P Q)
    (kept : IsOpenKept IsOver binds parties w plain)
    (p : ℕ) (place : P) (from sess : ℕ) (others : List ℕ) (there : (w.nodes p).offers from ≡ sess ∷ others)
    (binds_it : BindsAlso binds (plain.programs p) (play.opened (plain.programs p) (offered_end sess)) (offered_end sess)) where
  abbrev e : EndId
  e = offered_end sess

  abbrev c : Chains
  c = kept.kept.chains

  abbrev later : List ℕ
  later = others ++ opened_in (w.lanes from p)

  -- it is the first of what was opened and not accepted
  pub offers_are : plain.offers from p ≡ sess ∷ later
  offers_are = sym (kept.offers from p) ∙ ap (λ (l : List ℕ). l ++ opened_in (w.lanes from p)) there

  above : AllByRecursion (λ m. sess < m) later
  above = (subst AreRising offers_are (kept.rising from p)).0

  above_others : AllByRecursion (λ m. sess < m) others
  above_others = all_front (λ m. sess < m) others (opened_in (w.lanes from p)) above

  pub smallest_is : smallest ((w.nodes p).offers from) ≡ Some sess
  smallest_is = ap smallest there ∙ first_smallest sess others above_others

  offer_here : IsOffer plain from sess
  offer_here = (subst (λ l. AllByRecursion (IsOffer plain from) l) offers_are (kept.opened from p)).0

  lies : IsHeldAt IsOver binds parties w plain kept.kept p e
  lies =
      held_lies IsOver binds parties w plain kept.kept p e (omega arith)
      (subst (λ l. AllByRecursion (λ s. IsHeldRecord ((w.nodes p).records (offered_end s) 0)) l) there (kept.held from p)).0

  abbrev pub done : Worked Q
  done = accept_session play (w.nodes p) from sess

  abbrev pub world_accepted : WorldAt Q
  world_accepted = after_event w p w.lanes done

  abbrev pub plain_accepted_it : PlainAt P Q
  plain_accepted_it = with_side e (λ x. plain_accepted x place) (with_opened from p later (with_program p (play.opened (plain.programs p) e) plain))

  abbrev v : WorldAt Q
  v = world_accepted

  abbrev plain' : PlainAt P Q
  plain' = plain_accepted_it

  side_part : {X : Type 0} (f : PlainSide P → X) → ((x : PlainSide P) → f (plain_accepted x place) ≡ f x) → (d : EndId)
      → f (plain'.sides d) ≡ f (plain.sides d)
  side_part f same d = by (is_same_end d e)
    where
      by : (b : Bool) → f (if b then plain_accepted (plain.sides d) place else plain.sides d) ≡ f (plain.sides d)
      by true = same (plain.sides d)
      by false = refl

  side_else : (d : EndId) → is_same_end d e ≡ false → plain'.sides d ≡ plain.sides d
  side_else d apart = ap (λ (b : Bool). if b then plain_accepted (plain.sides d) place else plain.sides d) apart

  lasts : (d : EndId) → d.side < 2 → IsLast IsOver (plain'.sides d) (waits_of plain d) (c.top d) (kept.kept.seats d) (kept.kept.states d (c.top d))
  lasts d low =
      last_by IsOver (plain.sides d) (plain'.sides d) (waits_of plain d) (waits_of plain d) (c.top d) (kept.kept.seats d)
      (kept.kept.states d (c.top d)) (kept.kept.last d low)
      (side_part (λ x. x.hops) (λ x. refl) d) (λ closed over none. (by (is_same_end d e) refl closed over, none))
    where
      by : (b : Bool) → is_same_end d e ≡ b → kept.kept.seats d ≡ at_its_end → IsOver (plain.sides d).place → IsOver (plain'.sides d).place
      by true t closed over =
          let bad : true ≡ false = ap is_in_use (sym (ap kept.kept.seats (same_is d e t) ∙ lies.seat) ∙ closed) in
          absurd (cc bad)
      by false t closed over = subst (λ (x : PlainSide P). IsOver x.place) (sym (side_else d t)) over

  abbrev Bound : ℕ → EndId → Type 0
  Bound k d = (d.side < 2) × (kept.kept.seats d ≡ in_use) × (c.at d (c.top d) ≡ k)

  bound : (k : ℕ) (d : EndId) → binds (plain'.programs k) d ≡ true → Bound k d
  bound =
      bound_goes IsOver binds parties w plain kept.kept p Bound (play.opened (plain.programs p) e) (λ d b. now d ((binds_it d).0 b))
      (λ k d apart b. kept.kept.bound k d b)
    where
      now : (d : EndId) → (is_same_end d e ≡ true) ⊎ (binds (plain.programs p) d ≡ true) → Bound p d
      now d (inl t) = subst (λ x. Bound p x) (sym (same_is d e t)) (omega arith, lies.seat, ap (λ (n : ℕ). c.at e n) lies.top ∙ lies.home)
      now d (inr b) = kept.kept.bound p d b

  accept_keeps : IsKept IsOver binds parties v plain'
  accept_keeps =
      quiet_keeps IsOver binds parties w plain plain' kept.kept (λ k. if k == p then done.node else w.nodes k) (lanes_with p [] w.lanes)
      kept.kept.states kept.kept.seats
      (side_part (λ x. x.sent) (λ x. refl)) (side_part (λ x. x.taken) (λ x. refl)) (quiet_lane p w.lanes) (λ d k. refl)
      (λ d k i le. kept_records c kept.kept.states w.nodes p done.node (λ d k. refl) d k (kept.kept.joined.records d k i le))
      (still_there w.nodes p done.node (λ d k has. has))
      (λ d k x r i is. kept_alone c kept.kept.states w.nodes p done.node (λ d k. refl) d k (λ x r is. kept.kept.joined.alone d k x r i is) x r is)
      (λ d k lt. refl) lasts (λ d sess fs fit. fit) (λ d n a fit. fit)
      (program_goes IsOver binds parties w plain kept.kept p done.node (play.opened (plain.programs p) e)
      (ap (λ g. play.opened g e) (kept.kept.programs p)))
      (λ d i s. uses_stay w.nodes p done.node (λ d. refl) (c.at d (c.top d)) d ∙ kept.kept.uses d i s) bound

  -- ---- what is open

  node_part : {X : Type 0} (f : NodeAt Q → X) → f done.node ≡ f (w.nodes p) → (k : ℕ) → f (v.nodes k) ≡ f (w.nodes k)
  node_part f same k = by (k == p) refl
    where
      by : (b : Bool) → (k == p) ≡ b → f (if b then done.node else w.nodes k) ≡ f (w.nodes k)
      by true t = same ∙ ap (λ (x : ℕ). f (w.nodes x)) (sym (eqb-true k p t))
      by false t = refl

  -- at the party that accepts, from that one
  both : (q k : ℕ) → ((q == from) && (k == p)) ≡ true → (q ≡ from) × (k ≡ p)
  both q k t = let b = both_true (q == from) (k == p) t in (eqb-true q from b.0, eqb-true k p b.1)

  offers_at : (q k : ℕ) → (v.nodes k).offers q ≡ (if (q == from) && (k == p) then others else (w.nodes k).offers q)
  offers_at q k = by (k == p) (q == from) refl refl
    where
      by : (a b : Bool) → (k == p) ≡ a → (q == from) ≡ b
          → (if a then done.node else w.nodes k).offers q ≡ (if b && a then others else (w.nodes k).offers q)
      by true true t u =
          ap (λ (b : Bool). if b then without sess ((w.nodes p).offers from) else (w.nodes p).offers q) u
          ∙ ap (λ (l : List ℕ). without sess l) there ∙ without_first sess others above_others
      by true false t u =
          ap (λ (b : Bool). if b then without sess ((w.nodes p).offers from) else (w.nodes p).offers q) u
          ∙ ap (λ (x : ℕ). (w.nodes x).offers q) (sym (eqb-true k p t))
      by false true t u = refl
      by false false t u = refl

  lane_same : (q k : ℕ) → opened_in (v.lanes q k) ≡ opened_in (w.lanes q k)
  lane_same q k = ap opened_in (quiet_lane p w.lanes q k)

  offers_now : (q k : ℕ) → (v.nodes k).offers q ++ opened_in (v.lanes q k) ≡ plain'.offers q k
  offers_now q k =
      ap (λ (l : List ℕ). (v.nodes k).offers q ++ l) (lane_same q k) ∙ ap (λ (l : List ℕ). l ++ opened_in (w.lanes q k)) (offers_at q k)
      ∙ by ((q == from) && (k == p)) refl
    where
      by : (b : Bool) → ((q == from) && (k == p)) ≡ b
          → (if b then others else (w.nodes k).offers q) ++ opened_in (w.lanes q k) ≡ (if b then later else plain.offers q k)
      by true t =
          ap (λ (x : ℕ). others ++ opened_in (w.lanes x k)) (both q k t).0 ∙ ap (λ (y : ℕ). others ++ opened_in (w.lanes from y)) (both q k t).1
      by false t = kept.offers q k

  -- an end that is offered to a party begins its chain there
  homes : (q k : ℕ) → AllByRecursion (λ s. c.at (offered_end s) 0 ≡ k) (plain.offers q k)
  homes q k =
      subst (λ l. AllByRecursion (λ s. c.at (offered_end s) 0 ≡ k) l) (kept.offers q k)
      (all_both (λ s. c.at (offered_end s) 0 ≡ k) ((w.nodes k).offers q) (opened_in (w.lanes q k))
      (all_map (λ s. IsHeldRecord ((w.nodes k).records (offered_end s) 0)) (λ s. c.at (offered_end s) 0 ≡ k)
      (λ s h. (held_lies IsOver binds parties w plain kept.kept k (offered_end s) (omega arith) h).home) ((w.nodes k).offers q) (kept.held q k))
      (all_map (λ s. IsOnRoad c q k (Open s)) (λ s. c.at (offered_end s) 0 ≡ k) (λ s on. on.goal) (opened_in (w.lanes q k))
      (opens_on_road (λ f. IsOnRoad c q k f) (w.lanes q k) (kept.kept.joined.lanes q k))))

  abbrev IsOther : ℕ → Type 0
  IsOther s = (s == sess) ≡ false

  others_now : (q k : ℕ) → AllByRecursion IsOther (plain'.offers q k)
  others_now q k = by ((q == from) && (k == p)) refl
    where
      by : (b : Bool) → ((q == from) && (k == p)) ≡ b → AllByRecursion IsOther (if b then later else plain.offers q k)
      by true t = all_map (λ m. sess < m) IsOther (λ m lt. ne_eqb m sess (λ i. omega (arith, lt, i))) later above
      by false t =
          all_two (IsOffer plain q) (λ s. c.at (offered_end s) 0 ≡ k) IsOther (λ s o at. ne_eqb s sess (λ is. clash s o at is)) (plain.offers q k)
          (kept.opened q k) (homes q k)
        where
          clash : (s : ℕ) → IsOffer plain q s → c.at (offered_end s) 0 ≡ k → s ≡ sess → ⊥
          clash s o at is =
              let same : q ≡ from = one_opener q from sess (subst (λ (n : ℕ). is_opened_by q n ≡ true) is o.opener) offer_here.opener in
              let here : k ≡ p = sym at ∙ ap (λ (n : ℕ). c.at (offered_end n) 0) is ∙ lies.home in
              let yes : ((q == from) && (k == p)) ≡ true = ap (λ (b : Bool). b && (k == p)) (eq-eqb q from same) ∙ eq-eqb k p here in
              cc (yes, t)

  rising_now : (q k : ℕ) → AreRising (plain'.offers q k)
  rising_now q k = by ((q == from) && (k == p))
    where
      by : (b : Bool) → AreRising (if b then later else plain.offers q k)
      by true = (subst AreRising offers_are (kept.rising from p)).1
      by false = kept.rising q k

  offer_still : (q s : ℕ) → IsOffer plain q s → IsOther s → IsOffer plain' q s
  offer_still q s o other = record {
    opener = o.opener;
    below = o.below;
    offered = ap (λ (x : PlainSide P). x.offered) (side_else (offered_end s) (ap (λ (b : Bool). b && (1 == 1)) other)) ∙ o.offered;
  }

  was_offer : (q k : ℕ) → AllByRecursion (IsOffer plain q) (plain'.offers q k)
  was_offer q k = by ((q == from) && (k == p)) refl
    where
      by : (b : Bool) → ((q == from) && (k == p)) ≡ b → AllByRecursion (IsOffer plain q) (if b then later else plain.offers q k)
      by true t =
          subst (λ (x : ℕ). AllByRecursion (IsOffer plain x) later) (sym (both q k t).0)
          (subst (λ l. AllByRecursion (IsOffer plain from) l) offers_are (kept.opened from p)).1
      by false t = kept.opened q k

  held_now : (q k : ℕ) → AllByRecursion (λ s. IsHeldRecord ((v.nodes k).records (offered_end s) 0)) ((v.nodes k).offers q)
  held_now q k =
      subst (λ l. AllByRecursion (λ s. IsHeldRecord ((v.nodes k).records (offered_end s) 0)) l) (sym (offers_at q k))
      (by ((q == from) && (k == p)) refl)
    where
      these : (l : List ℕ) → AllByRecursion (λ s. IsHeldRecord ((w.nodes k).records (offered_end s) 0)) l
          → AllByRecursion (λ s. IsHeldRecord ((v.nodes k).records (offered_end s) 0)) l
      these l all =
          all_map (λ s. IsHeldRecord ((w.nodes k).records (offered_end s) 0)) (λ s. IsHeldRecord ((v.nodes k).records (offered_end s) 0))
          (λ s h. subst IsHeldRecord (sym (node_part (λ n. n.records (offered_end s) 0) refl k)) h) l all

      by : (b : Bool) → ((q == from) && (k == p)) ≡ b
          → AllByRecursion (λ s. IsHeldRecord ((v.nodes k).records (offered_end s) 0)) (if b then others else (w.nodes k).offers q)
      by true t =
          these others
          (subst (λ (x : ℕ). AllByRecursion (λ s. IsHeldRecord ((w.nodes x).records (offered_end s) 0)) others) (sym (both q k t).1)
          (subst (λ l. AllByRecursion (λ s. IsHeldRecord ((w.nodes p).records (offered_end s) 0)) l) there (kept.held from p)).1)
      by false t = these ((w.nodes k).offers q) (kept.held q k)

  pub accept_opens : IsOpenKept IsOver binds parties v plain'
  accept_opens = record {
    kept = accept_keeps;
    requests = λ k. node_part (λ n. n.requests) refl k ∙ kept.requests k;
    offers = offers_now;
    rising = rising_now;
    opened = λ q k. all_two (IsOffer plain q) IsOther (IsOffer plain' q) (offer_still q) (plain'.offers q k) (was_offer q k) (others_now q k);
    held = held_now;
    bare = λ q k. subst (λ l. AllByRecursion (λ s. (v.nodes k).records (offered_end s) 0 ≡ None) l) (sym (lane_same q k))
        (all_map (λ s. (w.nodes k).records (offered_end s) 0 ≡ None) (λ s. (v.nodes k).records (offered_end s) 0 ≡ None)
        (λ s none. node_part (λ n. n.records (offered_end s) 0) refl k ∙ none) (opened_in (w.lanes q k)) (kept.bare q k));
    unopened = λ s none k d is low. node_part (λ n. n.records d 0) refl k ∙ kept.unopened s none k d is low;
  }
