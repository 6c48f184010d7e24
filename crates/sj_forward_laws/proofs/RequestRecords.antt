-- A party opens a session: the lanes and the records then, beside the chains with those of the
-- session.
use Rattle.std.proofs.Common.{◌≡◌, ℕ, zero, suc, ◌<◌, ◌≤◌, List, [], ◌∷◌, ◌++◌, refl, sym, subst, ap, ◌∙◌, arith, inl}
use Rattle.std.specs.Prelude.{Bool, true, false, ◌&&◌, ◌==◌, if◌then◌else◌, Some, None}
use Rattle.std.specs.List.{AllByRecursion}
use Rattle.std.proofs.lemmas.Bool.{eqb-true, eq-eqb, ne_eqb}
use Rattle.sj_base.specs.declared.EndId.{EndId}
use Rattle.sj_rules.specs.Binding.{BindsAlso}
use Rattle.sj_rules.specs.Limits.{limit_of_requests}
use Rattle.sj_rules.specs.Moves.{plain_requests}
use Rattle.sj_rules.specs.Opened.{opened_number}
use Rattle.sj_rules.specs.PlainSide.{PlainAt}
use Rattle.sj_rules.specs.Play.{Play}
use Rattle.sj_rules.specs.Reading.{IsUnopened}
use Rattle.sj_rules.specs.Record.{is_same_end}
use Rattle.sj_forward_rules.specs.Acts.{open_session}
use Rattle.sj_forward_rules.specs.Node.{HasRecord}
use Rattle.sj_forward_rules.specs.Record.{RecordAt, StateAt, Held, Closed, Open, Mail}
use Rattle.sj_forward_rules.specs.World.{WorldAt, after_event}
use Rattle.sj_forward_laws.specs.Kept.{Seat, in_use, at_its_end, in_open, IsLeft, IsRecorded, IsInChain}
use Rattle.sj_forward_laws.specs.Kept.{IsOpenKept}
use Rattle.sj_forward_laws.specs.Pipe.{traffic}
use Rattle.sj_forward_laws.specs.Roads.{Chains, Road, inward, claiming, is_road, behind_of, start_of, on_road}
use Rattle.sj_forward_laws.proofs.AbsentLemmas.{road_end, seat_end, top_zero, no_frames}
use Rattle.sj_forward_laws.proofs.EndLemmas.{both_true}
use Rattle.sj_forward_laws.proofs.NewSession.{near, far, choose, choose_near, choose_far, choose_else, by_ends, else_apart}
use Rattle.sj_forward_laws.proofs.NewSession.{far_apart, opened, at_else, top_else, top_new, behind_else}
use Rattle.sj_forward_laws.proofs.NewSession.{behind_near, behind_far, traffic_else, road_apart}
use Rattle.sj_forward_laws.proofs.RecordLemmas.{record_with}
use Rattle.sj_forward_laws.proofs.RoadLemmas.{IsPost, push_same, push_here, road_self}
use Rattle.sj_forward_laws.proofs.StayLemmas.{written_stays, still_there}

module _ {P Q : Type 0} (IsOver : P → Type 0) (play : Play P Q) (binds : Q → EndId → Bool) (parties : ℕ) (w : WorldAt Q) (plain : PlainAt P Q)
    (kept : IsOpenKept IsOver binds parties w plain)
    (p : ℕ) (place : P) (to : ℕ) (few : plain.requests p < limit_of_requests) (p_below : p < parties) (to_below : to < parties)
    (binds_it : BindsAlso binds (plain.programs p) (play.opened (plain.programs p) (near (opened_number p (plain.requests p))))
    (near (opened_number p (plain.requests p)))) where
  abbrev pub sess : ℕ
  sess = opened_number p (plain.requests p)

  abbrev ours : EndId
  ours = near sess

  abbrev theirs : EndId
  theirs = far sess

  abbrev c : Chains
  c = kept.kept.chains

  abbrev c' : Chains
  c' = opened sess c p to

  abbrev posts : List Mail
  posts = record { party = to; frame = Open sess } ∷ []

  -- the world after it, and the plain one
  abbrev pub world_requested : WorldAt Q
  world_requested = after_event w p w.lanes (open_session play (w.nodes p) to sess)

  abbrev pub plain_requested : PlainAt P Q
  plain_requested = plain_requests play p place to sess plain

  abbrev v : WorldAt Q
  v = world_requested

  abbrev plain' : PlainAt P Q
  plain' = plain_requested

  abbrev states' : EndId → ℕ → StateAt
  states' d k = choose sess d (Held []) Closed (kept.kept.states d k)

  abbrev seats' : EndId → Seat
  seats' d = choose sess d in_use in_open (kept.kept.seats d)

  pub new_session : IsUnopened plain sess
  new_session = (p, plain.requests p, omega arith, few, refl)

  top_was : (d : EndId) → d.sess ≡ sess → d.side < 2 → c.top d ≡ 0
  top_was d is low = top_zero IsOver binds parties w plain kept sess new_session d is low

  pub seat_was : (d : EndId) → d.sess ≡ sess → d.side < 2 → kept.kept.seats d ≡ at_its_end
  seat_was d is low = seat_end IsOver binds parties w plain kept sess new_session d is low

  pub none_was : (d : EndId) → d.sess ≡ sess → d.side < 2 → (x : ℕ) → (w.nodes x).records d 0 ≡ None
  none_was d is low x = kept.unopened sess new_session x d is low

  pub none_about : (r : Road) → (road_end r).sess ≡ sess → (road_end r).side < 2 → (x y : ℕ) → on_road r (w.lanes x y) ≡ []
  none_about r is low x y = no_frames IsOver binds parties w plain kept sess new_session (road_end r) is low r refl x y

  -- ---- the lanes

  pub start : start_of c' (inward theirs 0) ≡ p
  start = behind_far sess c p to

  pub mails : AllByRecursion (IsPost c' (inward theirs 0)) posts
  mails = (record { road = refl; party = sym (choose_far sess p to (c.at theirs 0)) }, tt)

  pushed : (r : Road) → is_road r (inward theirs 0) ≡ false → traffic v.lanes c' r ≡ traffic w.lanes c' r
  pushed r apart = push_same c' w.lanes p (inward theirs 0) start posts mails r apart

  pub old_road : (r : Road) → ((road_end r).sess == sess) ≡ false → traffic v.lanes c' r ≡ traffic w.lanes c r
  old_road r not = pushed r (road_apart sess c p to r not) ∙ traffic_else sess c p to w.lanes r not

  new_road : (r : Road) → (road_end r).sess ≡ sess → (road_end r).side < 2 → is_road r (inward theirs 0) ≡ false → traffic v.lanes c' r ≡ []
  new_road r is low apart = pushed r apart ∙ none_about r is low _ _

  pub far_road : traffic v.lanes c' (inward theirs 0) ≡ Open sess ∷ []
  far_road =
      push_here c' w.lanes p (inward theirs 0) start posts mails
      ∙ ap (λ l. l ++ Open sess ∷ []) (none_about (inward theirs 0) refl (omega arith) _ _)

  ours_apart : is_same_end ours theirs ≡ false
  ours_apart = ap (λ (b : Bool). (sess == sess) && b) (ne_eqb 0 1 (λ i. omega (arith, i))) ∙ last (sess == sess)
    where
      last : (b : Bool) → (b && false) ≡ false
      last true = refl
      last false = refl

  pub near_road : traffic v.lanes c' (inward ours 0) ≡ []
  near_road = new_road (inward ours 0) refl (omega arith) (ap (λ (b : Bool). b && (0 == 0)) ours_apart)

  -- ---- the records

  -- other records are as they were
  pub rec_else : (x : ℕ) (d : EndId) (k : ℕ) → is_same_end d ours ≡ false → (v.nodes x).records d k ≡ (w.nodes x).records d k
  rec_else x d k apart = by (x == p) refl
    where
      by : (b : Bool) → (x == p) ≡ b → (if b then (open_session play (w.nodes p) to sess).node else w.nodes x).records d k ≡ (w.nodes x).records d k
      by true t =
          ap (λ (b : Bool). if b && (k == 0) then record_with to (Held []) else (w.nodes p).records d k) apart
          ∙ ap (λ (y : ℕ). (w.nodes y).records d k) (sym (eqb-true x p t))
      by false t = refl

  rec_own : (v.nodes p).records ours 0 ≡ record_with to (Held [])
  rec_own =
      ap (λ (b : Bool). (if b then (open_session play (w.nodes p) to sess).node else w.nodes p).records ours 0) (eq-eqb p p refl)
      ∙ ap (λ (b : Bool). if b then record_with to (Held []) else (w.nodes p).records ours 0) (road_self (inward ours 0))

  stays : (x : ℕ) (d : EndId) (k : ℕ) → HasRecord (w.nodes x) d k → HasRecord (v.nodes x) d k
  stays =
      still_there w.nodes p (open_session play (w.nodes p) to sess).node (written_stays (w.nodes p) ours 0 (record { behind = to; state = Held [] }))

  abbrev Recorded : EndId → Type 0
  Recorded d = (k : ℕ) → d.side < 2 → k ≤ c'.top d → IsRecorded ((v.nodes (c'.at d k)).records d k) (behind_of c' d k) (states' d k)

  pub records : (d : EndId) → d.side < 2 → Recorded d
  records = by_ends sess Recorded at_near at_far away
    where
      at_near : (k : ℕ) → ours.side < 2 → k ≤ c'.top ours
          → IsRecorded ((v.nodes (c'.at ours k)).records ours k) (behind_of c' ours k) (states' ours k)
      at_near zero low le =
          subst (λ s. IsRecorded ((v.nodes (c'.at ours 0)).records ours 0) (behind_of c' ours 0) s)
          (sym (choose_near sess (Held []) Closed (kept.kept.states ours 0)))
          (ap (λ (x : ℕ). (v.nodes x).records ours 0) (choose_near sess p to (c.at ours 0)) ∙ rec_own
          ∙ ap (λ (x : ℕ). record_with x (Held [])) (sym (behind_near sess c p to)))
      at_near (suc k) low le = let top = top_new sess c p to ours (eq-eqb sess sess refl) in absurd (omega (arith, le, top))

      at_far : (k : ℕ) → theirs.side < 2 → k ≤ c'.top theirs
          → IsRecorded ((v.nodes (c'.at theirs k)).records theirs k) (behind_of c' theirs k) (states' theirs k)
      at_far zero low le =
          subst (λ s. IsRecorded ((v.nodes (c'.at theirs 0)).records theirs 0) (behind_of c' theirs 0) s)
          (sym (choose_far sess (Held []) Closed (kept.kept.states theirs 0)))
          (inl (rec_else (c'.at theirs 0) theirs 0 (far_apart sess sess) ∙ none_was theirs refl (omega arith) (c'.at theirs 0)))
      at_far (suc k) low le = let top = top_new sess c p to theirs (eq-eqb sess sess refl) in absurd (omega (arith, le, top))

      away : (d : EndId) → (d.sess == sess) ≡ false → Recorded d
      away d not k low le =
          subst (λ s. IsRecorded ((v.nodes (c'.at d k)).records d k) (behind_of c' d k) s)
          (sym (choose_else sess d (Held []) Closed (kept.kept.states d k) not))
          (subst (λ (x : ℕ). IsRecorded ((v.nodes (c'.at d k)).records d k) x (kept.kept.states d k)) (sym (behind_else sess c p to d k not))
          (subst (λ (x : ℕ). IsRecorded ((v.nodes x).records d k) (behind_of c d k) (kept.kept.states d k)) (sym (at_else sess c p to d k not))
          (subst (λ o. IsRecorded o (behind_of c d k) (kept.kept.states d k)) (sym (rec_else (c.at d k) d k (else_apart sess d ours refl not)))
          (kept.kept.joined.records d k low (subst (λ (n : ℕ). k ≤ n) (top_else sess c p to d not) le)))))

  abbrev Alone : EndId → Type 0
  Alone d = d.side < 2 → (k x : ℕ) (r : RecordAt) → (v.nodes x).records d k ≡ Some r → IsInChain c' d k x

  pub alone : (d : EndId) → d.side < 2 → Alone d
  alone = by_ends sess Alone at_near at_far away
    where
      -- there was no record of the session
      was_none : (d : EndId) (k x : ℕ) (r : RecordAt) → d.sess ≡ sess → d.side < 2 → (w.nodes x).records d k ≡ Some r → ⊥
      was_none d k x r is low got =
          let chain = kept.kept.joined.alone d k x r low got in
          let zero_hop : k ≡ 0 = (let le = chain.0 in let top = top_was d is low in omega (arith, le, top)) in
          let none = none_was d is low x in
          let some : (w.nodes x).records d 0 ≡ Some r = ap (λ (n : ℕ). (w.nodes x).records d n) (sym zero_hop) ∙ got in
          cc (none, some)

      at_near : ours.side < 2 → (k x : ℕ) (r : RecordAt) → (v.nodes x).records ours k ≡ Some r → IsInChain c' ours k x
      at_near low k x r got = by (x == p) refl got
        where
          here : (x == p) ≡ true → (b : Bool) → (is_same_end ours ours && (k == 0)) ≡ b
              → (if b then record_with to (Held []) else (w.nodes p).records ours k) ≡ Some r → IsInChain c' ours k x
          here t true u i =
              let zero_hop : k ≡ 0 = eqb-true k 0 (both_true (is_same_end ours ours) (k == 0) u).1 in
              (omega (arith, zero_hop), choose_near sess p to (c.at ours k) ∙ sym (eqb-true x p t))
          here t false u i = absurd (was_none ours k p r refl (omega arith) i)

          by : (b : Bool) → (x == p) ≡ b → (if b then (open_session play (w.nodes p) to sess).node else w.nodes x).records ours k ≡ Some r
              → IsInChain c' ours k x
          by true t i = here t (is_same_end ours ours && (k == 0)) refl i
          by false t i = absurd (was_none ours k x r refl (omega arith) i)

      at_far : theirs.side < 2 → (k x : ℕ) (r : RecordAt) → (v.nodes x).records theirs k ≡ Some r → IsInChain c' theirs k x
      at_far low k x r got = absurd (was_none theirs k x r refl (omega arith) (sym (rec_else x theirs k (far_apart sess sess)) ∙ got))

      away : (d : EndId) → (d.sess == sess) ≡ false → Alone d
      away d not low k x r got = (le, at_else sess c p to d k not ∙ chain.1)
        where
          chain : IsInChain c d k x
          chain = kept.kept.joined.alone d k x r low (sym (rec_else x d k (else_apart sess d ours refl not)) ∙ got)

          le : k ≤ c'.top d
          le = subst (λ (n : ℕ). k ≤ n) (sym (top_else sess c p to d not)) chain.0

  pub there : (d : EndId) (k : ℕ) → d.side < 2 → 0 < k → k ≤ c'.top d → HasRecord (v.nodes (c'.at d k)) d k
  there d k low some le = by (d.sess == sess) refl
    where
      by : (b : Bool) → (d.sess == sess) ≡ b → HasRecord (v.nodes (c'.at d k)) d k
      by true t = let top = top_new sess c p to d t in absurd (omega (arith, some, le, top))
      by false t =
          subst (λ (x : ℕ). HasRecord (v.nodes x) d k) (sym (at_else sess c p to d k t))
          (stays (c.at d k) d k (kept.kept.joined.there d k low some (subst (λ (n : ℕ). k ≤ n) (top_else sess c p to d t) le)))

  pub left : (d : EndId) (k : ℕ) → d.side < 2 → k < c'.top d → IsLeft d k (c'.at d (suc k)) (traffic v.lanes c' (claiming d k)) (states' d k)
  left d k low lt = by (d.sess == sess) refl
    where
      by : (b : Bool) → (d.sess == sess) ≡ b → IsLeft d k (c'.at d (suc k)) (traffic v.lanes c' (claiming d k)) (states' d k)
      by true t = let top = top_new sess c p to d t in absurd (omega (arith, lt, top))
      by false t =
          subst (λ s. IsLeft d k (c'.at d (suc k)) (traffic v.lanes c' (claiming d k)) s)
          (sym (choose_else sess d (Held []) Closed (kept.kept.states d k) t))
          (subst (λ l. IsLeft d k (c'.at d (suc k)) l (kept.kept.states d k)) (sym (old_road (claiming d k) t))
          (subst (λ (x : ℕ). IsLeft d k x (traffic w.lanes c (claiming d k)) (kept.kept.states d k)) (sym (at_else sess c p to d (suc k) t))
          (kept.kept.joined.left d k low (subst (λ (n : ℕ). k < n) (top_else sess c p to d t) lt))))
