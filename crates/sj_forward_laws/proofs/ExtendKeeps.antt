-- An end is taken: it is in use at the next hop, and its Claim is sent. The invariant is kept.
use Rattle.std.proofs.Common.{◌≡◌, ℕ, suc, ◌+◌, ◌<◌, ◌≤◌, List, [], ◌∷◌, ◌++◌, drop, refl, sym, subst, ap, ◌∙◌, arith, inl, inr, append-nil}
use Rattle.std.specs.Prelude.{Bool, true, false, ◌&&◌, ◌==◌, if◌then◌else◌, map, Some, ◌⊎◌, slice_get}
use Rattle.std.specs.List.{AllByRecursion}
use Rattle.std.proofs.lemmas.Bool.{eqb-true}
use Rattle.sj_base.specs.declared.EndId.{EndId}
use Rattle.sj_base.specs.declared.Msg.{Msg}
use Rattle.sj_base.specs.declared.Msg.TheVariants as msgs
use Rattle.sj_rules.specs.Record.{is_same_end, other_end}
use Rattle.sj_rules.specs.Acts.{plain_placed}
use Rattle.sj_rules.specs.PlainSide.{PlainSide, PlainAt}
use Rattle.sj_rules.specs.PlainChanges.{waits_of}
use Rattle.sj_forward_rules.specs.Record.{RecordAt, SentAt, StateAt, Held, Parked, Passing, Closed, FrameAt, Claim, Mail, stored}
use Rattle.sj_forward_rules.specs.Node.{NodeAt, HasRecord}
use Rattle.sj_forward_rules.specs.World.{WorldAt, lanes_with}
use Rattle.sj_forward_laws.specs.Roads.{Chains, Road, inward, outward, claiming, is_road, behind_of, messages_in}
use Rattle.sj_forward_laws.specs.Pipe.{traffic, from_last, from_first, in_part, out_part, pipe}
use Rattle.sj_forward_laws.specs.Kept.{IsRecorded, IsInChain, Seat, in_use, on_its_way, OpensFit, IsLeft, IsLast, NamesFit, IsKept}
use Rattle.sj_forward_laws.proofs.EndLemmas.{same_end, same_is, both_true, other_low}
use Rattle.sj_forward_laws.proofs.PartLemmas.{same_last, same_first}
use Rattle.sj_forward_laws.proofs.RoadLemmas.{road_self, IsPost, push_same, push_here, push_lanes}
use Rattle.sj_forward_laws.proofs.OpensLemmas.{OpensLike}
use Rattle.sj_forward_laws.proofs.StayLemmas.{Stays}
use Rattle.sj_forward_laws.proofs.RecordLemmas.{written, written_here, written_away, for_all, record_with}
use Rattle.sj_forward_laws.proofs.ChainLemmas.{longer, not_new, at_old, at_new, top_old, top_new, top_more, behind_old, lanes_old, within}
use Rattle.sj_forward_laws.proofs.ChainLemmas.{traffic_old, traffic_none, below_old}

-- a record of an end on its way is Parked, and waits for its Claim
parked_left : {P : Type 0} (IsOver : P → Type 0) (x : PlainSide P) (waits : List Msg) (e : EndId) (top n next : ℕ) (d : EndId)
    (claims : List FrameAt) (st : StateAt)
    → claims ≡ Claim e top ∷ [] → IsLast IsOver x waits top (on_its_way d n) st → IsLeft e top next claims st
parked_left IsOver x waits e top n next d claims (Parked ms) one last = one
parked_left IsOver x waits e top n next d claims (Held ms) one last = absurd last
parked_left IsOver x waits e top n next d claims (Passing q) one last = absurd last
parked_left IsOver x waits e top n next d claims Closed one last = absurd last

-- and it was delegated once more than it was taken
hops_on_way : {P : Type 0} (IsOver : P → Type 0) (x : PlainSide P) (waits : List Msg) (top n : ℕ) (d : EndId) (st : StateAt)
    → IsLast IsOver x waits top (on_its_way d n) st → x.hops ≡ suc top
hops_on_way IsOver x waits top n d (Parked ms) last = last
hops_on_way IsOver x waits top n d (Held ms) last = absurd last
hops_on_way IsOver x waits top n d (Passing q) last = absurd last
hops_on_way IsOver x waits top n d Closed last = absurd last

-- another side than before, at most in its place
abbrev pub IsPlaced : {P : Type 0} → (named : P) → (is_it : Bool) → PlainSide P → PlainSide P → Type 0
IsPlaced named true x z = z ≡ plain_placed x named
IsPlaced named false x z = z ≡ x

placed_part : {P X : Type 0} (named : P) (f : PlainSide P → X) → ((x : PlainSide P) → f (plain_placed x named) ≡ f x)
    → (b : Bool) (x z : PlainSide P) → IsPlaced named b x z → f z ≡ f x
placed_part named f same true x z is = ap f is ∙ same x
placed_part named f same false x z is = ap f is

module _ {P Q : Type 0} (IsOver : P → Type 0) (binds : Q → EndId → Bool) (parties : ℕ) (w : WorldAt Q) (plain plain' : PlainAt P Q)
    (kept : IsKept IsOver binds parties w plain)
    (y e0 : EndId) (low : y.side < 2) (p n0 keeper : ℕ) (named : P) (nodes' : ℕ → NodeAt Q)
    (p_below : p < parties) (sides : (d : EndId) → IsPlaced named (is_same_end d y) (plain.sides d) (plain'.sides d))
    (keeper_is : kept.chains.at y (kept.chains.top y) ≡ keeper) (seat : kept.seats y ≡ on_its_way e0 n0)
    (gone : (d : EndId) (n : ℕ) → kept.seats y ≡ on_its_way d ((plain.sides d).taken + n) → ⊥)
    (recs_old : (d : EndId) (k : ℕ) → d.side < 2 → k ≤ kept.chains.top d
    → IsRecorded ((nodes' (kept.chains.at d k)).records d k) (behind_of kept.chains d k) (kept.states d k))
    (stays : (x : ℕ) → Stays (w.nodes x) (nodes' x))
    (alone_now : (d : EndId) (k x : ℕ) (r : RecordAt) → d.side < 2 → (nodes' x).records d k ≡ Some r
    → IsInChain kept.chains d k x ⊎ (((is_same_end d y && (k == suc (kept.chains.top y))) ≡ true) × (x ≡ p)))
    (rec_new : (nodes' p).records y (suc (kept.chains.top y)) ≡ Some (record { behind = keeper; state = Held [] }))
    (uses_new : (nodes' p).uses y ≡ Some (suc (kept.chains.top y)))
    (uses_old : (d : EndId) → is_same_end d y ≡ false → d.side < 2 → kept.seats d ≡ in_use
    → (nodes' (kept.chains.at d (kept.chains.top d))).uses d ≡ Some (kept.chains.top d))
    (programs : (k : ℕ) → (nodes' k).program ≡ plain'.programs k)
    (bound : (k : ℕ) (d : EndId) → binds (plain'.programs k) d ≡ true
    → ((is_same_end d y ≡ true) × (k ≡ p))
    ⊎ ((is_same_end d y ≡ false) × (d.side < 2) × (kept.seats d ≡ in_use) × (kept.chains.at d (kept.chains.top d) ≡ k)))
  where
    abbrev c : Chains
    c = kept.chains

    abbrev c' : Chains
    c' = longer kept.chains y p

    abbrev states' : EndId → ℕ → StateAt
    states' = written kept.states y (suc (kept.chains.top y)) (Held [])

    abbrev seats' : EndId → Seat
    seats' d = if is_same_end d y then in_use else kept.seats d

    abbrev pub posts_claim : List Mail
    posts_claim = record { party = keeper; frame = Claim y (kept.chains.top y) } ∷ []

    abbrev pub world_longer : WorldAt Q
    world_longer = record { nodes = nodes'; lanes = lanes_with p posts_claim w.lanes }

    taken_same : (d : EndId) → (plain'.sides d).taken ≡ (plain.sides d).taken
    taken_same d = placed_part named (λ x. x.taken) (λ x. refl) (is_same_end d y) (plain.sides d) (plain'.sides d) (sides d)

    waits_same : (d : EndId) → waits_of plain' d ≡ waits_of plain d
    waits_same d =
        ap (λ l. drop (plain'.sides d).taken l)
        (placed_part named (λ x. x.sent) (λ x. refl) (is_same_end (other_end d) y) (plain.sides (other_end d)) (plain'.sides (other_end d))
        (sides (other_end d)))
        ∙ ap (λ (n : ℕ). drop n (plain.sides (other_end d)).sent) (taken_same d)

    mails : AllByRecursion (IsPost c' (claiming y (c.top y))) posts_claim
    mails = (record { road = refl; party = sym keeper_is ∙ sym (at_old c y p y (c.top y) (omega arith)) }, tt)

    pushed : (r : Road) → is_road r (claiming y (c.top y)) ≡ false → traffic world_longer.lanes c' r ≡ traffic w.lanes c' r
    pushed r apart = push_same c' w.lanes p (claiming y (c.top y)) (at_new c y p) posts_claim mails r apart

    old_state : (d : EndId) (k : ℕ) → k ≤ c.top d → states' d k ≡ kept.states d k
    old_state d k le = written_away kept.states y (suc (c.top y)) (Held []) d k (not_new c y p d k le)

    new_state : states' y (suc (c.top y)) ≡ Held []
    new_state = written_here kept.states y (suc (c.top y)) (Held []) y (suc (c.top y)) (road_self (inward y (suc (c.top y))))

    last_old : IsLast IsOver (plain.sides y) (waits_of plain y) (c.top y) (on_its_way e0 n0) (kept.states y (c.top y))
    last_old = subst (λ s. IsLast IsOver (plain.sides y) (waits_of plain y) (c.top y) s (kept.states y (c.top y))) seat (kept.last y low)

    -- ---- the records and the lanes

    records : (d : EndId) (k : ℕ) → d.side < 2 → k ≤ c'.top d → IsRecorded ((nodes' (c'.at d k)).records d k) (behind_of c' d k) (states' d k)
    records d k i le =
        for_all (λ d k. d.side < 2 → k ≤ c'.top d → IsRecorded ((nodes' (c'.at d k)).records d k) (behind_of c' d k) (states' d k)) y (suc (c.top y))
        (λ _ _. subst (λ s. IsRecorded ((nodes' (c'.at y (suc (c.top y)))).records y (suc (c.top y))) (behind_of c' y (suc (c.top y))) s)
        (sym new_state)
        (ap (λ (x : ℕ). (nodes' x).records y (suc (c.top y))) (at_new c y p) ∙ rec_new
        ∙ ap (λ (x : ℕ). record_with x (Held [])) (sym keeper_is ∙ sym (at_old c y p y (c.top y) (omega arith)))))
        d k (λ apart i le. old d k apart i le) i le
      where
        old : (d : EndId) (k : ℕ) → (is_same_end d y && (k == suc (c.top y))) ≡ false → d.side < 2 → k ≤ c'.top d
            → IsRecorded ((nodes' (c'.at d k)).records d k) (behind_of c' d k) (states' d k)
        old d k apart i le =
            let less : k ≤ c.top d = within c y p d k apart le in
            subst (λ s. IsRecorded ((nodes' (c'.at d k)).records d k) (behind_of c' d k) s) (sym (old_state d k less))
            (subst (λ (x : ℕ). IsRecorded ((nodes' (c'.at d k)).records d k) x (kept.states d k)) (sym (behind_old c y p d k less))
            (subst (λ (x : ℕ). IsRecorded ((nodes' x).records d k) (behind_of c d k) (kept.states d k)) (sym (at_old c y p d k less))
            (recs_old d k i less)))

    there_now : (d : EndId) (k : ℕ) → d.side < 2 → 0 < k → k ≤ c'.top d → HasRecord (nodes' (c'.at d k)) d k
    there_now d k i some le =
        for_all (λ d k. d.side < 2 → 0 < k → k ≤ c'.top d → HasRecord (nodes' (c'.at d k)) d k) y (suc (c.top y))
        (λ i some le. subst (λ (z : ℕ). HasRecord (nodes' z) y (suc (c.top y))) (sym (at_new c y p))
        (record { behind = keeper; state = Held [] }, rec_new))
        d k
        (λ apart i some le.
        let less : k ≤ c.top d = within c y p d k apart le in
        subst (λ (z : ℕ). HasRecord (nodes' z) d k) (sym (at_old c y p d k less)) (stays (c.at d k) d k (kept.joined.there d k i some less))) i
        some le

    lies : (d : EndId) (k x : ℕ) → IsInChain c d k x ⊎ (((is_same_end d y && (k == suc (c.top y))) ≡ true) × (x ≡ p)) → IsInChain c' d k x
    lies d k x (inl old) = ((let le = old.0 in let more = top_more c y p d in omega (arith, le, more)), at_old c y p d k old.0 ∙ old.1)
    lies d k x (inr new) =
        let both = both_true (is_same_end d y) (k == suc (c.top y)) new.0 in
        subst (λ z. IsInChain c' z k x) (sym (same_is d y both.0))
        (subst (λ (z : ℕ). IsInChain c' y z x) (sym (eqb-true k (suc (c.top y)) both.1))
        ((let more = top_new c y p in omega (arith, more)), at_new c y p ∙ sym new.1))

    lefts : (d : EndId) (k : ℕ) → d.side < 2 → k < c'.top d
        → IsLeft d k (c'.at d (suc k)) (traffic world_longer.lanes c' (claiming d k)) (states' d k)
    lefts d k i lt =
        for_all (λ d k. d.side < 2 → k < c'.top d → IsLeft d k (c'.at d (suc k)) (traffic world_longer.lanes c' (claiming d k)) (states' d k)) y
        (c.top y)
        (λ _ _. subst (λ s. IsLeft y (c.top y) (c'.at y (suc (c.top y))) (traffic world_longer.lanes c' (claiming y (c.top y))) s)
        (sym (old_state y (c.top y) (omega arith)))
        (parked_left IsOver (plain.sides y) (waits_of plain y) y (c.top y) n0 (c'.at y (suc (c.top y))) e0
        (traffic world_longer.lanes c' (claiming y (c.top y))) (kept.states y (c.top y)) one last_old))
        d k (λ apart i lt. away d k apart i lt) i lt
      where
        one : traffic world_longer.lanes c' (claiming y (c.top y)) ≡ Claim y (c.top y) ∷ []
        one =
            push_here c' w.lanes p (claiming y (c.top y)) (at_new c y p) posts_claim mails
            ∙ ap (λ l. l ++ Claim y (c.top y) ∷ []) (traffic_none c y p w.lanes kept.joined.lanes (claiming y (c.top y)) (λ t. omega (arith, t.1)))

        away : (d : EndId) (k : ℕ) → (is_same_end d y && (k == c.top y)) ≡ false → d.side < 2 → k < c'.top d
            → IsLeft d k (c'.at d (suc k)) (traffic world_longer.lanes c' (claiming d k)) (states' d k)
        away d k apart i lt =
            let less : k < c.top d = below_old c y p d k apart lt in
            subst (λ s. IsLeft d k (c'.at d (suc k)) (traffic world_longer.lanes c' (claiming d k)) s) (sym (old_state d k (omega (arith, less))))
            (subst (λ l. IsLeft d k (c'.at d (suc k)) l (kept.states d k))
            (sym (pushed (claiming d k) apart ∙ traffic_old c y p w.lanes (claiming d k) (i, less)))
            (subst (λ (x : ℕ). IsLeft d k x (traffic w.lanes c (claiming d k)) (kept.states d k)) (sym (at_old c y p d (suc k) less))
            (kept.joined.left d k i less)))

    -- ---- what is on its way

    in_old : (d : EndId) (k : ℕ) → d.side < 2 → k ≤ c.top d → in_part world_longer.lanes c' states' d k ≡ in_part w.lanes c kept.states d k
    in_old d k i le =
        ap (λ s. stored s ++ messages_in (traffic world_longer.lanes c' (inward d k))) (old_state d k le)
        ∙ ap (λ l. stored (kept.states d k) ++ messages_in l) (pushed (inward d k) refl ∙ traffic_old c y p w.lanes (inward d k) (i, le))

    in_new : in_part world_longer.lanes c' states' y (suc (c.top y)) ≡ []
    in_new =
        ap (λ s. stored s ++ messages_in (traffic world_longer.lanes c' (inward y (suc (c.top y))))) new_state
        ∙ ap (λ l. messages_in l) (pushed (inward y (suc (c.top y))) refl
        ∙ traffic_none c y p w.lanes kept.joined.lanes (inward y (suc (c.top y))) (λ t. omega (arith, t.1)))

    out_old : (d : EndId) (k : ℕ) → d.side < 2 → k < c.top d → out_part world_longer.lanes c' states' d k ≡ out_part w.lanes c kept.states d k
    out_old d k i lt = ap (λ l. messages_in l) (pushed (outward d k) refl ∙ traffic_old c y p w.lanes (outward d k) (i, lt))

    out_new : out_part world_longer.lanes c' states' y (c.top y) ≡ []
    out_new =
        ap (λ l. messages_in l) (pushed (outward y (c.top y)) refl
        ∙ traffic_none c y p w.lanes kept.joined.lanes (outward y (c.top y)) (λ t. omega (arith, t.1)))

    ins : (d : EndId) → d.side < 2 → from_last (in_part world_longer.lanes c' states' d) (c'.top d)
        ≡ from_last (in_part w.lanes c kept.states d) (c.top d)
    ins d i = by (is_same_end d y) refl
      where
        by : (b : Bool) → is_same_end d y ≡ b
            → from_last (in_part world_longer.lanes c' states' d) (c'.top d) ≡ from_last (in_part w.lanes c kept.states d) (c.top d)
        by true t =
            subst (λ x. from_last (in_part world_longer.lanes c' states' x) (c'.top x) ≡ from_last (in_part w.lanes c kept.states x) (c.top x))
            (sym (same_is d y t))
            (ap (λ (n : ℕ). from_last (in_part world_longer.lanes c' states' y) n) (top_new c y p)
            ∙ ap (λ z. z ++ from_last (in_part world_longer.lanes c' states' y) (c.top y)) in_new
            ∙ same_last (in_part w.lanes c kept.states y) (in_part world_longer.lanes c' states' y) (c.top y) (λ k le. in_old y k low le))
        by false t =
            ap (λ (n : ℕ). from_last (in_part world_longer.lanes c' states' d) n) (top_old c y p d t)
            ∙ same_last (in_part w.lanes c kept.states d) (in_part world_longer.lanes c' states' d) (c.top d) (λ k le. in_old d k i le)

    outs : (d : EndId) → d.side < 2
        → from_first (out_part world_longer.lanes c' states' d) (c'.top d) ≡ from_first (out_part w.lanes c kept.states d) (c.top d)
    outs d i = by (is_same_end d y) refl
      where
        by : (b : Bool) → is_same_end d y ≡ b
            → from_first (out_part world_longer.lanes c' states' d) (c'.top d) ≡ from_first (out_part w.lanes c kept.states d) (c.top d)
        by true t =
            subst (λ x. from_first (out_part world_longer.lanes c' states' x) (c'.top x) ≡ from_first (out_part w.lanes c kept.states x) (c.top x))
            (sym (same_is d y t))
            (ap (λ (n : ℕ). from_first (out_part world_longer.lanes c' states' y) n) (top_new c y p)
            ∙ ap (λ z. from_first (out_part world_longer.lanes c' states' y) (c.top y) ++ z) out_new
            ∙ append-nil (from_first (out_part world_longer.lanes c' states' y) (c.top y))
            ∙ same_first (out_part w.lanes c kept.states y) (out_part world_longer.lanes c' states' y) (c.top y) (λ k lt. out_old y k low lt))
        by false t =
            ap (λ (n : ℕ). from_first (out_part world_longer.lanes c' states' d) n) (top_old c y p d t)
            ∙ same_first (out_part w.lanes c kept.states d) (out_part world_longer.lanes c' states' d) (c.top d) (λ k lt. out_old d k i lt)

    pipe_same : (d : EndId) → d.side < 2 → pipe world_longer.lanes c' states' d ≡ pipe w.lanes c kept.states d
    pipe_same d i =
        ap (λ z. z ++ from_first (out_part world_longer.lanes c' states' (other_end d)) (c'.top (other_end d))) (ins d i)
        ∙ ap (λ z. from_last (in_part w.lanes c kept.states d) (c.top d) ++ z) (outs (other_end d) (other_low d))

    -- ---- the seats

    last_new : IsLast IsOver (plain'.sides y) (waits_of plain y) (c'.top y) (seats' y) (states' y (c'.top y))
    last_new =
        subst (λ (n : ℕ). IsLast IsOver (plain'.sides y) (waits_of plain y) n (seats' y) (states' y n)) (sym (top_new c y p))
        (subst (λ (b : Bool). IsLast IsOver (plain'.sides y) (waits_of plain y) (suc (c.top y)) (if b then in_use else kept.seats y)
        (states' y (suc (c.top y)))) (sym (same_end y))
        (subst (λ s. IsLast IsOver (plain'.sides y) (waits_of plain y) (suc (c.top y)) in_use s) (sym new_state)
        (placed_part named (λ x. x.hops) (λ x. refl) (is_same_end y y) (plain.sides y) (plain'.sides y) (sides y)
        ∙ hops_on_way IsOver (plain.sides y) (waits_of plain y) (c.top y) n0 e0 (kept.states y (c.top y)) last_old)))

    lasts : (d : EndId) → d.side < 2 → IsLast IsOver (plain'.sides d) (waits_of plain d) (c'.top d) (seats' d) (states' d (c'.top d))
    lasts d i = by (is_same_end d y) refl
      where
        by : (b : Bool) → is_same_end d y ≡ b → IsLast IsOver (plain'.sides d) (waits_of plain d) (c'.top d) (seats' d) (states' d (c'.top d))
        by true t =
            subst (λ x. IsLast IsOver (plain'.sides x) (waits_of plain x) (c'.top x) (seats' x) (states' x (c'.top x))) (sym (same_is d y t)) last_new
        by false t =
            let same : plain'.sides d ≡ plain.sides d = subst (λ (b : Bool). IsPlaced named b (plain.sides d) (plain'.sides d)) t (sides d) in
            subst (λ (x : PlainSide P). IsLast IsOver x (waits_of plain d) (c'.top d) (seats' d) (states' d (c'.top d))) (sym same)
            (subst (λ (n : ℕ). IsLast IsOver (plain.sides d) (waits_of plain d) n (seats' d) (states' d n)) (sym (top_old c y p d t))
            (subst (λ (b : Bool). IsLast IsOver (plain.sides d) (waits_of plain d) (c.top d) (if b then in_use else kept.seats d)
            (states' d (c.top d))) (sym t)
            (subst (λ s. IsLast IsOver (plain.sides d) (waits_of plain d) (c.top d) (kept.seats d) s) (sym (old_state d (c.top d) (omega arith)))
            (kept.last d i))))

    opens_stay : (d : EndId) → OpensLike (kept.seats d) (seats' d)
    opens_stay d sess fs fit = by (is_same_end d y) refl
      where
        by : (b : Bool) → is_same_end d y ≡ b → OpensFit (if b then in_use else kept.seats d) sess fs
        by true t = subst (λ s. OpensFit s sess fs) (ap kept.seats (same_is d y t) ∙ seat) fit
        by false t = fit

    names_stay : (d : EndId) (n : ℕ) (m : Msg) (hop : ℕ) → NamesFit c kept.seats d ((plain.sides d).taken + n) m hop
        → NamesFit c' seats' d ((plain.sides d).taken + n) m hop
    names_stay d n (msgs.Sess sess side k) hop fit = by (is_same_end (record { sess = sess; side = side }) y) refl
      where
        by : (b : Bool) → is_same_end (record { sess = sess; side = side }) y ≡ b
            → NamesFit c' seats' d ((plain.sides d).taken + n) (msgs.Sess sess side k) hop
        by true t = absurd (gone d n (ap kept.seats (sym (same_is (record { sess = sess; side = side }) y t)) ∙ fit.seat))
        by false t = record {
          below = fit.below;
          seat = ap (λ (b : Bool). if b then in_use else kept.seats (record { sess = sess; side = side })) t ∙ fit.seat;
          keeper_is = ap (λ (x : ℕ). c'.at (record { sess = sess; side = side }) x) (top_old c y p (record { sess = sess; side = side }) t)
              ∙ at_old c y p (record { sess = sess; side = side }) (c.top (record { sess = sess; side = side })) (omega arith) ∙ fit.keeper_is;
          hop_is = top_old c y p (record { sess = sess; side = side }) t ∙ fit.hop_is;
        }
    names_stay d n (msgs.Int x) hop fit = tt
    names_stay d n (msgs.Bool x) hop fit = tt
    names_stay d n (msgs.Text x) hop fit = tt
    names_stay d n (msgs.Label x) hop fit = tt
    names_stay d n (msgs.More x) hop fit = tt

    seat_new : seats' y ≡ in_use
    seat_new = ap (λ (b : Bool). if b then in_use else kept.seats y) (same_end y)

    last_at : c'.at y (c'.top y) ≡ p
    last_at = ap (λ (x : ℕ). c'.at y x) (top_new c y p) ∙ at_new c y p

    at_else : (d : EndId) → is_same_end d y ≡ false → c'.at d (c'.top d) ≡ c.at d (c.top d)
    at_else d t = ap (λ (x : ℕ). c'.at d x) (top_old c y p d t) ∙ at_old c y p d (c.top d) (omega arith)

    uses : (d : EndId) → d.side < 2 → seats' d ≡ in_use → (nodes' (c'.at d (c'.top d))).uses d ≡ Some (c'.top d)
    uses d i s = by (is_same_end d y) refl
      where
        by : (b : Bool) → is_same_end d y ≡ b → (nodes' (c'.at d (c'.top d))).uses d ≡ Some (c'.top d)
        by true t =
            subst (λ x. (nodes' (c'.at x (c'.top x))).uses x ≡ Some (c'.top x)) (sym (same_is d y t))
            (ap (λ (x : ℕ). (nodes' x).uses y) last_at ∙ uses_new ∙ ap (λ (x : ℕ). Some x) (sym (top_new c y p)))
        by false t =
            ap (λ (x : ℕ). (nodes' x).uses d) (at_else d t)
            ∙ uses_old d t i (ap (λ (b : Bool). if b then in_use else kept.seats d) (sym t) ∙ s)
            ∙ ap (λ (x : ℕ). Some x) (sym (top_old c y p d t))

    binds_now : (k : ℕ) (d : EndId) → ((is_same_end d y ≡ true) × (k ≡ p))
        ⊎ ((is_same_end d y ≡ false) × (d.side < 2) × (kept.seats d ≡ in_use) × (c.at d (c.top d) ≡ k))
        → (d.side < 2) × (seats' d ≡ in_use) × (c'.at d (c'.top d) ≡ k)
    binds_now k d (inl b) =
        subst (λ x. (x.side < 2) × (seats' x ≡ in_use) × (c'.at x (c'.top x) ≡ k)) (sym (same_is d y b.0)) (low, seat_new, last_at ∙ sym b.1)
    binds_now k d (inr b) = (b.1, ap (λ (x : Bool). if x then in_use else kept.seats d) b.0 ∙ b.2, at_else d b.0 ∙ b.3)

    below_longer : 0 < parties → (d : EndId) (k : ℕ) → c'.at d k < parties
    below_longer some d k = by (is_same_end d y && (k == suc (c.top y)))
      where
        by : (b : Bool) → (if b then p else c.at d k) < parties
        by true = p_below
        by false = kept.below some d k

    pub extend_keeps : IsKept IsOver binds parties world_longer plain'
    extend_keeps = record {
      chains = c';
      states = states';
      seats = seats';
      joined = record {
        records = records;
        there = there_now;
        alone = λ d k x r i is. lies d k x (alone_now d k x r i is);
        left = lefts;
        lanes = push_lanes c' w.lanes p (claiming y (c.top y)) (at_new c y p) (low, (let more = top_new c y p in omega (arith, more))) posts_claim
            mails (lanes_old c y p w.lanes kept.joined.lanes);
      };
      below = λ some d k. below_longer some d k;
      opens = λ d i. opens_stay d d.sess (traffic world_longer.lanes c' (inward d 0))
          (subst (λ l. OpensFit (kept.seats d) d.sess l) (sym (pushed (inward d 0) refl ∙ traffic_old c y p w.lanes (inward d 0) (i, omega arith)))
          (kept.opens d i));
      last = λ d i. subst (λ l. IsLast IsOver (plain'.sides d) l (c'.top d) (seats' d) (states' d (c'.top d))) (sym (waits_same d)) (lasts d i);
      waits = λ d i. ap (λ l. map (λ (x : SentAt). x.msg) l) (pipe_same d i) ∙ kept.waits d i ∙ sym (waits_same d);
      names = λ d n a i got.
          subst (λ (x : ℕ). NamesFit c' seats' d (x + n) a.msg a.hop) (sym (taken_same d))
          (names_stay d n a.msg a.hop (kept.names d n a i (ap (λ l. slice_get l n) (sym (pipe_same d i)) ∙ got)));
      programs = programs;
      uses = uses;
      bound = λ k d b. binds_now k d (bound k d b);
    }
