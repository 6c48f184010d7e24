-- What a party's step finds: the Held records of the ends that it names; and what its program binds
-- afterwards.
use Rattle.std.proofs.Common.{◌≡◌, ℕ, ◌<◌, List, [], refl, sym, subst, ap, ◌∙◌, arith, option_and_then}
use Rattle.std.specs.Prelude.{Bool, true, false, ◌&&◌, ◌==◌, if◌then◌else◌, Some}
use Rattle.std.proofs.lemmas.Bool.{eqb-true, eq-eqb}
use Rattle.sj_base.specs.declared.EndId.{EndId}
use Rattle.sj_base.specs.declared.Msg.{Msg}
use Rattle.sj_base.specs.declared.Msg.TheVariants as msgs
use Rattle.sj_rules.specs.Record.{is_same_end}
use Rattle.sj_rules.specs.Binding.{NamesNoEnd}
use Rattle.sj_rules.specs.PlainSide.{PlainSide, PlainAt}
use Rattle.sj_rules.specs.PlainChanges.{waits_of}
use Rattle.sj_forward_rules.specs.Record.{SentAt, StateAt, Held, Parked, Passing, Closed, FrameAt, opened_in}
use Rattle.sj_forward_rules.specs.Node.{NodeAt, held_at, held_of}
use Rattle.sj_forward_rules.specs.World.{WorldAt}
use Rattle.sj_forward_laws.specs.Roads.{Chains, behind_of}
use Rattle.sj_forward_laws.specs.Kept.{IsRecorded, Seat, in_use, on_its_way, at_its_end, in_open, OpensFit, IsLast, IsNamed, NamesFit, IsKept}
use Rattle.sj_forward_laws.proofs.EndLemmas.{same_end, same_is}
use Rattle.sj_forward_laws.proofs.OpensLemmas.{OpensLike}
use Rattle.sj_forward_laws.proofs.DeliveryLemmas.{is_in_open}
use Rattle.sj_forward_laws.proofs.RecordLemmas.{record_with}
use Rattle.sj_forward_laws.proofs.MovedLemmas.{other_hop, other_name}

-- a hop below the last one isn't the last one
pub not_top : (c : Chains) (y d : EndId) (k : ℕ) → k < c.top d → (is_same_end d y && (k == c.top y)) ≡ false
not_top c y d k lt = by (is_same_end d y) refl
  where
    by : (b : Bool) → is_same_end d y ≡ b → (is_same_end d y && (k == c.top y)) ≡ false
    by true t = let same : c.top d ≡ c.top y = ap c.top (same_is d y t) in other_hop d y k (c.top y) (λ i. omega (arith, lt, i, same))
    by false t = other_name d y k (c.top y) t

-- an end that isn't in an Open
shut_fits : (s : Seat) (sess : ℕ) (fs : List FrameAt) → is_in_open s ≡ false → opened_in fs ≡ [] → OpensFit s sess fs
shut_fits in_use sess fs shut none = none
shut_fits (on_its_way e n) sess fs shut none = none
shut_fits at_its_end sess fs shut none = none
shut_fits in_open sess fs shut none = absurd (cc shut)

-- an end in use
abbrev pub is_in_use : Seat → Bool
is_in_use in_use = true
is_in_use (on_its_way e n) = false
is_in_use at_its_end = false
is_in_use in_open = false

-- the message in which an end is on its way
abbrev pub way_end : EndId → Seat → EndId
way_end d in_use = d
way_end d (on_its_way e n) = e
way_end d at_its_end = d
way_end d in_open = d

abbrev pub way_number : Seat → ℕ
way_number in_use = 0
way_number (on_its_way e n) = n
way_number at_its_end = 0
way_number in_open = 0

-- a value names no end
pub value_fits : (c : Chains) (seats : EndId → Seat) (d : EndId) (n hop : ℕ) (m : Msg) → NamesNoEnd m → NamesFit c seats d n m hop
value_fits c seats d n hop (msgs.Sess sess side k) none = absurd none
value_fits c seats d n hop (msgs.Int x) none = tt
value_fits c seats d n hop (msgs.Bool x) none = tt
value_fits c seats d n hop (msgs.Text x) none = tt
value_fits c seats d n hop (msgs.Label x) none = tt
value_fits c seats d n hop (msgs.More x) none = tt

-- a record that is in use is Held, at the hop number of its handovers
pub record IsHeldLast {P : Type 0} (x : PlainSide P) (top : ℕ) (st : StateAt) : Type 0 where
  pub untaken : List SentAt
  pub is : st ≡ Held untaken
  pub hops : x.hops ≡ top

held_last : {P : Type 0} (IsOver : P → Type 0) (x : PlainSide P) (waits : List Msg) (top : ℕ) (st : StateAt) → IsLast IsOver x waits top in_use st
    → IsHeldLast x top st
held_last IsOver x waits top (Held ms) last = record { untaken = ms; is = refl; hops = last }
held_last IsOver x waits top (Parked ms) last = absurd last
held_last IsOver x waits top (Passing p) last = absurd last
held_last IsOver x waits top Closed last = absurd last

module _ {P Q : Type 0} (IsOver : P → Type 0) (binds : Q → EndId → Bool) (parties : ℕ) (w : WorldAt Q) (plain : PlainAt P Q)
    (kept : IsKept IsOver binds parties w plain) (p : ℕ) where
  -- what is known of an end that the party binds
  pub record IsHeldHere (e : EndId) : Type 0 where
    pub low : e.side < 2
    pub seat : kept.seats e ≡ in_use
    pub at : kept.chains.at e (kept.chains.top e) ≡ p
    pub held : IsHeldLast (plain.sides e) (kept.chains.top e) (kept.states e (kept.chains.top e))
    pub found : held_of (w.nodes p) e
        ≡ Some (record { hop = kept.chains.top e; behind = behind_of kept.chains e (kept.chains.top e); untaken = held.untaken })

  pub held_here : (e : EndId) → binds (plain.programs p) e ≡ true → IsHeldHere e
  held_here e b =
      let known = kept.bound p e b in
      let last : IsLast IsOver (plain.sides e) (waits_of plain e) (kept.chains.top e) in_use (kept.states e (kept.chains.top e)) =
      subst (λ s. IsLast IsOver (plain.sides e) (waits_of plain e) (kept.chains.top e) s (kept.states e (kept.chains.top e))) known.1
      (kept.last e known.0) in
      let held = held_last IsOver (plain.sides e) (waits_of plain e) (kept.chains.top e) (kept.states e (kept.chains.top e)) last in
      let use_is : (w.nodes p).uses e ≡ Some (kept.chains.top e) =
      subst (λ (x : ℕ). (w.nodes x).uses e ≡ Some (kept.chains.top e)) known.2 (kept.uses e known.0 known.1) in
      let there : (w.nodes p).records e (kept.chains.top e) ≡ record_with (behind_of kept.chains e (kept.chains.top e)) (Held held.untaken) =
      subst (λ s. IsRecorded ((w.nodes p).records e (kept.chains.top e)) (behind_of kept.chains e (kept.chains.top e)) s) held.is
      (subst (λ (x : ℕ). IsRecorded ((w.nodes x).records e (kept.chains.top e)) (behind_of kept.chains e (kept.chains.top e))
      (kept.states e (kept.chains.top e))) known.2
      (kept.joined.records e (kept.chains.top e) known.0 (omega arith))) in
      record {
        low = known.0;
        seat = known.1;
        at = known.2;
        held = held;
        found = ap (λ o. option_and_then (λ h. held_at h ((w.nodes p).records e h)) o) use_is
            ∙ ap (λ r. held_at (kept.chains.top e) r) there;
      }

  -- the programs once the party's goes on
  pub program_goes : (n : NodeAt Q) (g : Q) → n.program ≡ g → (k : ℕ)
      → (if k == p then n else w.nodes k).program ≡ (if k == p then g else plain.programs k)
  program_goes n g is k = by (k == p)
    where
      by : (b : Bool) → (if b then n else w.nodes k).program ≡ (if b then g else plain.programs k)
      by true = is
      by false = kept.programs k

  -- what the programs bind then
  pub bound_goes : (F : ℕ → EndId → Type 0) (g : Q) → ((d : EndId) → binds g d ≡ true → F p d)
      → ((k : ℕ) (d : EndId) → (k ≡ p → ⊥) → binds (plain.programs k) d ≡ true → F k d)
      → (k : ℕ) (d : EndId) → binds (if k == p then g else plain.programs k) d ≡ true → F k d
  bound_goes F g here away k d = by (k == p) refl
    where
      by : (b : Bool) → (k == p) ≡ b → binds (if b then g else plain.programs k) d ≡ true → F k d
      by true t bound = let i : k ≡ p = eqb-true k p t in subst (λ (x : ℕ). F x d) (sym i) (here d bound)
      by false t bound = away k d (λ i. let u : (k == p) ≡ true = eq-eqb k p i in cc (t, u)) bound

  -- ---- an end that the party uses leaves its seat

  module _ (y : EndId) (held : IsHeldHere y) (s : Seat) (not_used : is_in_use s ≡ false) where
    -- no Open is on the road to an end that isn't in one
    pub opens_left : is_in_open s ≡ false → (d : EndId) → OpensLike (kept.seats d) (if is_same_end d y then s else kept.seats d)
    opens_left shut d sess fs fit = by (is_same_end d y) refl
      where
        by : (b : Bool) → is_same_end d y ≡ b → OpensFit (if b then s else kept.seats d) sess fs
        by true t = shut_fits s sess fs shut (subst (λ (z : Seat). OpensFit z sess fs) (ap kept.seats (same_is d y t) ∙ held.seat) fit)
        by false t = fit

    abbrev pub seats_left : EndId → Seat
    seats_left d = if is_same_end d y then s else kept.seats d

    pub seat_away : (d : EndId) → is_same_end d y ≡ false → seats_left d ≡ kept.seats d
    seat_away d t = ap (λ (b : Bool). if b then s else kept.seats d) t

    pub seat_here : seats_left y ≡ s
    seat_here = ap (λ (b : Bool). if b then s else kept.seats y) (same_end y)

    -- what is on its way is another one
    pub names_left : (d : EndId) (n : ℕ) (m : Msg) (hop : ℕ) → NamesFit kept.chains kept.seats d n m hop → NamesFit kept.chains seats_left d n m hop
    names_left d n (msgs.Sess sess side k) hop fit = by (is_same_end (record { sess = sess; side = side }) y) refl
      where
        by : (b : Bool) → is_same_end (record { sess = sess; side = side }) y ≡ b
            → IsNamed kept.chains seats_left d n (record { sess = sess; side = side }) k hop
        by true t =
            let way : kept.seats y ≡ on_its_way d n = ap kept.seats (sym (same_is (record { sess = sess; side = side }) y t)) ∙ fit.seat in
            let bad : true ≡ false = ap is_in_use (sym held.seat ∙ way) in
            absurd (cc bad)
        by false t = record {
          below = fit.below;
          seat = seat_away (record { sess = sess; side = side }) t
              ∙ fit.seat;
          keeper_is = fit.keeper_is;
          hop_is = fit.hop_is;
        }
    names_left d n (msgs.Int x) hop fit = tt
    names_left d n (msgs.Bool x) hop fit = tt
    names_left d n (msgs.Text x) hop fit = tt
    names_left d n (msgs.Label x) hop fit = tt
    names_left d n (msgs.More x) hop fit = tt

    -- where each end is bound
    abbrev pub BoundLeft : ℕ → EndId → Type 0
    BoundLeft k d = (d.side < 2) × (seats_left d ≡ in_use) × (kept.chains.at d (kept.chains.top d) ≡ k)

    pub bound_left : (g : Q) → ((d : EndId) → binds g d ≡ true → (binds (plain.programs p) d ≡ true) × (is_same_end d y ≡ false))
        → (k : ℕ) (d : EndId) → binds (if k == p then g else plain.programs k) d ≡ true → BoundLeft k d
    bound_left g less =
        bound_goes BoundLeft g (λ d b. let known = kept.bound p d (less d b).0 in (known.0, seat_away d (less d b).1 ∙ known.1, known.2)) away
      where
        away : (k : ℕ) (d : EndId) → (k ≡ p → ⊥) → binds (plain.programs k) d ≡ true → BoundLeft k d
        away k d apart b = by (is_same_end d y) refl
          where
            by : (t : Bool) → is_same_end d y ≡ t → BoundLeft k d
            by true t =
                let there : kept.chains.at y (kept.chains.top y) ≡ k =
                subst (λ x. kept.chains.at x (kept.chains.top x) ≡ k) (same_is d y t) (kept.bound k d b).2 in
                absurd (apart (sym there ∙ held.at))
            by false t = let known = kept.bound k d b in (known.0, seat_away d t ∙ known.1, known.2)

    -- the ends in use
    pub uses_left : (n : NodeAt Q) → ((d : EndId) → is_same_end d y ≡ false → n.uses d ≡ (w.nodes p).uses d) → (d : EndId) → d.side < 2
        → seats_left d ≡ in_use
        → (if kept.chains.at d (kept.chains.top d) == p then n else w.nodes (kept.chains.at d (kept.chains.top d))).uses d ≡ Some (kept.chains.top d)
    uses_left n same d i used = by (is_same_end d y) refl
      where
        by : (t : Bool) → is_same_end d y ≡ t
            → (if kept.chains.at d (kept.chains.top d) == p then n else w.nodes (kept.chains.at d (kept.chains.top d))).uses d
            ≡ Some (kept.chains.top d)
        by true t =
            let bad : true ≡ false = sym (ap is_in_use (sym (ap (λ (b : Bool). if b then s else kept.seats d) t) ∙ used)) ∙ not_used in
            absurd (cc bad)
        by false t = at (kept.chains.at d (kept.chains.top d) == p) refl ∙ kept.uses d i (sym (seat_away d t) ∙ used)
          where
            at : (b : Bool) → (kept.chains.at d (kept.chains.top d) == p) ≡ b
                → (if b then n else w.nodes (kept.chains.at d (kept.chains.top d))).uses d ≡ (w.nodes (kept.chains.at d (kept.chains.top d))).uses d
            at true u = same d t ∙ ap (λ (x : ℕ). (w.nodes x).uses d) (sym (eqb-true (kept.chains.at d (kept.chains.top d)) p u))
            at false u = refl
