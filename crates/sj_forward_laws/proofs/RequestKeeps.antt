-- A party opens a session: its own end is in use, and the other one is in an Open. The invariant is
-- kept.
use Rattle.std.proofs.Common.{◌≡◌, ℕ, ◌+◌, ◌<◌, List, [], ◌∷◌, ◌++◌, drop, refl, sym, subst, ap, ◌∙◌, arith, inl, inr, append-nil}
use Rattle.std.specs.Prelude.{◌⊎◌, Bool, true, false, ◌==◌, if◌then◌else◌, map, Some, slice_get}
use Rattle.std.proofs.lemmas.Bool.{eqb-true, eq-eqb}
use Rattle.sj_base.specs.declared.EndId.{EndId}
use Rattle.sj_rules.specs.Acts.{plain_opened}
use Rattle.sj_rules.specs.Binding.{BindsAlso}
use Rattle.sj_rules.specs.Limits.{limit_of_requests}
use Rattle.sj_rules.specs.Opened.{opened_number}
use Rattle.sj_rules.specs.PlainChanges.{waits_of}
use Rattle.sj_rules.specs.PlainSide.{PlainSide, PlainAt}
use Rattle.sj_rules.specs.Play.{Play}
use Rattle.sj_rules.specs.Record.{is_same_end, other_end}
use Rattle.sj_forward_rules.specs.Acts.{open_session}
use Rattle.sj_forward_rules.specs.Node.{NodeAt}
use Rattle.sj_forward_rules.specs.Record.{SentAt, StateAt, Held, Closed, Open, Mail, opened_in, stored}
use Rattle.sj_forward_rules.specs.World.{WorldAt}
use Rattle.sj_forward_laws.specs.Kept.{Seat, in_use, on_its_way, at_its_end, in_open, OpensFit, IsLast}
use Rattle.sj_forward_laws.specs.Kept.{NamesFit, IsKept, IsOpenKept}
use Rattle.sj_forward_laws.specs.Pipe.{traffic, from_last, from_first, in_part, out_part, pipe}
use Rattle.sj_forward_laws.specs.Roads.{Chains, inward, outward, messages_in}
use Rattle.sj_forward_laws.proofs.ActLemmas.{is_in_use, program_goes, bound_goes}
use Rattle.sj_forward_laws.proofs.EndLemmas.{same_end, same_is}
use Rattle.sj_forward_laws.proofs.NamedLemmas.{IsSameWay, names_stay}
use Rattle.sj_forward_laws.proofs.NewSession.{near, far, choose, choose_near, choose_far, choose_else, choose_both, by_ends, else_apart}
use Rattle.sj_forward_laws.proofs.NewSession.{far_apart, other_near, other_far, opened, at_else, top_else, top_new}
use Rattle.sj_forward_laws.proofs.NewSession.{lanes_else}
use Rattle.sj_forward_laws.proofs.PartLemmas.{same_last, same_first}
use Rattle.sj_forward_laws.proofs.RoadLemmas.{push_lanes}
use Rattle.sj_forward_laws.proofs.RequestRecords.{world_requested, plain_requested, seat_was, none_about, start, mails, old_road, far_road}
use Rattle.sj_forward_laws.proofs.RequestRecords.{near_road, records, alone, there, left}

module _ {P Q : Type 0} (IsOver : P → Type 0) (play : Play P Q) (binds : Q → EndId → Bool) (parties : ℕ) (w : WorldAt Q) (plain : PlainAt P Q)
    (kept : IsOpenKept IsOver binds parties w plain)
    (p : ℕ) (place : P) (to : ℕ) (few : plain.requests p < limit_of_requests) (p_below : p < parties) (to_below : to < parties)
    (binds_it : BindsAlso binds (plain.programs p) (play.opened (plain.programs p) (near (opened_number p (plain.requests p))))
    (near (opened_number p (plain.requests p)))) where
  abbrev sess : ℕ
  sess = opened_number p (plain.requests p)

  abbrev ours : EndId
  ours = near sess

  abbrev theirs : EndId
  theirs = far sess

  abbrev c : Chains
  c = kept.kept.chains

  abbrev c' : Chains
  c' = opened sess c p to

  abbrev posts : List Mail
  posts = record { party = to; frame = Open sess } ∷ []

  abbrev v : WorldAt Q
  v = world_requested IsOver play binds parties w plain kept p place to few p_below to_below binds_it

  abbrev plain' : PlainAt P Q
  plain' = plain_requested IsOver play binds parties w plain kept p place to few p_below to_below binds_it

  abbrev states' : EndId → ℕ → StateAt
  states' d k = choose sess d (Held []) Closed (kept.kept.states d k)

  abbrev seats' : EndId → Seat
  seats' d = choose sess d in_use in_open (kept.kept.seats d)

  -- ---- what is on its way

  sides_near : plain'.sides ours ≡ plain_opened place false
  sides_near =
      ap (λ (b : Bool). if b then plain_opened place false else
      (if is_same_end ours theirs then plain_opened (play.dual place) true else plain.sides ours)) (same_end ours)

  pub sides_far : plain'.sides theirs ≡ plain_opened (play.dual place) true
  sides_far =
      ap (λ (b : Bool). if b then plain_opened place false else
      (if is_same_end theirs theirs then plain_opened (play.dual place) true else plain.sides theirs)) (far_apart sess sess)
      ∙ ap (λ (b : Bool). if b then plain_opened (play.dual place) true else plain.sides theirs) (same_end theirs)

  pub sides_else : (d : EndId) → (d.sess == sess) ≡ false → plain'.sides d ≡ plain.sides d
  sides_else d not =
      ap (λ (b : Bool). if b then plain_opened place false else
      (if is_same_end d theirs then plain_opened (play.dual place) true else plain.sides d)) (else_apart sess d ours refl not)
      ∙ ap (λ (b : Bool). if b then plain_opened (play.dual place) true else plain.sides d) (else_apart sess d theirs refl not)

  waits_else : (d : EndId) → (d.sess == sess) ≡ false → waits_of plain' d ≡ waits_of plain d
  waits_else d not =
      ap (λ (x : PlainSide P). drop (plain'.sides d).taken x.sent) (sides_else (other_end d) not)
      ∙ ap (λ (x : PlainSide P). drop x.taken (plain.sides (other_end d)).sent) (sides_else d not)

  waits_near : waits_of plain' ours ≡ []
  waits_near =
      ap (λ d. drop (plain'.sides ours).taken (plain'.sides d).sent) (other_near sess)
      ∙ ap (λ (x : PlainSide P). drop (plain'.sides ours).taken x.sent) sides_far ∙ ap (λ (x : PlainSide P). drop x.taken []) sides_near

  waits_far : waits_of plain' theirs ≡ []
  waits_far =
      ap (λ d. drop (plain'.sides theirs).taken (plain'.sides d).sent) (other_far sess)
      ∙ ap (λ (x : PlainSide P). drop (plain'.sides theirs).taken x.sent) sides_near ∙ ap (λ (x : PlainSide P). drop x.taken []) sides_far

  pipe_new : (d : EndId) → (d.sess == sess) ≡ true → pipe v.lanes c' states' d ≡ in_part v.lanes c' states' d 0
  pipe_new d is =
      ap (λ (n : ℕ). from_last (in_part v.lanes c' states' d) n ++ from_first (out_part v.lanes c' states' (other_end d)) (c'.top (other_end d)))
      (top_new sess c p to d is)
      ∙ ap (λ (n : ℕ). in_part v.lanes c' states' d 0 ++ from_first (out_part v.lanes c' states' (other_end d)) n)
      (top_new sess c p to (other_end d) is)
      ∙ append-nil (in_part v.lanes c' states' d 0)

  pipe_near : pipe v.lanes c' states' ours ≡ []
  pipe_near =
      pipe_new ours (eq-eqb sess sess refl)
      ∙ ap (λ s. stored s ++ messages_in (traffic v.lanes c' (inward ours 0))) (choose_near sess (Held []) Closed (kept.kept.states ours 0))
      ∙ ap messages_in (near_road IsOver play binds parties w plain kept p place to few p_below to_below binds_it)

  pipe_far : pipe v.lanes c' states' theirs ≡ []
  pipe_far =
      pipe_new theirs (eq-eqb sess sess refl)
      ∙ ap (λ s. stored s ++ messages_in (traffic v.lanes c' (inward theirs 0))) (choose_far sess (Held []) Closed (kept.kept.states theirs 0))
      ∙ ap messages_in (far_road IsOver play binds parties w plain kept p place to few p_below to_below binds_it)

  in_else : (d : EndId) (k : ℕ) → (d.sess == sess) ≡ false → in_part v.lanes c' states' d k ≡ in_part w.lanes c kept.kept.states d k
  in_else d k not =
      ap (λ s. stored s ++ messages_in (traffic v.lanes c' (inward d k))) (choose_else sess d (Held []) Closed (kept.kept.states d k) not)
      ∙ ap (λ l. stored (kept.kept.states d k) ++ messages_in l)
      (old_road IsOver play binds parties w plain kept p place to few p_below to_below binds_it (inward d k) not)

  pipe_else : (d : EndId) → (d.sess == sess) ≡ false → pipe v.lanes c' states' d ≡ pipe w.lanes c kept.kept.states d
  pipe_else d not =
      ap (λ (n : ℕ). from_last (in_part v.lanes c' states' d) n ++ from_first (out_part v.lanes c' states' (other_end d)) (c'.top (other_end d)))
      (top_else sess c p to d not)
      ∙ ap (λ (n : ℕ). from_last (in_part v.lanes c' states' d) (c.top d) ++ from_first (out_part v.lanes c' states' (other_end d)) n)
      (top_else sess c p to (other_end d) not)
      ∙ ap (λ z. z ++ from_first (out_part v.lanes c' states' (other_end d)) (c.top (other_end d)))
      (same_last (in_part w.lanes c kept.kept.states d) (in_part v.lanes c' states' d) (c.top d) (λ k le. in_else d k not))
      ∙ ap (λ z. from_last (in_part w.lanes c kept.kept.states d) (c.top d) ++ z)
      (same_first (out_part w.lanes c kept.kept.states (other_end d)) (out_part v.lanes c' states' (other_end d)) (c.top (other_end d))
      (λ k lt. ap (λ l. messages_in l) (old_road IsOver play binds parties w plain kept p place to few p_below to_below binds_it
      (outward (other_end d) k) not)))

  abbrev Waiting : EndId → Type 0
  Waiting d = d.side < 2 → map (λ (m : SentAt). m.msg) (pipe v.lanes c' states' d) ≡ waits_of plain' d

  waits : (d : EndId) → d.side < 2 → Waiting d
  waits =
      by_ends sess Waiting
      (λ low. ap (λ l. map (λ (m : SentAt). m.msg) l) pipe_near ∙ sym waits_near)
      (λ low. ap (λ l. map (λ (m : SentAt). m.msg) l) pipe_far ∙ sym waits_far)
      (λ d not low. ap (λ l. map (λ (m : SentAt). m.msg) l) (pipe_else d not) ∙ kept.kept.waits d low ∙ sym (waits_else d not))

  -- an end of the session isn't on its way
  ways : (y d : EndId) (n : ℕ) → kept.kept.seats y ≡ on_its_way d n → y.side < 2 → IsSameWay c c' kept.kept.seats seats' y
  ways y d n way low = by (y.sess == sess) refl
    where
      by : (b : Bool) → (y.sess == sess) ≡ b → IsSameWay c c' kept.kept.seats seats' y
      by true t =
          let clash : at_its_end ≡ on_its_way d n =
          sym (seat_was IsOver play binds parties w plain kept p place to few p_below to_below binds_it y (eqb-true y.sess sess t) low) ∙ way in
          absurd (cc clash)
      by false t = record {
        seat = choose_else sess y in_use in_open (kept.kept.seats y) t;
        at = ap (λ (n : ℕ). c'.at y n) (top_else sess c p to y t) ∙ at_else sess c p to y (c.top y) t;
        top = top_else sess c p to y t;
      }

  abbrev Named : EndId → Type 0
  Named d =
      (n : ℕ) (m : SentAt) → d.side < 2 → slice_get (pipe v.lanes c' states' d) n ≡ Some m
      → NamesFit c' seats' d ((plain'.sides d).taken + n) m.msg m.hop

  names : (d : EndId) → d.side < 2 → Named d
  names = by_ends sess Named (λ n m low got. nothing ours pipe_near n m got) (λ n m low got. nothing theirs pipe_far n m got) away
    where
      nothing : (d : EndId) → pipe v.lanes c' states' d ≡ [] → (n : ℕ) (m : SentAt) → slice_get (pipe v.lanes c' states' d) n ≡ Some m
          → NamesFit c' seats' d ((plain'.sides d).taken + n) m.msg m.hop
      nothing d empty n m got = absurd (let none : slice_get [] n ≡ Some m = ap (λ l. slice_get l n) (sym empty) ∙ got in cc none)

      away : (d : EndId) → (d.sess == sess) ≡ false → Named d
      away d not n m low got =
          subst (λ (x : PlainSide P). NamesFit c' seats' d (x.taken + n) m.msg m.hop) (sym (sides_else d not))
          (names_stay c c' kept.kept.seats seats' ways d ((plain.sides d).taken + n) m.hop m.msg
          (kept.kept.names d n m low (ap (λ l. slice_get l n) (sym (pipe_else d not)) ∙ got)))

  -- ---- the seats

  abbrev Opening : EndId → Type 0
  Opening d = d.side < 2 → OpensFit (seats' d) d.sess (traffic v.lanes c' (inward d 0))

  opens : (d : EndId) → d.side < 2 → Opening d
  opens = by_ends sess Opening at_near at_far away
    where
      at_near : ours.side < 2 → OpensFit (seats' ours) sess (traffic v.lanes c' (inward ours 0))
      at_near low =
          subst (λ s. OpensFit s sess (traffic v.lanes c' (inward ours 0))) (sym (choose_near sess in_use in_open (kept.kept.seats ours)))
          (ap opened_in (near_road IsOver play binds parties w plain kept p place to few p_below to_below binds_it))

      at_far : theirs.side < 2 → OpensFit (seats' theirs) sess (traffic v.lanes c' (inward theirs 0))
      at_far low =
          subst (λ s. OpensFit s sess (traffic v.lanes c' (inward theirs 0))) (sym (choose_far sess in_use in_open (kept.kept.seats theirs)))
          ([], (far_road IsOver play binds parties w plain kept p place to few p_below to_below binds_it), refl)

      away : (d : EndId) → (d.sess == sess) ≡ false → Opening d
      away d not low =
          subst (λ s. OpensFit s d.sess (traffic v.lanes c' (inward d 0))) (sym (choose_else sess d in_use in_open (kept.kept.seats d) not))
          (subst (λ l. OpensFit (kept.kept.seats d) d.sess l)
          (sym (old_road IsOver play binds parties w plain kept p place to few p_below to_below binds_it (inward d 0) not)) (kept.kept.opens d low))

  abbrev Last : EndId → Type 0
  Last d = d.side < 2 → IsLast IsOver (plain'.sides d) (waits_of plain' d) (c'.top d) (seats' d) (states' d (c'.top d))

  lasts : (d : EndId) → d.side < 2 → Last d
  lasts = by_ends sess Last at_near at_far away
    where
      at_near : ours.side < 2 → IsLast IsOver (plain'.sides ours) (waits_of plain' ours) (c'.top ours) (seats' ours) (states' ours (c'.top ours))
      at_near low =
          subst (λ s. IsLast IsOver (plain'.sides ours) (waits_of plain' ours) (c'.top ours) s (states' ours (c'.top ours)))
          (sym (choose_near sess in_use in_open (kept.kept.seats ours)))
          (subst (λ s. IsLast IsOver (plain'.sides ours) (waits_of plain' ours) (c'.top ours) in_use s)
          (sym (choose_near sess (Held []) Closed (kept.kept.states ours (c'.top ours))))
          (ap (λ (x : PlainSide P). x.hops) sides_near ∙ sym (top_new sess c p to ours (eq-eqb sess sess refl))))

      at_far : theirs.side < 2 → IsLast IsOver (plain'.sides theirs) (waits_of plain' theirs) (c'.top theirs) (seats' theirs)
          (states' theirs (c'.top theirs))
      at_far low =
          subst (λ s. IsLast IsOver (plain'.sides theirs) (waits_of plain' theirs) (c'.top theirs) s (states' theirs (c'.top theirs)))
          (sym (choose_far sess in_use in_open (kept.kept.seats theirs)))
          (subst (λ s. IsLast IsOver (plain'.sides theirs) (waits_of plain' theirs) (c'.top theirs) in_open s)
          (sym (choose_far sess (Held []) Closed (kept.kept.states theirs (c'.top theirs))))
          (ap (λ (x : PlainSide P). x.hops) sides_far, top_new sess c p to theirs (eq-eqb sess sess refl)))

      away : (d : EndId) → (d.sess == sess) ≡ false → Last d
      away d not low =
          subst (λ (x : PlainSide P). IsLast IsOver x (waits_of plain' d) (c'.top d) (seats' d) (states' d (c'.top d))) (sym (sides_else d not))
          (subst (λ l. IsLast IsOver (plain.sides d) l (c'.top d) (seats' d) (states' d (c'.top d))) (sym (waits_else d not))
          (subst (λ (n : ℕ). IsLast IsOver (plain.sides d) (waits_of plain d) n (seats' d) (states' d n)) (sym (top_else sess c p to d not))
          (subst (λ s. IsLast IsOver (plain.sides d) (waits_of plain d) (c.top d) s (states' d (c.top d)))
          (sym (choose_else sess d in_use in_open (kept.kept.seats d) not))
          (subst (λ s. IsLast IsOver (plain.sides d) (waits_of plain d) (c.top d) (kept.kept.seats d) s)
          (sym (choose_else sess d (Held []) Closed (kept.kept.states d (c.top d)) not))
          (kept.kept.last d low)))))

  -- ---- the programs

  node_at : {X : Type 0} (f : NodeAt Q → X) → f (v.nodes p) ≡ f (open_session play (w.nodes p) to sess).node
  node_at f = ap (λ (b : Bool). f (if b then (open_session play (w.nodes p) to sess).node else w.nodes p)) (eq-eqb p p refl)

  at_near_top : c'.at ours (c'.top ours) ≡ p
  at_near_top = choose_near sess p to (c.at ours (c'.top ours))

  at_else_top : (d : EndId) → (d.sess == sess) ≡ false → c'.at d (c'.top d) ≡ c.at d (c.top d)
  at_else_top d not = ap (λ (n : ℕ). c'.at d n) (top_else sess c p to d not) ∙ at_else sess c p to d (c.top d) not

  abbrev Using : EndId → Type 0
  Using d = d.side < 2 → seats' d ≡ in_use → (v.nodes (c'.at d (c'.top d))).uses d ≡ Some (c'.top d)

  uses : (d : EndId) → d.side < 2 → Using d
  uses = by_ends sess Using at_near at_far away
    where
      at_near : ours.side < 2 → seats' ours ≡ in_use → (v.nodes (c'.at ours (c'.top ours))).uses ours ≡ Some (c'.top ours)
      at_near low seat =
          ap (λ (x : ℕ). (v.nodes x).uses ours) at_near_top ∙ node_at (λ n. n.uses ours)
          ∙ ap (λ (b : Bool). if b then Some 0 else (w.nodes p).uses ours) (same_end ours)
          ∙ ap (λ (n : ℕ). Some n) (sym (top_new sess c p to ours (eq-eqb sess sess refl)))

      at_far : theirs.side < 2 → seats' theirs ≡ in_use → (v.nodes (c'.at theirs (c'.top theirs))).uses theirs ≡ Some (c'.top theirs)
      at_far low seat =
          let bad : false ≡ true = ap is_in_use (sym (choose_far sess in_use in_open (kept.kept.seats theirs)) ∙ seat) in
          absurd (cc bad)

      uses_else : (d : EndId) (x : ℕ) → is_same_end d ours ≡ false → (v.nodes x).uses d ≡ (w.nodes x).uses d
      uses_else d x apart = by (x == p) refl
        where
          by : (b : Bool) → (x == p) ≡ b → (if b then (open_session play (w.nodes p) to sess).node else w.nodes x).uses d ≡ (w.nodes x).uses d
          by true t = ap (λ (b : Bool). if b then Some 0 else (w.nodes p).uses d) apart ∙ ap (λ (y : ℕ). (w.nodes y).uses d) (sym (eqb-true x p t))
          by false t = refl

      away : (d : EndId) → (d.sess == sess) ≡ false → Using d
      away d not low seat =
          ap (λ (x : ℕ). (v.nodes x).uses d) (at_else_top d not) ∙ uses_else d (c.at d (c.top d)) (else_apart sess d ours refl not)
          ∙ kept.kept.uses d low (sym (choose_else sess d in_use in_open (kept.kept.seats d) not) ∙ seat)
          ∙ ap (λ (n : ℕ). Some n) (sym (top_else sess c p to d not))

  abbrev Bound : ℕ → EndId → Type 0
  Bound k d = (d.side < 2) × (seats' d ≡ in_use) × (c'.at d (c'.top d) ≡ k)

  was_bound : (k : ℕ) (d : EndId) → binds (plain.programs k) d ≡ true → Bound k d
  was_bound k d b = by (d.sess == sess) refl
    where
      by : (t : Bool) → (d.sess == sess) ≡ t → Bound k d
      by true t =
          let known = kept.kept.bound k d b in
          let bad : false ≡ true =
          ap is_in_use (sym (seat_was IsOver play binds parties w plain kept p place to few p_below to_below binds_it d (eqb-true d.sess sess t)
          known.0) ∙ known.1) in
          absurd (cc bad)
      by false t =
          let known = kept.kept.bound k d b in
          (known.0, choose_else sess d in_use in_open (kept.kept.seats d) t ∙ known.1, at_else_top d t ∙ known.2)

  bound : (k : ℕ) (d : EndId) → binds (plain'.programs k) d ≡ true → Bound k d
  bound =
      bound_goes IsOver binds parties w plain kept.kept p Bound (play.opened (plain.programs p) ours) (λ d b. now d ((binds_it d).0 b))
      (λ k d apart b. was_bound k d b)
    where
      now : (d : EndId) → (is_same_end d ours ≡ true) ⊎ (binds (plain.programs p) d ≡ true) → Bound p d
      now d (inl t) =
          subst (λ x. Bound p x) (sym (same_is d ours t)) (omega arith, choose_near sess in_use in_open (kept.kept.seats ours), at_near_top)
      now d (inr b) = was_bound p d b

  pub request_keeps : IsKept IsOver binds parties v plain'
  request_keeps = record {
    chains = c';
    states = states';
    seats = seats';
    joined = record {
      records = λ d k low le. records IsOver play binds parties w plain kept p place to few p_below to_below binds_it d low k low le;
      there = there IsOver play binds parties w plain kept p place to few p_below to_below binds_it;
      alone = λ d k x r low is. alone IsOver play binds parties w plain kept p place to few p_below to_below binds_it d low low k x r is;
      left = left IsOver play binds parties w plain kept p place to few p_below to_below binds_it;
      lanes =
          push_lanes c' w.lanes p (inward theirs 0) (start IsOver play binds parties w plain kept p place to few p_below to_below binds_it)
          (omega arith, omega arith) posts (mails IsOver play binds parties w plain kept p place to few p_below to_below binds_it)
          (λ x y. lanes_else sess c p to x y (w.lanes x y) (kept.kept.joined.lanes x y)
          (λ r is low. none_about IsOver play binds parties w plain kept p place to few p_below to_below binds_it r is low x y));
    };
    below = λ some d k. choose_both sess (λ (n : ℕ). n < parties) d p to (c.at d k) p_below to_below (kept.kept.below some d k);
    opens = λ d low. opens d low low;
    last = λ d low. lasts d low low;
    waits = λ d low. waits d low low;
    names = λ d n m low got. names d low n m low got;
    programs = program_goes IsOver binds parties w plain kept.kept p (open_session play (w.nodes p) to sess).node
        (play.opened (plain.programs p) ours) (ap (λ g. play.opened g ours) (kept.kept.programs p));
    uses = λ d low seat. uses d low low seat;
    bound = bound;
  }
