-- A node without what no entry reports of its ends, and what rows make of it.
use Rattle.std.proofs.Common.{◌≡◌, ◌∙◌, ℕ, ◌==◌, ◌&&◌, Bool, true, false, if◌then◌else◌, [], ◌∷◌, ◌++◌, Option, Some, None, option_map, refl, sym, ap}
use Rattle.sj_base.specs.declared.EndId.{EndId}
use Rattle.sj_rules.specs.Record.{EndAt, BodyAt, Carry, Fin, Claim, Signal, Ack, Give, Open, HeldAt, MainAt, Held, Closed, Expected, OldAt, Parked}
use Rattle.sj_rules.specs.Rows.{Worked, passive_closed, at_held}
use Rattle.sj_rules.specs.Node.{NodeAt, with_main, with_old, held_after, closed_after, parked_after, given_after, quietly, at_main}
use Rattle.sj_rules.specs.Mapped.{each_with}
use Rattle.sj_rules.proofs.NodeMapLemmas.{put-each}
use Rattle.sj_run.proofs.BareLemmas.{bare_end, bare_held, bare_main, bare_old, closed_bare, either_by, held_bare, left_by, state_by}

module _ {P Q : Type 0} where
  abbrev pub bare_node : NodeAt P Q → NodeAt P Q
  bare_node n = record { program = n.program; clock = n.clock; requests = n.requests; offers = n.offers; main = each_with bare_main n.main; old = each_with bare_old n.old }

  pub main_put : (e : EndId) (r : Option (MainAt P)) (n : NodeAt P Q) → bare_node (with_main e r n) ≡ with_main e (option_map bare_main r) (bare_node n)
  main_put e r n = ap (λ t. record (bare_node n) { main = t }) (sym (put-each bare_main e r n.main))

  pub old_put : (e : EndId) (r : Option (OldAt P)) (n : NodeAt P Q) → bare_node (with_old e r n) ≡ with_old e (option_map bare_old r) (bare_node n)
  old_put e r n = ap (λ t. record (bare_node n) { old = t }) (sym (put-each bare_old e r n.old))

  -- what a row makes of a node
  abbrev pub node_by : Option (Worked P (NodeAt P Q)) → Option (NodeAt P Q)
  node_by o = state_by bare_node o

  module _ (pick : ℕ → ℕ → ℕ) (m n : NodeAt P Q) (same : bare_node m ≡ bare_node n) where
    pub held_by : (e : EndId) (o p : Option (Worked P (HeldAt P))) → state_by bare_held o ≡ state_by bare_held p → node_by (option_map (held_after m e) o) ≡ node_by (option_map (held_after n e) p)
    held_by e o p s =
        left_by bare_node (held_after m e) bare_held (λ h. with_main e (Some (Held h)) (bare_node m)) (λ w. main_put e (Some (Held w.state)) m) o
        ∙ (λ i. option_map (λ h. with_main e (Some (Held h)) (same i)) (s i))
        ∙ sym (left_by bare_node (held_after n e) bare_held (λ h. with_main e (Some (Held h)) (bare_node n)) (λ w. main_put e (Some (Held w.state)) n) p)

    closed_by : (e : EndId) (o p : Option (Worked P (EndAt P))) → state_by bare_end o ≡ state_by bare_end p → node_by (option_map (closed_after m e) o) ≡ node_by (option_map (closed_after n e) p)
    closed_by e o p s =
        left_by bare_node (closed_after m e) bare_end (λ h. with_main e (Some (Closed h)) (bare_node m)) (λ w. main_put e (Some (Closed w.state)) m) o
        ∙ (λ i. option_map (λ h. with_main e (Some (Closed h)) (same i)) (s i))
        ∙ sym (left_by bare_node (closed_after n e) bare_end (λ h. with_main e (Some (Closed h)) (bare_node n)) (λ w. main_put e (Some (Closed w.state)) n) p)

    pub parked_by : (e : EndId) (o p : Option (Worked P (EndAt P))) → state_by bare_end o ≡ state_by bare_end p → node_by (option_map (parked_after m e) o) ≡ node_by (option_map (parked_after n e) p)
    parked_by e o p s =
        left_by bare_node (parked_after m e) bare_end (λ h. with_old e (Some (Parked h)) (bare_node m)) (λ w. old_put e (Some (Parked w.state)) m) o
        ∙ (λ i. option_map (λ h. with_old e (Some (Parked h)) (same i)) (s i))
        ∙ sym (left_by bare_node (parked_after n e) bare_end (λ h. with_old e (Some (Parked h)) (bare_node n)) (λ w. old_put e (Some (Parked w.state)) n) p)

    -- an end leaves under the same condition
    pub leaves_by : (e : EndId) (to at : ℕ) (x y : BodyAt P) (b c : Bool) → b ≡ c → node_by (option_map (given_after m e to) (if b then Some x else None)) ≡ node_by (option_map (given_after n e at) (if c then Some y else None))
    leaves_by e to at x y true true t = ap Some (old_put e None m ∙ ap (with_old e None) same ∙ sym (old_put e None n))
    leaves_by e to at x y true false t = absurd (cc t)
    leaves_by e to at x y false true t = absurd (cc t)
    leaves_by e to at x y false false t = refl

    -- the records that a frame meets, without what no entry reports
    pub main_comes : (origin : ℕ) (e : EndId) (b : BodyAt P) (r s : Option (MainAt P)) → option_map bare_main r ≡ option_map bare_main s → node_by (at_main pick m origin e b r) ≡ node_by (at_main pick n origin e b s)
    main_comes origin e b None None t = refl
    main_comes origin e b None (Some s) t = absurd (cc t)
    main_comes origin e b (Some r) None t = absurd (cc t)
    main_comes origin e b (Some (Held h)) (Some (Closed c)) t = absurd (cc t)
    main_comes origin e b (Some (Held h)) (Some (Expected k p ds)) t = absurd (cc t)
    main_comes origin e b (Some (Closed c)) (Some (Held h)) t = absurd (cc t)
    main_comes origin e b (Some (Closed c)) (Some (Expected k p ds)) t = absurd (cc t)
    main_comes origin e b (Some (Expected k p ds)) (Some (Held h)) t = absurd (cc t)
    main_comes origin e b (Some (Expected k p ds)) (Some (Closed c)) t = absurd (cc t)
    main_comes origin e b (Some (Expected k p ds)) (Some (Expected l q es)) t =
        ap Some (main_put e (Some (Expected k p (ds ++ record { party = origin; body = b } ∷ []))) m
        ∙ (λ i. with_main e (option_map (deferring b) (t i)) (same i))
        ∙ sym (main_put e (Some (Expected l q (es ++ record { party = origin; body = b } ∷ []))) n))
      where
        deferring : BodyAt P → MainAt P → MainAt P
        deferring b (Held h) = Held h
        deferring b (Closed c) = Closed c
        deferring b (Expected k p ds) = Expected k p (ds ++ record { party = origin; body = b } ∷ [])
    main_comes origin e b (Some (Held h)) (Some (Held k)) t =
        let alike : bare_held h ≡ bare_held k = cc t in
        held_by e (at_held pick h origin b) (at_held pick k origin b) (sym (held_bare pick h origin b) ∙ ap (λ x. state_by bare_held (at_held pick x origin b)) alike ∙ held_bare pick k origin b)
    main_comes origin e (Signal to conn party taken) (Some (Closed c)) (Some (Closed d)) t =
        let alike : bare_end c ≡ bare_end d = cc t in
        closed_by e (passive_closed pick c origin conn party taken) (passive_closed pick d origin conn party taken)
        (sym (closed_bare pick c origin conn party taken) ∙ ap (λ x. state_by bare_end (passive_closed pick x origin conn party taken)) alike ∙ closed_bare pick d origin conn party taken)
    main_comes origin e (Fin to conn number) (Some (Closed c)) (Some (Closed d)) t =
        let alike : bare_end c ≡ bare_end d = cc t in
        (λ i. node_by (if (conn == (alike i).conn) && (origin == (alike i).peer) && (number == (alike i).taken) then Some (quietly (with_main e None m)) else None))
        ∙ either_by bare_node ((conn == d.conn) && (origin == d.peer) && (number == d.taken)) (Some _) (Some _) (ap Some (main_put e None m ∙ ap (with_main e None) same ∙ sym (main_put e None n)))
    main_comes origin e (Carry to conn number taken msg) (Some (Closed c)) (Some (Closed d)) t = refl
    main_comes origin e (Claim of) (Some (Closed c)) (Some (Closed d)) t = refl
    main_comes origin e (Ack of conn) (Some (Closed c)) (Some (Closed d)) t = refl
    main_comes origin e (Give g resend) (Some (Closed c)) (Some (Closed d)) t = refl
    main_comes origin e (Open sess) (Some (Closed c)) (Some (Closed d)) t = refl
