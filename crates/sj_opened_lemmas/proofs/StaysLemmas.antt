-- What a frame that comes leaves of a node as it was. No session is opened or accepted, a Held end
-- stays Held, and no record is made of an end that had none.
use Rattle.std.proofs.Common.{◌≡◌, ℕ, [], ◌∷◌, ◌++◌, refl, sym, ap, ◌∙◌}
use Rattle.std.specs.Prelude.{⊤, Bool, true, false, ◌&&◌, ◌==◌, is_none, if◌then◌else◌, Option, Some, None, option_map}
use Rattle.sj_base.specs.declared.EndId.{EndId}
use Rattle.sj_rules.specs.Record.{EndAt, BodyAt, Carry, Fin, Claim, Signal, Ack, Give, Open, HeldAt, MainAt, Held, Closed, Expected, OldAt, Parked, Signalled, is_same_end}
use Rattle.sj_rules.specs.Rows.{Worked, passive, passive_closed, crossing_body, acked_body, at_held, install}
use Rattle.sj_rules.specs.Node.{NodeAt, with_main, with_old, with_number, held_after, closed_after, parked_after, given_after, at_main, plain_comes, signal_comes, ack_comes, claim_comes, give_comes, comes}
use Rattle.sj_opened_lemmas.proofs.NodeReadLemmas.{same_is}

-- m is n, but for records of ends that n has
pub record Stays {P Q : Type 0} (n m : NodeAt P Q) : Type 0 where
  pub requests : m.requests ≡ n.requests
  pub offers : (q : ℕ) → m.offers q ≡ n.offers q
  pub held : (e : EndId) (h : HeldAt P) → n.main e ≡ Some (Held h) → (g : HeldAt P) × (m.main e ≡ Some (Held g))
  pub absent : (e : EndId) → n.main e ≡ None → n.old e ≡ None → (m.main e ≡ None) × (m.old e ≡ None)

module _ {P Q : Type 0} (n : NodeAt P Q) where
  -- it is itself
  pub stays_same : Stays n n
  stays_same = record { requests = refl; offers = λ q. refl; held = λ e h i. (h, i); absent = λ e i j. (i, j) }

  -- a main record is another, Held where it was
  stays_main : (e : EndId) (was : MainAt P) (new : Option (MainAt P)) → n.main e ≡ Some was → ((h : HeldAt P) → was ≡ Held h → (g : HeldAt P) × (new ≡ Some (Held g))) → Stays n (with_main e new n)
  stays_main e was new there holds = record {
    requests = refl;
    offers = λ q. refl;
    held = λ d h i. by d h i (is_same_end d e) refl;
    absent = λ d i j. (at d i (is_same_end d e) refl, j);
  }
    where
      by : (d : EndId) (h : HeldAt P) → n.main d ≡ Some (Held h) → (b : Bool) → is_same_end d e ≡ b → (g : HeldAt P) × ((if b then new else n.main d) ≡ Some (Held g))
      by d h i true j = let same : d ≡ e = same_is d e j in let w : was ≡ Held h = cc (sym there ∙ ap n.main (sym same) ∙ i) in holds h w
      by d h i false j = (h, i)

      at : (d : EndId) → n.main d ≡ None → (b : Bool) → is_same_end d e ≡ b → (if b then new else n.main d) ≡ None
      at d i true j = let same : n.main e ≡ None = ap n.main (sym (same_is d e j)) ∙ i in absurd (cc (there, same))
      at d i false j = i

  -- an old record is another
  stays_old : (e : EndId) (was : OldAt P) (new : Option (OldAt P)) → n.old e ≡ Some was → Stays n (with_old e new n)
  stays_old e was new there = record {
    requests = refl;
    offers = λ q. refl;
    held = λ d h i. (h, i);
    absent = λ d i j. (i, at d j (is_same_end d e) refl);
  }
    where
      at : (d : EndId) → n.old d ≡ None → (b : Bool) → is_same_end d e ≡ b → (if b then new else n.old d) ≡ None
      at d i true j = let same : n.old e ≡ None = ap n.old (sym (same_is d e j)) ∙ i in absurd (cc (there, same))
      at d i false j = i

  -- what a rule leaves, where it fits
  abbrev pub StaysBy : Option (Worked P (NodeAt P Q)) → Type 0
  StaysBy None = ⊤
  StaysBy (Some w) = Stays n w.state

  stays_map : {X : Type 0} → (f : X → Worked P (NodeAt P Q)) → ((x : X) → Stays n (f x).state) → (o : Option X) → StaysBy (option_map f o)
  stays_map f s None = tt
  stays_map f s (Some x) = s x

  stays_if : (b : Bool) (o : Option (Worked P (NodeAt P Q))) → StaysBy o → StaysBy (if b then o else None)
  stays_if true o s = s
  stays_if false o s = tt

  numbered_is : (conn : ℕ) (o : Option (OldAt P)) (k : OldAt P) → with_number conn o ≡ Some k → (l : OldAt P) × (o ≡ Some l)
  numbered_is conn None k i = absurd (cc i)
  numbered_is conn (Some l) k i = (l, refl)

  module _ (pick : ℕ → ℕ → ℕ) (q : ℕ) where
    main_stays : (e : EndId) (b : BodyAt P) (o : Option (MainAt P)) → n.main e ≡ o → StaysBy (at_main pick n q e b o)
    main_stays e b None i = tt
    main_stays e b (Some (Expected keeper place ds)) i =
        stays_main e (Expected keeper place ds) (Some (Expected keeper place (ds ++ record { party = q; body = b } ∷ []))) i (λ h j. absurd (cc j))
    main_stays e b (Some (Held h)) i = stays_map (held_after n e) (λ w. stays_main e (Held h) (Some (Held w.state)) i (λ g j. (w.state, refl))) (at_held pick h q b)
    main_stays e (Signal to conn party taken) (Some (Closed c)) i =
        stays_map (closed_after n e) (λ w. stays_main e (Closed c) (Some (Closed w.state)) i (λ h j. absurd (cc j))) (passive_closed pick c q conn party taken)
    main_stays e (Fin to conn number) (Some (Closed c)) i = stays_if _ (Some _) (stays_main e (Closed c) None i (λ h j. absurd (cc j)))
    main_stays e (Carry to conn number taken msg) (Some (Closed c)) i = tt
    main_stays e (Claim of) (Some (Closed c)) i = tt
    main_stays e (Ack of conn) (Some (Closed c)) i = tt
    main_stays e (Give g resend) (Some (Closed c)) i = tt
    main_stays e (Open sess) (Some (Closed c)) i = tt

    plain_stays : (e : EndId) (b : BodyAt P) (o : Option (OldAt P)) → StaysBy (plain_comes pick n q e b o)
    plain_stays e b None = main_stays e b (n.main e) refl
    plain_stays e b (Some (Parked k)) = stays_if (q == k.peer) (Some _) stays_same
    plain_stays e b (Some (Signalled k to)) = stays_if (q == k.peer) (Some _) stays_same

    signal_stays : (e : EndId) (conn party taken : ℕ) (o : Option (OldAt P)) → with_number conn (n.old e) ≡ o → StaysBy (signal_comes pick n q e conn party taken o)
    signal_stays e conn party taken None i = main_stays e (Signal e conn party taken) (n.main e) refl
    signal_stays e conn party taken (Some (Parked k)) i =
        let l : (l : OldAt P) × (n.old e ≡ Some l) = numbered_is conn (n.old e) (Parked k) i in
        stays_map (parked_after n e) (λ w. stays_old e l.0 (Some (Parked w.state)) l.1) (passive pick k q conn party taken)
    signal_stays e conn party taken (Some (Signalled k to)) i =
        let l : (l : OldAt P) × (n.old e ≡ Some l) = numbered_is conn (n.old e) (Signalled k to) i in
        stays_map (given_after n e to) (λ w. stays_old e l.0 None l.1) (crossing_body pick k q conn party taken)

    ack_stays : (e : EndId) (conn : ℕ) (o : Option (OldAt P)) → with_number conn (n.old e) ≡ o → StaysBy (ack_comes n q e conn o)
    ack_stays e conn None i = tt
    ack_stays e conn (Some (Parked k)) i = tt
    ack_stays e conn (Some (Signalled k to)) i =
        let l : (l : OldAt P) × (n.old e ≡ Some l) = numbered_is conn (n.old e) (Signalled k to) i in
        stays_map (given_after n e to) (λ w. stays_old e l.0 None l.1) (acked_body k q conn)

    claim_stays : (e : EndId) (o : Option (OldAt P)) → n.old e ≡ o → StaysBy (claim_comes n q e o)
    claim_stays e None i = tt
    claim_stays e (Some (Parked k)) i = stays_old e (Parked k) (Some (Signalled k q)) i
    claim_stays e (Some (Signalled k to)) i = tt

    give_stays : (e : EndAt P) (resend : Option ℕ) (o : Option (MainAt P)) → n.main e.id ≡ o → StaysBy (give_comes pick n q e resend o)
    give_stays e resend None i = tt
    give_stays e resend (Some (Held h)) i = tt
    give_stays e resend (Some (Closed c)) i = tt
    give_stays e resend (Some (Expected keeper place ds)) i =
        stays_if (is_none (n.old e.id) && (q == keeper)) _ (stays_map (held_after n e.id) (λ w. stays_main e.id (Expected keeper place ds) (Some (Held w.state)) i (λ h j. absurd (cc j))) (install pick place ds e resend))

    -- of each frame
    pub comes_stays : (b : BodyAt P) → StaysBy (comes pick n q b)
    comes_stays (Carry to conn number taken msg) = plain_stays to (Carry to conn number taken msg) (with_number conn (n.old to))
    comes_stays (Fin to conn number) = plain_stays to (Fin to conn number) (with_number conn (n.old to))
    comes_stays (Claim of) = claim_stays of (n.old of) refl
    comes_stays (Signal to conn party taken) = signal_stays to conn party taken (with_number conn (n.old to)) refl
    comes_stays (Ack of conn) = ack_stays of conn (with_number conn (n.old of)) refl
    comes_stays (Give e resend) = give_stays e resend (n.main e.id) refl
    comes_stays (Open sess) = tt
