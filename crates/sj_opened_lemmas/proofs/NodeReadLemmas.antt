-- A party's rules do the same at a node and at the node that is read for it: the one with Held ends
-- beside its records.
use Rattle.std.proofs.Common.{◌≡◌, ℕ, ◌+◌, List, [], ◌∷◌, ◌++◌, refl, sym, ap, subst, ◌∙◌}
use Rattle.std.specs.Prelude.{⊤, Bool, true, false, ◌&&◌, ◌==◌, nat_lt, is_none, if◌then◌else◌, Option, Some, None, option_map}
use Rattle.std.proofs.lemmas.Bool.{eqb-true}
use Rattle.sj_base.specs.declared.EndId.{EndId}
use Rattle.sj_base.specs.declared.Msg.{Msg}
use Rattle.sj_base.specs.declared.Msg.TheVariants as msgs
use Rattle.sj_lang.specs.declared.proto.Way.TheVariants.{Out, Into}
use Rattle.sj_rules.specs.Limits.{limit_of_hops}
use Rattle.sj_rules.specs.Record.{EndAt, BodyAt, Carry, Fin, Claim, Signal, Ack, Give, Open, HeldAt, MainAt, Held, Closed, Expected, OldAt, Parked, Signalled, is_same_end}
use Rattle.sj_rules.specs.Rows.{Worked, passive, passive_closed, crossing_body, acked_body, at_held, install}
use Rattle.sj_rules.specs.Node.{Want, ended, local, sends, delegates, takes, closes, requests, accepts, Play, NodeAt, put, with_main, with_old, with_number, held_after, closed_after, parked_after, given_after, quietly, at_main, plain_comes, signal_comes, ack_comes, claim_comes, give_comes, comes, send_act, delegate_act, take_act, take_from, close_act, work_of_take, is_free, held_behind_send, held_behind_take, act_by, acts}
use Rattle.sj_rules.specs.Linked.{subject_of}

-- two names of one end are one
pub same_is : (d e : EndId) → is_same_end d e ≡ true → d ≡ e
same_is d e i = by (d.sess == e.sess) (d.side == e.side) refl refl i
  where
    by : (a b : Bool) → (d.sess == e.sess) ≡ a → (d.side == e.side) ≡ b → (a && b) ≡ true → d ≡ e
    by true true j k l =
        let s : d.sess ≡ e.sess = eqb-true d.sess e.sess j in
        let t : d.side ≡ e.side = eqb-true d.side e.side k in
        λ z. record { sess = s z; side = t z }
    by true false j k l = absurd (cc l)
    by false b j k l = absurd (cc l)

-- a record, or the Held end that is late
abbrev pub read_main : {P : Type 0} → Option (HeldAt P) → Option (MainAt P) → Option (MainAt P)
read_main None r = r
read_main (Some h) r = Some (Held h)

-- m is n with the late ends Held, where n has no record, and with more sessions offered after its
-- own
pub record IsReadAs {P Q : Type 0} (late : EndId → Option (HeldAt P)) (more : ℕ → List ℕ) (m n : NodeAt P Q) : Type 0 where
  pub mains : (e : EndId) → m.main e ≡ read_main (late e) (n.main e)
  pub olds : (e : EndId) → m.old e ≡ n.old e
  pub program : m.program ≡ n.program
  pub requests : m.requests ≡ n.requests
  pub offers : (q : ℕ) → m.offers q ≡ n.offers q ++ more q
  pub bare : (e : EndId) (h : HeldAt P) → late e ≡ Some h → n.main e ≡ None

-- the end that a message names isn't late
abbrev pub NamesNoLate : {P : Type 0} → (late : EndId → Option (HeldAt P)) → Msg → Type 0
NamesNoLate late (msgs.Sess sess side keeper) = late (record { sess = sess; side = side }) ≡ None
NamesNoLate late (msgs.Int k) = ⊤
NamesNoLate late (msgs.Bool k) = ⊤
NamesNoLate late (msgs.Text k) = ⊤
NamesNoLate late (msgs.Label k) = ⊤
NamesNoLate late (msgs.More k) = ⊤

module _ {P Q : Type 0} (late : EndId → Option (HeldAt P)) (more : ℕ → List ℕ) where
  -- an end that isn't late has one record in both
  pub main_same : (m n : NodeAt P Q) → IsReadAs late more m n → (e : EndId) → late e ≡ None → m.main e ≡ n.main e
  main_same m n r e none = r.mains e ∙ ap (λ l. read_main l (n.main e)) none

  -- its new record is one in both
  pub read_with_main : (m n : NodeAt P Q) → IsReadAs late more m n → (e : EndId) → late e ≡ None → (new : Option (MainAt P)) → IsReadAs late more (with_main e new m) (with_main e new n)
  read_with_main m n r e none new = record {
    mains = λ d. by d (is_same_end d e) refl;
    olds = r.olds;
    program = r.program;
    requests = r.requests;
    offers = r.offers;
    bare = λ d h l. at d h l (is_same_end d e) refl;
  }
    where
      none_too : (d : EndId) → is_same_end d e ≡ true → late d ≡ None
      none_too d i = ap late (same_is d e i) ∙ none

      by : (d : EndId) (b : Bool) → is_same_end d e ≡ b → (if b then new else m.main d) ≡ read_main (late d) (if b then new else n.main d)
      by d true i = sym (ap (λ l. read_main l new) (none_too d i))
      by d false i = r.mains d

      at : (d : EndId) (h : HeldAt P) → late d ≡ Some h → (b : Bool) → is_same_end d e ≡ b → (if b then new else n.main d) ≡ None
      at d h l true i = absurd (cc (none_too d i, l))
      at d h l false i = r.bare d h l

  -- a new old record
  pub read_with_old : (m n : NodeAt P Q) → IsReadAs late more m n → (e : EndId) (new : Option (OldAt P)) → IsReadAs late more (with_old e new m) (with_old e new n)
  read_with_old m n r e new = record {
    mains = r.mains;
    olds = λ d. ap (λ z. if is_same_end d e then new else z) (r.olds d);
    program = r.program;
    requests = r.requests;
    offers = r.offers;
    bare = r.bare;
  }

  -- programs that went on alike
  pub read_goes : (m n : NodeAt P Q) → IsReadAs late more m n → (g g' : Q) → g ≡ g' → IsReadAs late more (record m { program = g }) (record n { program = g' })
  read_goes m n r g g' e = record { mains = r.mains; olds = r.olds; program = e; requests = r.requests; offers = r.offers; bare = r.bare }

  -- two rules do the same: neither fits, or both leave such nodes and post the same
  abbrev pub Agree : Option (Worked P (NodeAt P Q)) → Option (Worked P (NodeAt P Q)) → Type 0
  Agree None None = ⊤
  Agree (Some a) (Some b) = (a.posts ≡ b.posts) × IsReadAs late more a.state b.state
  Agree None (Some b) = ⊥
  Agree (Some a) None = ⊥

  agree_map : {X : Type 0} → (f g : X → Worked P (NodeAt P Q)) → ((x : X) → ((f x).posts ≡ (g x).posts) × IsReadAs late more (f x).state (g x).state) → (o : Option X) → Agree (option_map f o) (option_map g o)
  agree_map f g same None = tt
  agree_map f g same (Some x) = same x

  agree_if : (b : Bool) (x y : Option (Worked P (NodeAt P Q))) → Agree x y → Agree (if b then x else None) (if b then y else None)
  agree_if true x y a = a
  agree_if false x y a = tt

  agree_unless : (b : Bool) (x y : Option (Worked P (NodeAt P Q))) → Agree x y → Agree (if b then None else x) (if b then None else y)
  agree_unless true x y a = tt
  agree_unless false x y a = a

  module _ (pick : ℕ → ℕ → ℕ) (m n : NodeAt P Q) (r : IsReadAs late more m n) where
    at_main_agrees : (q : ℕ) (e : EndId) → late e ≡ None → (b : BodyAt P) (o : Option (MainAt P)) → Agree (at_main pick m q e b o) (at_main pick n q e b o)
    at_main_agrees q e none b None = tt
    at_main_agrees q e none b (Some (Expected keeper place ds)) = (refl, read_with_main m n r e none (Some (Expected keeper place (ds ++ record { party = q; body = b } ∷ []))))
    at_main_agrees q e none b (Some (Held h)) = agree_map (held_after m e) (held_after n e) (λ w. (refl, read_with_main m n r e none (Some (Held w.state)))) (at_held pick h q b)
    at_main_agrees q e none (Signal to conn party taken) (Some (Closed c)) =
        agree_map (closed_after m e) (closed_after n e) (λ w. (refl, read_with_main m n r e none (Some (Closed w.state)))) (passive_closed pick c q conn party taken)
    at_main_agrees q e none (Fin to conn number) (Some (Closed c)) =
        agree_if ((conn == c.conn) && (q == c.peer) && (number == c.taken)) (Some (quietly (with_main e None m))) (Some (quietly (with_main e None n))) (refl, read_with_main m n r e none None)
    at_main_agrees q e none (Carry to conn number taken msg) (Some (Closed c)) = tt
    at_main_agrees q e none (Claim of) (Some (Closed c)) = tt
    at_main_agrees q e none (Ack of conn) (Some (Closed c)) = tt
    at_main_agrees q e none (Give g resend) (Some (Closed c)) = tt
    at_main_agrees q e none (Open sess) (Some (Closed c)) = tt

    main_agrees : (q : ℕ) (e : EndId) → late e ≡ None → (b : BodyAt P) → Agree (at_main pick m q e b (m.main e)) (at_main pick n q e b (n.main e))
    main_agrees q e none b = subst (λ o. Agree (at_main pick m q e b o) (at_main pick n q e b (n.main e))) (sym (main_same m n r e none)) (at_main_agrees q e none b (n.main e))

    plain_agrees : (q : ℕ) (e : EndId) → late e ≡ None → (b : BodyAt P) (o : Option (OldAt P)) → Agree (plain_comes pick m q e b o) (plain_comes pick n q e b o)
    plain_agrees q e none b None = main_agrees q e none b
    plain_agrees q e none b (Some (Parked k)) = agree_if (q == k.peer) (Some (quietly m)) (Some (quietly n)) (refl, r)
    plain_agrees q e none b (Some (Signalled k to)) = agree_if (q == k.peer) (Some (quietly m)) (Some (quietly n)) (refl, r)

    signal_agrees : (q : ℕ) (e : EndId) → late e ≡ None → (conn party taken : ℕ) (o : Option (OldAt P)) → Agree (signal_comes pick m q e conn party taken o) (signal_comes pick n q e conn party taken o)
    signal_agrees q e none conn party taken None = main_agrees q e none (Signal e conn party taken)
    signal_agrees q e none conn party taken (Some (Parked k)) = agree_map (parked_after m e) (parked_after n e) (λ w. (refl, read_with_old m n r e (Some (Parked w.state)))) (passive pick k q conn party taken)
    signal_agrees q e none conn party taken (Some (Signalled k to)) = agree_map (given_after m e to) (given_after n e to) (λ w. (refl, read_with_old m n r e None)) (crossing_body pick k q conn party taken)

    ack_agrees : (q : ℕ) (e : EndId) (conn : ℕ) (o : Option (OldAt P)) → Agree (ack_comes m q e conn o) (ack_comes n q e conn o)
    ack_agrees q e conn None = tt
    ack_agrees q e conn (Some (Parked k)) = tt
    ack_agrees q e conn (Some (Signalled k to)) = agree_map (given_after m e to) (given_after n e to) (λ w. (refl, read_with_old m n r e None)) (acked_body k q conn)

    claim_agrees : (q : ℕ) (e : EndId) (o : Option (OldAt P)) → Agree (claim_comes m q e o) (claim_comes n q e o)
    claim_agrees q e None = tt
    claim_agrees q e (Some (Parked k)) = (refl, read_with_old m n r e (Some (Signalled k q)))
    claim_agrees q e (Some (Signalled k to)) = tt

    give_agrees : (q : ℕ) (e : EndAt P) (resend : Option ℕ) → late e.id ≡ None → (o : Option (MainAt P)) → Agree (give_comes pick m q e resend o) (give_comes pick n q e resend o)
    give_agrees q e resend none None = tt
    give_agrees q e resend none (Some (Held h)) = tt
    give_agrees q e resend none (Some (Closed c)) = tt
    give_agrees q e resend none (Some (Expected keeper place ds)) =
        subst (λ o. Agree (if is_none o && (q == keeper) then option_map (held_after m e.id) (install pick place ds e resend) else None) (give_comes pick n q e resend (Some (Expected keeper place ds)))) (sym (r.olds e.id))
        (agree_if (is_none (n.old e.id) && (q == keeper)) (option_map (held_after m e.id) (install pick place ds e resend)) (option_map (held_after n e.id) (install pick place ds e resend))
        (agree_map (held_after m e.id) (held_after n e.id) (λ w. (refl, read_with_main m n r e.id none (Some (Held w.state)))) (install pick place ds e resend)))

    -- a frame about an end that isn't late does the same at both
    pub comes_agrees : (q : ℕ) (b : BodyAt P) → late (subject_of b) ≡ None → Agree (comes pick m q b) (comes pick n q b)
    comes_agrees q (Carry to conn number taken msg) none =
        subst (λ o. Agree (plain_comes pick m q to (Carry to conn number taken msg) (with_number conn o)) (comes pick n q (Carry to conn number taken msg))) (sym (r.olds to))
        (plain_agrees q to none (Carry to conn number taken msg) (with_number conn (n.old to)))
    comes_agrees q (Fin to conn number) none =
        subst (λ o. Agree (plain_comes pick m q to (Fin to conn number) (with_number conn o)) (comes pick n q (Fin to conn number))) (sym (r.olds to))
        (plain_agrees q to none (Fin to conn number) (with_number conn (n.old to)))
    comes_agrees q (Claim of) none = subst (λ o. Agree (claim_comes m q of o) (claim_comes n q of (n.old of))) (sym (r.olds of)) (claim_agrees q of (n.old of))
    comes_agrees q (Signal to conn party taken) none =
        subst (λ o. Agree (signal_comes pick m q to conn party taken (with_number conn o)) (signal_comes pick n q to conn party taken (with_number conn (n.old to)))) (sym (r.olds to))
        (signal_agrees q to none conn party taken (with_number conn (n.old to)))
    comes_agrees q (Ack of conn) none = subst (λ o. Agree (ack_comes m q of conn (with_number conn o)) (ack_comes n q of conn (with_number conn (n.old of)))) (sym (r.olds of)) (ack_agrees q of conn (with_number conn (n.old of)))
    comes_agrees q (Give e resend) none = subst (λ o. Agree (give_comes pick m q e resend o) (give_comes pick n q e resend (n.main e.id))) (sym (main_same m n r e.id none)) (give_agrees q e resend none (n.main e.id))
    comes_agrees q (Open sess) none = tt

  -- nor is any end that the next step names; and it opens and accepts no session
  abbrev pub WantsNoLate : NodeAt P Q → Want P → Type 0
  WantsNoLate n ended = ⊤
  WantsNoLate n local = ⊤
  WantsNoLate n (sends e msg) = late e ≡ None
  WantsNoLate n (delegates carrier e) = (late carrier ≡ None) × (late e ≡ None)
  WantsNoLate n (takes e place) = (late e ≡ None) × ((h : HeldAt P) (msg : Msg) (rest : List Msg) → n.main e ≡ Some (Held h) → h.untaken ≡ msg ∷ rest → NamesNoLate late msg)
  WantsNoLate n (closes e) = late e ≡ None
  WantsNoLate n (requests place to) = ⊥
  WantsNoLate n (accepts place from) = ⊥

  module _ (play : Play P Q) where
    send_agrees : (m n : NodeAt P Q) → IsReadAs late more m n → (e : EndId) (msg : Msg) → late e ≡ None → (o : Option (MainAt P)) → Agree (send_act play m e msg o) (send_act play n e msg o)
    send_agrees m n r e msg none None = tt
    send_agrees m n r e msg none (Some (Closed c)) = tt
    send_agrees m n r e msg none (Some (Expected keeper place ds)) = tt
    send_agrees m n r e msg none (Some (Held h)) =
        agree_map _ _ (λ place. (refl, read_with_main _ _ (read_goes m n r (play.goes m.program None) (play.goes n.program None) (ap (λ g. play.goes g None) r.program)) e none (Some (Held (held_behind_send h msg place))))) (play.next h.end.place Out msg)

    delegate_agrees : (p : ℕ) (m n : NodeAt P Q) → IsReadAs late more m n → (carrier e : EndId) → late carrier ≡ None → late e ≡ None → (o : Option (MainAt P)) → Agree (delegate_act play p m carrier e o) (delegate_act play p n carrier e o)
    delegate_agrees p m n r carrier e none none' None = tt
    delegate_agrees p m n r carrier e none none' (Some (Closed c)) = tt
    delegate_agrees p m n r carrier e none none' (Some (Expected keeper place ds)) = tt
    delegate_agrees p m n r carrier e none none' (Some (Held h)) =
        let m2 : NodeAt P Q = with_main e None (with_old e (Some (Parked (record h.end { hops = h.end.hops + 1 }))) m) in
        let n2 : NodeAt P Q = with_main e None (with_old e (Some (Parked (record h.end { hops = h.end.hops + 1 }))) n) in
        let r2 : IsReadAs late more m2 n2 = read_with_main _ _ (read_with_old m n r e (Some (Parked (record h.end { hops = h.end.hops + 1 })))) e none' None in
        let there : put e None m.main carrier ≡ put e None n.main carrier = ap (λ z. if is_same_end carrier e then None else z) (main_same m n r carrier none) in
        agree_if (nat_lt h.end.hops limit_of_hops) (send_act play m2 carrier (msgs.Sess e.sess e.side p) (put e None m.main carrier)) (send_act play n2 carrier (msgs.Sess e.sess e.side p) (put e None n.main carrier))
        (subst (λ o. Agree (send_act play m2 carrier (msgs.Sess e.sess e.side p) o) (send_act play n2 carrier (msgs.Sess e.sess e.side p) (put e None n.main carrier))) (sym there)
        (send_agrees m2 n2 r2 carrier (msgs.Sess e.sess e.side p) none (put e None n.main carrier)))

    free_same : (m n : NodeAt P Q) → IsReadAs late more m n → (msg : Msg) → NamesNoLate late msg → is_free m msg ≡ is_free n msg
    free_same m n r (msgs.Sess sess side keeper) none = ap is_none (main_same m n r (record { sess = sess; side = side }) none)
    free_same m n r (msgs.Int k) none = refl
    free_same m n r (msgs.Bool k) none = refl
    free_same m n r (msgs.Text k) none = refl
    free_same m n r (msgs.Label k) none = refl
    free_same m n r (msgs.More k) none = refl

    brings : (m n : NodeAt P Q) → IsReadAs late more m n → (place : P) (msg : Msg) → NamesNoLate late msg → Agree (Some (work_of_take place msg m)) (Some (work_of_take place msg n))
    brings m n r place (msgs.Sess sess side keeper) none = (refl, read_with_main m n r (record { sess = sess; side = side }) none (Some (Expected keeper place [])))
    brings m n r place (msgs.Int k) none = (refl, r)
    brings m n r place (msgs.Bool k) none = (refl, r)
    brings m n r place (msgs.Text k) none = (refl, r)
    brings m n r place (msgs.Label k) none = (refl, r)
    brings m n r place (msgs.More k) none = (refl, r)

    take_from_agrees : (m n : NodeAt P Q) → IsReadAs late more m n → (e : EndId) (place : P) → late e ≡ None → (h : HeldAt P) (l : List Msg) → ((msg : Msg) (rest : List Msg) → l ≡ msg ∷ rest → NamesNoLate late msg) →
        Agree (take_from play m e place h l) (take_from play n e place h l)
    take_from_agrees m n r e place none h [] heads = tt
    take_from_agrees m n r e place none h (msg ∷ rest) heads =
        let fits : (play.fits m.program msg && is_free m msg) ≡ (play.fits n.program msg && is_free n msg) =
        ap (λ g. play.fits g msg && is_free m msg) r.program ∙ ap (λ b. play.fits n.program msg && b) (free_same m n r msg (heads msg rest refl)) in
        subst (λ b. Agree (if b then option_map (λ after. work_of_take place msg (with_main e (Some (Held (held_behind_take h rest after))) (record m { program = play.goes m.program (Some msg) }))) (play.next h.end.place Into msg) else None)
        (take_from play n e place h (msg ∷ rest))) (sym fits)
        (agree_if (play.fits n.program msg && is_free n msg) _ _
        (agree_map _ _ (λ after. brings _ _ (read_with_main _ _ (read_goes m n r (play.goes m.program (Some msg)) (play.goes n.program (Some msg)) (ap (λ g. play.goes g (Some msg)) r.program)) e none (Some (Held (held_behind_take h rest after)))) place msg (heads msg rest refl))
        (play.next h.end.place Into msg)))

    take_agrees : (m n : NodeAt P Q) → IsReadAs late more m n → (e : EndId) (place : P) → late e ≡ None → (o : Option (MainAt P)) →
        ((h : HeldAt P) (msg : Msg) (rest : List Msg) → o ≡ Some (Held h) → h.untaken ≡ msg ∷ rest → NamesNoLate late msg) → Agree (take_act play m e place o) (take_act play n e place o)
    take_agrees m n r e place none None heads = tt
    take_agrees m n r e place none (Some (Closed c)) heads = tt
    take_agrees m n r e place none (Some (Expected keeper q ds)) heads = tt
    take_agrees m n r e place none (Some (Held h)) heads = take_from_agrees m n r e place none h h.untaken (λ msg rest i. heads h msg rest refl i)

    close_agrees : (m n : NodeAt P Q) → IsReadAs late more m n → (e : EndId) → late e ≡ None → (o : Option (MainAt P)) → Agree (close_act play m e o) (close_act play n e o)
    close_agrees m n r e none None = tt
    close_agrees m n r e none (Some (Closed c)) = tt
    close_agrees m n r e none (Some (Expected keeper place ds)) = tt
    close_agrees m n r e none (Some (Held h)) =
        agree_if (play.is_over h.end.place) (Some _) (Some _)
        (refl, read_with_main _ _ (read_goes m n r (play.goes m.program None) (play.goes n.program None) (ap (λ g. play.goes g None) r.program)) e none (if h.fin then None else Some (Closed h.end)))

    by_agrees : (p : ℕ) (m n : NodeAt P Q) → IsReadAs late more m n → (want : Want P) → WantsNoLate n want → Agree (act_by play p m want) (act_by play p n want)
    by_agrees p m n r ended none = tt
    by_agrees p m n r local none = (refl, read_goes m n r (play.goes m.program None) (play.goes n.program None) (ap (λ g. play.goes g None) r.program))
    by_agrees p m n r (sends e msg) none = subst (λ o. Agree (send_act play m e msg o) (send_act play n e msg (n.main e))) (sym (main_same m n r e none)) (send_agrees m n r e msg none (n.main e))
    by_agrees p m n r (delegates carrier e) none =
        subst (λ o. Agree (delegate_act play p m carrier e o) (delegate_act play p n carrier e (n.main e))) (sym (main_same m n r e none.1)) (delegate_agrees p m n r carrier e none.0 none.1 (n.main e))
    by_agrees p m n r (takes e place) none =
        subst (λ o. Agree (take_act play m e place o) (take_act play n e place (n.main e))) (sym (main_same m n r e none.0)) (take_agrees m n r e place none.0 (n.main e) none.1)
    by_agrees p m n r (closes e) none = subst (λ o. Agree (close_act play m e o) (close_act play n e (n.main e))) (sym (main_same m n r e none)) (close_agrees m n r e none (n.main e))
    by_agrees p m n r (requests place to) none = absurd none
    by_agrees p m n r (accepts place from) none = absurd none

    -- an act that opens and accepts nothing, on ends that aren't late, does the same at both
    pub acts_agree : (p : ℕ) (m n : NodeAt P Q) → IsReadAs late more m n → WantsNoLate n (play.wants n.program) → Agree (acts play p m) (acts play p n)
    acts_agree p m n r none =
        subst (λ g. Agree (if play.is_worn g then None else act_by play p m (play.wants g)) (acts play p n)) (sym r.program)
        (agree_unless (play.is_worn n.program) (act_by play p m (play.wants n.program)) (act_by play p n (play.wants n.program)) (by_agrees p m n r (play.wants n.program) none))
