-- What an entry reports of a frame fixes what the frame does at a node, but for what no entry
-- reports.
use Rattle.std.proofs.Common.{◌≡◌, ◌∙◌, ℕ, ◌==◌, ◌&&◌, Bool, true, false, if◌then◌else◌, List, [], ◌∷◌, ◌++◌, Option, Some, None, option_map, refl, sym, ap}
use Rattle.std.specs.Prelude.{is_none, nat_lt}
use Rattle.sj_base.specs.declared.EndId.{EndId}
use Rattle.sj_rules.specs.Record.{EndAt, BodyAt, Carry, Fin, Claim, Signal, Ack, Give, Open, MainAt, Held, Closed, Expected, Mail, OldAt, Parked, Signalled, offered_end}
use Rattle.sj_rules.specs.Limits.{clock_end, limit_of_conns}
use Rattle.sj_rules.specs.Frames.{FrameAt, is_proper, is_within}
use Rattle.sj_rules.specs.Opened.{is_opened_by, new_held}
use Rattle.sj_rules.specs.Rows.{passive, install, signal_fits}
use Rattle.sj_rules.specs.Node.{NodeAt, with_main, with_old, with_offers, with_number, held_after, quietly, plain_comes, signal_comes, ack_comes, claim_comes, give_comes, open_comes, comes_or_opens, arrives}
use Rattle.sj_rules.proofs.NodeMapLemmas.{none-with}
use Rattle.sj_rules.specs.Log.{NoteAt, body_note}
use Rattle.sj_rules.specs.Log as notes
use Rattle.sj_run.proofs.BareNodeLemmas.{bare_node, held_by, leaves_by, main_comes, main_put, node_by, old_put, parked_by}
use Rattle.sj_run.proofs.BareLemmas.{bare_end, bare_main, bare_old, either_by, install_alike, passive_bare, state_by}

module _ {P Q : Type 0} where
  module _ (pick : ℕ → ℕ → ℕ) (m n : NodeAt P Q) (same : bare_node m ≡ bare_node n) where
    main_same : (e : EndId) → option_map bare_main (m.main e) ≡ option_map bare_main (n.main e)
    main_same e = ap (λ (x : NodeAt P Q). x.main e) same

    old_same : (e : EndId) → option_map bare_old (m.old e) ≡ option_map bare_old (n.old e)
    old_same e = ap (λ (x : NodeAt P Q). x.old e) same

    number_bare : (conn : ℕ) (o : Option (OldAt P)) → with_number conn (option_map bare_old o) ≡ option_map bare_old (with_number conn o)
    number_bare conn None = refl
    number_bare conn (Some (Parked e)) = by (e.conn == conn)
      where
        by : (b : Bool) → (if b then Some (Parked (bare_end e)) else None) ≡ option_map bare_old (if b then Some (Parked e) else None)
        by true = refl
        by false = refl
    number_bare conn (Some (Signalled e to)) = by (e.conn == conn)
      where
        by : (b : Bool) → (if b then Some (Signalled (bare_end e) to) else None) ≡ option_map bare_old (if b then Some (Signalled e to) else None)
        by true = refl
        by false = refl

    number_same : (conn : ℕ) (e : EndId) → option_map bare_old (with_number conn (m.old e)) ≡ option_map bare_old (with_number conn (n.old e))
    number_same conn e = sym (number_bare conn (m.old e)) ∙ ap (with_number conn) (old_same e) ∙ number_bare conn (n.old e)

    quiet_by : (b : Bool) → node_by (if b then Some (quietly m) else None) ≡ node_by (if b then Some (quietly n) else None)
    quiet_by b = either_by bare_node b (Some (quietly m)) (Some (quietly n)) (ap Some same)

    plain_by : (origin : ℕ) (e : EndId) (b : BodyAt P) (r s : Option (OldAt P)) → option_map bare_old r ≡ option_map bare_old s → node_by (plain_comes pick m origin e b r) ≡ node_by (plain_comes pick n origin e b s)
    plain_by origin e b None None t = main_comes pick m n same origin e b (m.main e) (n.main e) (main_same e)
    plain_by origin e b None (Some s) t = absurd (cc t)
    plain_by origin e b (Some r) None t = absurd (cc t)
    plain_by origin e b (Some (Parked c)) (Some (Signalled d to)) t = absurd (cc t)
    plain_by origin e b (Some (Signalled c to)) (Some (Parked d)) t = absurd (cc t)
    plain_by origin e b (Some (Parked c)) (Some (Parked d)) t =
        let alike : bare_end c ≡ bare_end d = cc t in
        quiet_by (origin == c.peer) ∙ (λ i. node_by (if origin == (alike i).peer then Some (quietly n) else None))
    plain_by origin e b (Some (Signalled c to)) (Some (Signalled d at)) t =
        let alike : bare_end c ≡ bare_end d = cc t in
        quiet_by (origin == c.peer) ∙ (λ i. node_by (if origin == (alike i).peer then Some (quietly n) else None))

    signal_by : (origin : ℕ) (e : EndId) (conn party taken : ℕ) (r s : Option (OldAt P)) → option_map bare_old r ≡ option_map bare_old s
        → node_by (signal_comes pick m origin e conn party taken r) ≡ node_by (signal_comes pick n origin e conn party taken s)
    signal_by origin e conn party taken None None t = main_comes pick m n same origin e (Signal e conn party taken) (m.main e) (n.main e) (main_same e)
    signal_by origin e conn party taken None (Some s) t = absurd (cc t)
    signal_by origin e conn party taken (Some r) None t = absurd (cc t)
    signal_by origin e conn party taken (Some (Parked c)) (Some (Signalled d to)) t = absurd (cc t)
    signal_by origin e conn party taken (Some (Signalled c to)) (Some (Parked d)) t = absurd (cc t)
    signal_by origin e conn party taken (Some (Parked c)) (Some (Parked d)) t =
        let alike : bare_end c ≡ bare_end d = cc t in
        parked_by pick m n same e (passive pick c origin conn party taken) (passive pick d origin conn party taken)
        (sym (passive_bare pick c origin conn party taken) ∙ ap (λ x. state_by bare_end (passive pick x origin conn party taken)) alike ∙ passive_bare pick d origin conn party taken)
    signal_by origin e conn party taken (Some (Signalled c to)) (Some (Signalled d at)) t =
        let alike : bare_end c ≡ bare_end d = cc t in
        let fits : signal_fits c origin conn taken ≡ signal_fits d origin conn taken = ap (λ (x : EndAt P). signal_fits x origin conn taken) alike in
        leaves_by pick m n same e to at _ _ _ _ fits

    ack_by : (origin : ℕ) (e : EndId) (conn : ℕ) (r s : Option (OldAt P)) → option_map bare_old r ≡ option_map bare_old s → node_by (ack_comes m origin e conn r) ≡ node_by (ack_comes n origin e conn s)
    ack_by origin e conn None None t = refl
    ack_by origin e conn None (Some s) t = absurd (cc t)
    ack_by origin e conn (Some r) None t = absurd (cc t)
    ack_by origin e conn (Some (Parked c)) (Some (Signalled d to)) t = absurd (cc t)
    ack_by origin e conn (Some (Signalled c to)) (Some (Parked d)) t = absurd (cc t)
    ack_by origin e conn (Some (Parked c)) (Some (Parked d)) t = refl
    ack_by origin e conn (Some (Signalled c to)) (Some (Signalled d at)) t =
        let alike : bare_end c ≡ bare_end d = cc t in
        leaves_by pick m n same e to at _ _ _ _ (ap (λ (x : EndAt P). (conn == x.conn) && nat_lt x.conn limit_of_conns && (origin == x.peer)) alike)

    claim_by : (origin : ℕ) (e : EndId) (r s : Option (OldAt P)) → option_map bare_old r ≡ option_map bare_old s → node_by (claim_comes m origin e r) ≡ node_by (claim_comes n origin e s)
    claim_by origin e None None t = refl
    claim_by origin e None (Some s) t = absurd (cc t)
    claim_by origin e (Some r) None t = absurd (cc t)
    claim_by origin e (Some (Parked c)) (Some (Signalled d to)) t = absurd (cc t)
    claim_by origin e (Some (Signalled c to)) (Some (Parked d)) t = absurd (cc t)
    claim_by origin e (Some (Signalled c to)) (Some (Signalled d at)) t = refl
    claim_by origin e (Some (Parked c)) (Some (Parked d)) t =
        let alike : bare_end c ≡ bare_end d = cc t in
        ap Some (old_put e (Some (Signalled c origin)) m ∙ (λ i. with_old e (Some (Signalled (alike i) origin)) (same i)) ∙ sym (old_put e (Some (Signalled d origin)) n))

    none_main : (e : EndId) → is_none (m.main e) ≡ is_none (n.main e)
    none_main e = sym (none-with bare_main (m.main e)) ∙ ap is_none (main_same e) ∙ none-with bare_main (n.main e)

    none_old : (e : EndId) → is_none (m.old e) ≡ is_none (n.old e)
    none_old e = sym (none-with bare_old (m.old e)) ∙ ap is_none (old_same e) ∙ none-with bare_old (n.old e)

    give_by : (origin : ℕ) (d e : EndAt P) (resend : Option ℕ) (blank : P) → bare_end (record d { place = blank }) ≡ bare_end (record e { place = blank }) → (r s : Option (MainAt P)) → option_map bare_main r ≡ option_map bare_main s
        → node_by (give_comes pick m origin d resend r) ≡ node_by (give_comes pick n origin e resend s)
    give_by origin d e resend blank given None None t = refl
    give_by origin d e resend blank given None (Some s) t = absurd (cc t)
    give_by origin d e resend blank given (Some r) None t = absurd (cc t)
    give_by origin d e resend blank given (Some (Held h)) (Some (Closed c)) t = absurd (cc t)
    give_by origin d e resend blank given (Some (Held h)) (Some (Expected k p ds)) t = absurd (cc t)
    give_by origin d e resend blank given (Some (Closed c)) (Some (Held h)) t = absurd (cc t)
    give_by origin d e resend blank given (Some (Closed c)) (Some (Expected k p ds)) t = absurd (cc t)
    give_by origin d e resend blank given (Some (Expected k p ds)) (Some (Held h)) t = absurd (cc t)
    give_by origin d e resend blank given (Some (Expected k p ds)) (Some (Closed c)) t = absurd (cc t)
    give_by origin d e resend blank given (Some (Held h)) (Some (Held k)) t = refl
    give_by origin d e resend blank given (Some (Closed c)) (Some (Closed k)) t = refl
    give_by origin d e resend blank given (Some (Expected k p ds)) (Some (Expected l q es)) t =
        let id : d.id ≡ e.id = ap (λ (x : EndAt P). x.id) given in
        let keeper : k ≡ l = ap keeper_of t in
        let place : p ≡ q = ap (place_of p) t in
        let deferred : ds ≡ es = ap deferred_of t in
        let there : is_none (m.old d.id) ≡ is_none (n.old e.id) = ap (λ x. is_none (m.old x)) id ∙ none_old e.id in
        (λ i. node_by (if there i && (origin == keeper i) then option_map (held_after m (id i)) (install pick (place i) (deferred i) d resend) else None))
        ∙ either_by bare_node (is_none (n.old e.id) && (origin == l)) _ _
        (held_by pick m n same e.id (install pick q es d resend) (install pick q es e resend) (install_alike pick q es d e resend (ap (λ (x : EndAt P). record x { place = q }) given)))
      where
        keeper_of : Option (MainAt P) → ℕ
        keeper_of (Some (Expected keeper place deferred)) = keeper
        keeper_of o = 0

        place_of : P → Option (MainAt P) → P
        place_of p (Some (Expected keeper place deferred)) = place
        place_of p o = p

        deferred_of : Option (MainAt P) → List (Mail P)
        deferred_of (Some (Expected keeper place deferred)) = deferred
        deferred_of o = []

    open_by : (blank : P) (origin sess : ℕ) → node_by (open_comes blank m origin sess) ≡ node_by (open_comes blank n origin sess)
    open_by blank origin sess =
        let e = offered_end sess in
        let put_there = λ (x : NodeAt P Q). with_offers origin (x.offers origin ++ sess ∷ []) (with_main e (Some (Held (new_held e blank origin))) x) in
        (λ i. node_by (if is_opened_by origin sess && none_main e i && none_old e i then Some (quietly (put_there m)) else None))
        ∙ either_by bare_node (is_opened_by origin sess && is_none (n.main e) && is_none (n.old e)) (Some (quietly (put_there m))) (Some (quietly (put_there n)))
        (ap Some (offered m ∙ ap put_there same ∙ sym (offered n)))
      where
        offered : (x : NodeAt P Q) → bare_node (with_offers origin (x.offers origin ++ sess ∷ []) (with_main (offered_end sess) (Some (Held (new_held (offered_end sess) blank origin))) x))
            ≡ with_offers origin (x.offers origin ++ sess ∷ []) (with_main (offered_end sess) (Some (Held (new_held (offered_end sess) blank origin))) (bare_node x))
        offered x = ap (with_offers origin (x.offers origin ++ sess ∷ [])) (main_put (offered_end sess) (Some (Held (new_held (offered_end sess) blank origin))) x)

    -- the same frame
    comes_by : (blank : P) (origin : ℕ) (b : BodyAt P) → node_by (comes_or_opens blank pick m origin b) ≡ node_by (comes_or_opens blank pick n origin b)
    comes_by blank origin (Carry to conn number taken msg) = plain_by origin to (Carry to conn number taken msg) _ _ (number_same conn to)
    comes_by blank origin (Fin to conn number) = plain_by origin to (Fin to conn number) _ _ (number_same conn to)
    comes_by blank origin (Claim of) = claim_by origin of (m.old of) (n.old of) (old_same of)
    comes_by blank origin (Signal to conn party taken) = signal_by origin to conn party taken _ _ (number_same conn to)
    comes_by blank origin (Ack of conn) = ack_by origin of conn _ _ (number_same conn of)
    comes_by blank origin (Give e resend) = give_by origin e e resend blank refl (m.main e.id) (n.main e.id) (main_same e.id)
    comes_by blank origin (Open sess) = open_by blank origin sess

module _ {P : Type 0} where
  -- a body as its note reports it
  abbrev noted : P → NoteAt → BodyAt P
  noted blank (notes.Carry to conn number taken msg) = Carry to conn number taken msg
  noted blank (notes.Fin to conn number) = Fin to conn number
  noted blank (notes.Claim of) = Claim of
  noted blank (notes.Signal to conn party taken) = Signal to conn party taken
  noted blank (notes.Ack of conn) = Ack of conn
  noted blank (notes.Give of conn peer sent taken base resend) = Give (record { id = of; place = blank; conn = conn; peer = peer; sent = sent; taken = taken; base = base; cache = []; hops = 0 }) resend
  noted blank (notes.Open sess) = Open sess
  noted blank k = Open 0

  within_noted : (blank : P) (parties : ℕ) (b : BodyAt P) → is_within parties b ≡ is_within parties (noted blank (body_note b))
  within_noted blank parties (Carry to conn number taken msg) = refl
  within_noted blank parties (Fin to conn number) = refl
  within_noted blank parties (Claim of) = refl
  within_noted blank parties (Signal to conn party taken) = refl
  within_noted blank parties (Ack of conn) = refl
  within_noted blank parties (Give e resend) = refl
  within_noted blank parties (Open sess) = refl

module _ {P Q : Type 0} where
  module _ (blank : P) (pick : ℕ → ℕ → ℕ) where
    noted_by : (n : NodeAt P Q) (origin : ℕ) (b : BodyAt P) → node_by (comes_or_opens blank pick n origin b) ≡ node_by (comes_or_opens blank pick n origin (noted blank (body_note b)))
    noted_by n origin (Carry to conn number taken msg) = refl
    noted_by n origin (Fin to conn number) = refl
    noted_by n origin (Claim of) = refl
    noted_by n origin (Signal to conn party taken) = refl
    noted_by n origin (Ack of conn) = refl
    noted_by n origin (Give e resend) = give_by pick n n refl origin e (bare_end (record e { place = blank })) resend blank refl (n.main e.id) (n.main e.id) refl
    noted_by n origin (Open sess) = refl

    -- frames of the same note, at nodes that are the same but for what no entry reports
    pub arrives_alike : (parties : ℕ) (m n : NodeAt P Q) → bare_node m ≡ bare_node n → (origin : ℕ) (f g : FrameAt P) → body_note f.body ≡ body_note g.body → nat_lt f.clock clock_end ≡ nat_lt g.clock clock_end
        → node_by (arrives blank parties pick m origin f) ≡ node_by (arrives blank parties pick n origin g)
    arrives_alike parties m n same origin f g note clocks =
        let within : is_within parties f.body ≡ is_within parties g.body = within_noted blank parties f.body ∙ ap (λ k. is_within parties (noted blank k)) note ∙ sym (within_noted blank parties g.body) in
        (λ i. node_by (if clocks i && within i then comes_or_opens blank pick m origin f.body else None))
        ∙ either_by bare_node (is_proper parties g) _ _
        (noted_by m origin f.body ∙ ap (λ k. node_by (comes_or_opens blank pick m origin (noted blank k))) note ∙ sym (noted_by m origin g.body) ∙ comes_by pick m n same blank origin g.body)
