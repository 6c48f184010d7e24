-- An act does at a node what it does at another that is the same but for what no entry reports.
use Rattle.std.proofs.Common.{◌≡◌, ◌∙◌, ℕ, ◌+◌, ◌&&◌, Bool, true, false, if◌then◌else◌, List, [], ◌∷◌, Option, Some, None, option_map, refl, sym, ap, subst}
use Rattle.std.specs.Prelude.{is_none, nat_lt}
use Rattle.sj_base.specs.declared.EndId.{EndId}
use Rattle.sj_base.specs.declared.Msg.{Msg}
use Rattle.sj_base.specs.declared.Msg.TheVariants as msgs
use Rattle.sj_lang.specs.declared.proto.Way.TheVariants.{Into}
use Rattle.sj_rules.specs.Limits.{limit_of_hops, limit_of_requests}
use Rattle.sj_rules.specs.Record.{EndAt, Fin, HeldAt, MainAt, Held, Closed, Expected, Parked, other_end, requested_end, offered_end}
use Rattle.sj_rules.specs.Opened.{opened_number, smallest, without}
use Rattle.sj_rules.specs.Rows.{Worked}
use Rattle.sj_rules.specs.Node.{Want, ended, local, sends, delegates, takes, closes, requests, accepts, Play, NodeAt, put, with_main, with_old, with_offers, held_behind_take, send_act, delegate_act, work_of_take, is_free, take_from, take_act, close_act, open_session, request_act, held_at, accept_session, accept_offered, accept_act, act_by, acts}
use Rattle.sj_rules.proofs.NodeMapLemmas.{none-with, put-each}
use Rattle.sj_run.proofs.BareLemmas.{bare_end, bare_held, bare_main, either_by, made_by}
use Rattle.sj_run.proofs.BareHeldLemmas.{HopsFit, by_held, if_some, send_alike}
use Rattle.sj_run.proofs.BareNodeLemmas.{bare_node, main_put, node_by, old_put}

module _ {P Q : Type 0} where
  module _ (play : Play P Q) where
    module _ (party : ℕ) (m n : NodeAt P Q) (same : bare_node m ≡ bare_node n) where
      main_same : (e : EndId) → option_map bare_main (m.main e) ≡ option_map bare_main (n.main e)
      main_same e = ap (λ (x : NodeAt P Q). x.main e) same

      delegate_alike : (carrier e : EndId) → HopsFit m (delegates carrier e) → HopsFit n (delegates carrier e)
          → node_by (delegate_act play party m carrier e (m.main e)) ≡ node_by (delegate_act play party n carrier e (n.main e))
      delegate_alike carrier e fit gap =
          by_held (delegate_act play party m carrier e) (delegate_act play party n carrier e) refl (λ c. refl) (λ k p ds. refl) refl (λ c. refl) (λ k p ds. refl) (m.main e) (n.main e) (main_same e)
          (λ h k at there alike.
          ap (λ b. node_by (if b then send_act play (left m h) carrier (msgs.Sess e.sess e.side party) (put e None m.main carrier) else None)) (fit h at)
          ∙ send_alike play (left m h) (left n k) (left_bare m h ∙ (λ i. with_main e None (with_old e (Some (Parked (alike i).end)) (same i))) ∙ sym (left_bare n k)) carrier (msgs.Sess e.sess e.side party)
          (put e None m.main carrier) (put e None n.main carrier)
          (ap (λ t. t carrier) (sym (put-each bare_main e None m.main)) ∙ (λ i. put e None (same i).main carrier) ∙ ap (λ t. t carrier) (put-each bare_main e None n.main))
          ∙ sym (ap (λ b. node_by (if b then send_act play (left n k) carrier (msgs.Sess e.sess e.side party) (put e None n.main carrier) else None)) (gap k there)))
        where
          left : NodeAt P Q → HeldAt P → NodeAt P Q
          left x h = with_main e None (with_old e (Some (Parked (record h.end { hops = h.end.hops + 1 }))) x)

          left_bare : (x : NodeAt P Q) (h : HeldAt P) → bare_node (left x h) ≡ with_main e None (with_old e (Some (Parked (bare_held h).end)) (bare_node x))
          left_bare x h =
              main_put e None (with_old e (Some (Parked (record h.end { hops = h.end.hops + 1 }))) x)
              ∙ ap (with_main e None) (old_put e (Some (Parked (record h.end { hops = h.end.hops + 1 }))) x)

      free_same : (x : Msg) → is_free m x ≡ is_free n x
      free_same (msgs.Sess sess side keeper) =
          let e : EndId = record { sess = sess; side = side } in
          sym (none-with bare_main (m.main e)) ∙ ap is_none (main_same e) ∙ none-with bare_main (n.main e)
      free_same (msgs.Int k) = refl
      free_same (msgs.Bool b) = refl
      free_same (msgs.Text k) = refl
      free_same (msgs.Label k) = refl
      free_same (msgs.More b) = refl

      brought_bare : (place : P) (x : Msg) (k : NodeAt P Q) → bare_node (work_of_take place x k).state ≡ (work_of_take place x (bare_node k)).state
      brought_bare place (msgs.Sess sess side keeper) k = main_put (record { sess = sess; side = side }) (Some (Expected keeper place [])) k
      brought_bare place (msgs.Int i) k = refl
      brought_bare place (msgs.Bool b) k = refl
      brought_bare place (msgs.Text i) k = refl
      brought_bare place (msgs.Label i) k = refl
      brought_bare place (msgs.More b) k = refl

      take_alike : (e : EndId) (place : P) → node_by (take_act play m e place (m.main e)) ≡ node_by (take_act play n e place (n.main e))
      take_alike e place =
          by_held (take_act play m e place) (take_act play n e place) refl (λ c. refl) (λ k p ds. refl) refl (λ c. refl) (λ k p ds. refl) (m.main e) (n.main e) (main_same e)
          (λ h k at there alike. ap (λ (x : HeldAt P). node_by (take_from play m e place h x.untaken)) alike ∙ from_alike h k alike k.untaken)
        where
          took : NodeAt P Q → HeldAt P → Msg → List Msg → P → NodeAt P Q
          took x h y rest after = with_main e (Some (Held (held_behind_take h rest after))) (record x { program = play.goes x.program (Some y) })

          took_by : (x : NodeAt P Q) (h : HeldAt P) (y : Msg) (rest : List Msg) → node_by (option_map (λ after. work_of_take place y (took x h y rest after)) (play.next h.end.place Into y))
              ≡ option_map (λ after. (work_of_take place y (took (bare_node x) (bare_held h) y rest after)).state) (play.next h.end.place Into y)
          took_by x h y rest =
              made_by bare_node (λ after. work_of_take place y (took x h y rest after)) (λ after. (work_of_take place y (took (bare_node x) (bare_held h) y rest after)).state)
              (λ after. brought_bare place y (took x h y rest after) ∙ ap (λ k. (work_of_take place y k).state) (main_put e (Some (Held (held_behind_take h rest after))) (record x { program = play.goes x.program (Some y) })))
              (play.next h.end.place Into y)

          from_alike : (h k : HeldAt P) → bare_held h ≡ bare_held k → (ms : List Msg) → node_by (take_from play m e place h ms) ≡ node_by (take_from play n e place k ms)
          from_alike h k alike [] = refl
          from_alike h k alike (y ∷ rest) =
              (λ i. node_by (if play.fits (same i).program y && free_same y i then option_map (λ after. work_of_take place y (took m h y rest after)) (play.next h.end.place Into y) else None))
              ∙ either_by bare_node (play.fits n.program y && is_free n y) _ _
              (took_by m h y rest
              ∙ (λ i. option_map (λ after. (work_of_take place y (took (same i) (alike i) y rest after)).state) (play.next (alike i).end.place Into y))
              ∙ sym (took_by n k y rest))

      close_alike : (e : EndId) → node_by (close_act play m e (m.main e)) ≡ node_by (close_act play n e (n.main e))
      close_alike e =
          by_held (close_act play m e) (close_act play n e) refl (λ c. refl) (λ k p ds. refl) refl (λ c. refl) (λ k p ds. refl) (m.main e) (n.main e) (main_same e)
          (λ h k at there alike.
          (λ i. node_by (if play.is_over (alike i).end.place then Some (closed m h) else None))
          ∙ either_by bare_node (play.is_over k.end.place) (Some (closed m h)) (Some (closed n k))
          (ap Some (closed_bare m h ∙ (λ i. with_main e (closing (alike i)) (record (same i) { program = play.goes (same i).program None })) ∙ sym (closed_bare n k))))
        where
          closing : HeldAt P → Option (MainAt P)
          closing h = if h.fin then None else Some (Closed h.end)

          closed : NodeAt P Q → HeldAt P → Worked P (NodeAt P Q)
          closed x h = record {
            state = with_main e (closing h) (record x { program = play.goes x.program None });
            posts = record { party = h.end.peer; body = Fin (other_end h.end.id) h.end.conn h.end.sent } ∷ [];
          }

          closing_bare : (b : Bool) (c : EndAt P) → option_map bare_main (if b then None else Some (Closed c)) ≡ (if b then None else Some (Closed (bare_end c)))
          closing_bare true c = refl
          closing_bare false c = refl

          closed_bare : (x : NodeAt P Q) (h : HeldAt P) → bare_node (closed x h).state ≡ with_main e (closing (bare_held h)) (record (bare_node x) { program = play.goes x.program None })
          closed_bare x h =
              main_put e (closing h) (record x { program = play.goes x.program None })
              ∙ ap (λ r. with_main e r (record (bare_node x) { program = play.goes x.program None })) (closing_bare h.fin h.end)

      request_alike : (place : P) (to : ℕ) → node_by (request_act play party m place to) ≡ node_by (request_act play party n place to)
      request_alike place to =
          (λ i. node_by (if nat_lt (same i).requests limit_of_requests then Some (opening m) else None))
          ∙ either_by bare_node (nat_lt n.requests limit_of_requests) (Some (opening m)) (Some (opening n)) (ap Some (opening_bare m ∙ ap (λ (x : NodeAt P Q). (opening x).state) same ∙ sym (opening_bare n)))
        where
          opening : NodeAt P Q → Worked P (NodeAt P Q)
          opening x = open_session play x place to (opened_number party x.requests)

          opening_bare : (x : NodeAt P Q) → bare_node (opening x).state ≡ (opening (bare_node x)).state
          opening_bare x = main_put (requested_end (opened_number party x.requests)) _ (record x { program = play.opened x.program (requested_end (opened_number party x.requests)); requests = x.requests + 1 })

      accept_alike : (place : P) (from : ℕ) → node_by (accept_act play m place from) ≡ node_by (accept_act play n place from)
      accept_alike place from =
          (λ i. node_by (accept_offered play m place from (smallest ((same i).offers from)))) ∙ offered_alike (smallest (n.offers from))
        where
          accepted : NodeAt P Q → ℕ → HeldAt P → NodeAt P Q
          accepted x sess h = with_offers from (without sess (x.offers from)) (with_main (offered_end sess) (Some (Held (held_at place h))) (record x { program = play.opened x.program (offered_end sess) }))

          accepted_bare : (x : NodeAt P Q) (sess : ℕ) (h : HeldAt P) → bare_node (accepted x sess h) ≡ accepted (bare_node x) sess (bare_held h)
          accepted_bare x sess h =
              ap (with_offers from (without sess (x.offers from))) (main_put (offered_end sess) (Some (Held (held_at place h))) (record x { program = play.opened x.program (offered_end sess) }))

          offered_alike : (o : Option ℕ) → node_by (accept_offered play m place from o) ≡ node_by (accept_offered play n place from o)
          offered_alike None = refl
          offered_alike (Some sess) =
              by_held (accept_session play m place from sess) (accept_session play n place from sess) refl (λ c. refl) (λ k p ds. refl) refl (λ c. refl) (λ k p ds. refl)
              (m.main (offered_end sess)) (n.main (offered_end sess)) (main_same (offered_end sess))
              (λ h k at there alike. ap Some (accepted_bare m sess h ∙ (λ i. accepted (same i) sess (alike i)) ∙ sym (accepted_bare n sess k)))

      act_alike : (want : Want P) → HopsFit m want → HopsFit n want → node_by (act_by play party m want) ≡ node_by (act_by play party n want)
      act_alike ended fit gap = refl
      act_alike local fit gap = λ i. Some (record (same i) { program = play.goes (same i).program None })
      act_alike (sends e msg) fit gap = send_alike play m n same e msg (m.main e) (n.main e) (main_same e)
      act_alike (delegates carrier e) fit gap = delegate_alike carrier e fit gap
      act_alike (takes e place) fit gap = take_alike e place
      act_alike (closes e) fit gap = close_alike e
      act_alike (requests place to) fit gap = request_alike place to
      act_alike (accepts place from) fit gap = accept_alike place from

      -- where it delegates an end that can be delegated at both
      pub acts_alike : HopsFit m (play.wants m.program) → HopsFit n (play.wants n.program) → node_by (acts play party m) ≡ node_by (acts play party n)
      acts_alike fit gap =
          (λ i. node_by (if play.is_worn (same i).program then None else act_by play party m (play.wants (same i).program)))
          ∙ unless (play.is_worn n.program) (act_alike (play.wants n.program) (subst (λ (x : NodeAt P Q). HopsFit m (play.wants x.program)) same fit) gap)
        where
          unless : (b : Bool) → node_by (act_by play party m (play.wants n.program)) ≡ node_by (act_by play party n (play.wants n.program))
              → node_by (if b then None else act_by play party m (play.wants n.program)) ≡ node_by (if b then None else act_by play party n (play.wants n.program))
          unless true e = refl
          unless false e = e

    -- where there is an act it can be
    pub acts_fit : (party : ℕ) (n : NodeAt P Q) (d : Worked P (NodeAt P Q)) → acts play party n ≡ Some d → HopsFit n (play.wants n.program)
    acts_fit party n d is = by (play.is_worn n.program) (play.wants n.program) is
      where
        by : (b : Bool) (want : Want P) → (if b then None else act_by play party n want) ≡ Some d → HopsFit n want
        by true want e = absurd (cc e)
        by false ended e = tt
        by false local e = tt
        by false (sends e msg) k = tt
        by false (delegates carrier e) k = λ h there. if_some (nat_lt h.end.hops limit_of_hops) _ d (ap (delegate_act play party n carrier e) (sym there) ∙ k)
        by false (takes e place) k = tt
        by false (closes e) k = tt
        by false (requests place to) k = tt
        by false (accepts place from) k = tt
