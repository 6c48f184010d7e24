-- A record that a party has stays there, whatever comes and whatever it does.
use Rattle.std.proofs.Common.{◌≡◌, ℕ, suc, List, [], ◌∷◌, ◌++◌, refl, subst}
use Rattle.std.specs.Prelude.{Bool, true, false, nat_lt, ◌&&◌, ◌==◌, if◌then◌else◌, Option, Some, None, is_none, option_map}
use Rattle.std.proofs.lemmas.Bool.{eqb-true}
use Rattle.sj_base.specs.declared.EndId.{EndId}
use Rattle.sj_base.specs.declared.Msg.{Msg}
use Rattle.sj_base.specs.declared.Msg.TheVariants as msgs
use Rattle.sj_semantics.specs.World.{session_message}
use Rattle.sj_rules.specs.Limits.{limit_of_hops, limit_of_requests}
use Rattle.sj_rules.specs.Opened.{opened_number, is_opened_by, smallest}
use Rattle.sj_rules.specs.Play.{Want, ended, local, sends, delegates, takes, closes, requests, accepts, Play}
use Rattle.sj_rules.specs.Record.{is_same_end, requested_end, offered_end}
use Rattle.sj_rules.specs.World.{Event, Act, Deliver, Turn}
use Rattle.sj_forward_rules.specs.Record.{SentAt, StateAt, Held, Parked, Passing, Closed, RecordAt, FrameAt, In, Out, Claim, Open}
use Rattle.sj_forward_rules.specs.Node.{NodeAt, HasRecord, Worked, quietly, with_record, with_first, with_offers, with_program, HeldAt, held_of}
use Rattle.sj_forward_rules.specs.Arrivals.{in_by, out_by, claim_by, at_record, comes}
use Rattle.sj_forward_rules.specs.Acts.{send_act, parked, delegate_act, work_of_take, take_from, take_act, close_act, open_session}
use Rattle.sj_forward_rules.specs.Acts.{request_act, accept_offered, act_by, acts}
use Rattle.sj_forward_rules.specs.World.{WorldAt, Lanes, after_event, with_lane, delivery_of, happens, Run}

-- the one has each record that the other has
abbrev pub Stays : {Q : Type 0} → NodeAt Q → NodeAt Q → Type 0
Stays n v = (e : EndId) (h : ℕ) → HasRecord n e h → HasRecord v e h

same_work : {Q : Type 0} (a b : Worked Q) → ◌≡◌ {A = Option (Worked Q)} (Some a) (Some b) → a ≡ b
same_work a b e = cc e

same_world : {Q : Type 0} (a b : WorldAt Q) → ◌≡◌ {A = Option (WorldAt Q)} (Some a) (Some b) → a ≡ b
same_world a b e = cc e

module _ {Q : Type 0} where
  pub written_stays : (n : NodeAt Q) (e : EndId) (h : ℕ) (new : RecordAt) → Stays n (with_record e h new n)
  written_stays n e h new d k has = by (is_same_end d e && (k == h))
    where
      by : (b : Bool) → (r : RecordAt) × ((if b then Some new else n.records d k) ≡ Some r)
      by true = (new, refl)
      by false = has

  -- where one party has more all have as much
  pub still_there : (nodes : ℕ → NodeAt Q) (p : ℕ) (n : NodeAt Q) → Stays (nodes p) n → (x : ℕ) → Stays (nodes x) (if x == p then n else nodes x)
  still_there nodes p n stays x e h has = by (x == p) refl
    where
      by : (b : Bool) → (x == p) ≡ b → HasRecord (if b then n else nodes x) e h
      by true t = stays e h (subst (λ (y : ℕ). HasRecord (nodes y) e h) (eqb-true x p t) has)
      by false t = has

  -- so it is in what a rule leaves
  abbrev pub WorkStays : NodeAt Q → Option (Worked Q) → Type 0
  WorkStays n o = (done : Worked Q) → o ≡ Some done → Stays n done.node

  by_none : (n : NodeAt Q) → WorkStays n None
  by_none n done is = absurd (cc is)

  by_some : (n : NodeAt Q) (work : Worked Q) → Stays n work.node → WorkStays n (Some work)
  by_some n work stays done is = subst (λ (x : Worked Q). Stays n x.node) (same_work work done is) stays

  -- ---- what comes

  in_stays : (n : NodeAt Q) (e : EndId) (h : ℕ) (m : SentAt) (behind : ℕ) (st : StateAt) → WorkStays n (in_by n e h m behind st)
  in_stays n e h m behind (Held ms) = by_some n _ (written_stays n e h _)
  in_stays n e h m behind (Parked ms) = by_some n _ (written_stays n e h _)
  in_stays n e h m behind (Passing p) = by_some n _ (λ d k has. has)
  in_stays n e h m behind Closed = by_none n

  out_stays : (n : NodeAt Q) (e : EndId) (h : ℕ) (m : SentAt) (behind : ℕ) (st : StateAt) → WorkStays n (out_by n e h m behind st)
  out_stays n e h m behind (Held ms) = by_none n
  out_stays n e h m behind (Parked ms) = by_some n _ (λ d k has. has)
  out_stays n e h m behind (Passing p) = by_some n _ (λ d k has. has)
  out_stays n e h m behind Closed = by_none n

  claim_stays : (n : NodeAt Q) (e : EndId) (h origin behind : ℕ) (st : StateAt) → WorkStays n (claim_by n e h origin behind st)
  claim_stays n e h origin behind (Parked ms) = by_some n _ (written_stays n e h _)
  claim_stays n e h origin behind (Held ms) = by_none n
  claim_stays n e h origin behind (Passing p) = by_none n
  claim_stays n e h origin behind Closed = by_none n

  at_stays : (n : NodeAt Q) (f : ℕ → StateAt → Option (Worked Q)) → ((behind : ℕ) (st : StateAt) → WorkStays n (f behind st))
      → (o : Option RecordAt) → WorkStays n (at_record f o)
  at_stays n f each None = by_none n
  at_stays n f each (Some r) = each r.behind r.state

  pub comes_stays : (n : NodeAt Q) (origin : ℕ) (f : FrameAt) → WorkStays n (comes n origin f)
  comes_stays n origin (In e h m) = at_stays n (in_by n e h m) (in_stays n e h m) (n.records e h)
  comes_stays n origin (Out e h m) = at_stays n (out_by n e h m) (out_stays n e h m) (n.records e h)
  comes_stays n origin (Claim e h) = at_stays n (claim_by n e h origin) (claim_stays n e h origin) (n.records e h)
  comes_stays n origin (Open sess) = by (is_opened_by origin sess && is_none (n.records (offered_end sess) 0))
    where
      by : (b : Bool)
          → WorkStays n (if b then Some (quietly (with_offers origin (n.offers origin ++ sess ∷ []) (with_first (offered_end sess) origin n))) else
          None)
      by true = by_some n _ (written_stays n (offered_end sess) 0 (record { behind = origin; state = Held [] }))
      by false = by_none n

  -- ---- what a party does

  send_stays : (n v : NodeAt Q) (e : EndId) (m : SentAt) (o : Option HeldAt) → Stays n v → WorkStays n (send_act v e m o)
  send_stays n v e m None stays = by_none n
  send_stays n v e m (Some h) stays = by_some n _ stays

  delegate_stays : (n v : NodeAt Q) (p : ℕ) (carrier e : EndId) (o : Option HeldAt) → Stays n v → WorkStays n (delegate_act p v carrier e o)
  delegate_stays n v p carrier e None stays = by_none n
  delegate_stays n v p carrier e (Some h) stays = by (nat_lt h.hop limit_of_hops)
    where
      by : (b : Bool) → WorkStays n (if b then send_act (parked e h v) carrier (record { msg = session_message e p; hop = h.hop })
          (held_of (parked e h v) carrier) else None)
      by true =
          send_stays n (parked e h v) carrier (record { msg = session_message e p; hop = h.hop }) (held_of (parked e h v) carrier)
          (λ d k has. written_stays v e h.hop (record { behind = h.behind; state = Parked h.untaken }) d k (stays d k has))
      by false = by_none n

  work_stays : (n v : NodeAt Q) (msg : Msg) (h : ℕ) → Stays n v → Stays n (work_of_take msg h v).node
  work_stays n v (msgs.Sess sess side keeper) h stays = λ d k has.
      written_stays v (record { sess = sess; side = side }) (suc h) (record { behind = keeper; state = Held [] }) d k (stays d k has)
  work_stays n v (msgs.Int x) h stays = stays
  work_stays n v (msgs.Bool x) h stays = stays
  work_stays n v (msgs.Text x) h stays = stays
  work_stays n v (msgs.Label x) h stays = stays
  work_stays n v (msgs.More x) h stays = stays

  close_stays : (n v : NodeAt Q) (e : EndId) (o : Option HeldAt) → Stays n v → WorkStays n (close_act v e o)
  close_stays n v e None stays = by_none n
  close_stays n v e (Some h) stays =
      by_some n _ (λ d k has. written_stays v e h.hop (record { behind = h.behind; state = Closed }) d k (stays d k has))

module _ {P Q : Type 0} (play : Play P Q) where
  from_stays : (n : NodeAt Q) (e : EndId) (h : HeldAt) (ms : List SentAt) → WorkStays n (take_from play n e h ms)
  from_stays n e h [] = by_none n
  from_stays n e h (m ∷ rest) =
      by_some n _ (work_stays n _ m.msg m.hop (written_stays n e h.hop (record { behind = h.behind; state = Held rest })))

  take_stays : (n : NodeAt Q) (e : EndId) (o : Option HeldAt) → WorkStays n (take_act play n e o)
  take_stays n e None = by_none n
  take_stays n e (Some h) = from_stays n e h h.untaken

  request_stays : (p : ℕ) (n : NodeAt Q) (to : ℕ) → WorkStays n (request_act play p n to)
  request_stays p n to = by (nat_lt n.requests limit_of_requests)
    where
      by : (b : Bool) → WorkStays n (if b then Some (open_session play n to (opened_number p n.requests)) else None)
      by true = by_some n _ (written_stays n (requested_end (opened_number p n.requests)) 0 (record { behind = to; state = Held [] }))
      by false = by_none n

  accept_stays : (n : NodeAt Q) (from : ℕ) (o : Option ℕ) → WorkStays n (accept_offered play n from o)
  accept_stays n from None = by_none n
  accept_stays n from (Some sess) = by_some n _ (λ d k has. has)

  by_stays : (p : ℕ) (n : NodeAt Q) (want : Want P) → WorkStays n (act_by play p n want)
  by_stays p n ended = by_none n
  by_stays p n local = by_some n _ (λ d k has. has)
  by_stays p n (sends e msg) =
      send_stays n (with_program (play.goes n.program None) n) e (record { msg = msg; hop = 0 }) (held_of n e) (λ d k has. has)
  by_stays p n (delegates carrier e) = delegate_stays n (with_program (play.goes n.program None) n) p carrier e (held_of n e) (λ d k has. has)
  by_stays p n (takes e place) = take_stays n e (held_of n e)
  by_stays p n (closes e) = close_stays n (with_program (play.goes n.program None) n) e (held_of n e) (λ d k has. has)
  by_stays p n (requests place to) = request_stays p n to
  by_stays p n (accepts place from) = accept_stays n from (smallest (n.offers from))

  pub acts_stay : (p : ℕ) (n : NodeAt Q) → WorkStays n (acts play p n)
  acts_stay p n = by (play.is_worn n.program)
    where
      by : (b : Bool) → WorkStays n (if b then None else act_by play p n (play.wants n.program))
      by true = by_none n
      by false = by_stays p n (play.wants n.program)

  -- ---- events and runs

  module _ (e : EndId) (h : ℕ) (x : ℕ) where
    event_stays : (w v : WorldAt Q) (p : ℕ) (lanes : Lanes) (o : Option (Worked Q)) → WorkStays (w.nodes p) o
        → option_map (after_event w p lanes) o ≡ Some v
        → HasRecord (w.nodes x) e h → HasRecord (v.nodes x) e h
    event_stays w v p lanes None stays is has = absurd (cc is)
    event_stays w v p lanes (Some done) stays is has =
        subst (λ (u : WorldAt Q). HasRecord (u.nodes x) e h) (same_world (after_event w p lanes done) v is)
        (still_there w.nodes p done.node (stays done refl) x e h has)

    delivery_stays : (w v : WorldAt Q) (p q : ℕ) (fs : List FrameAt) → delivery_of w p q fs ≡ Some v → HasRecord (w.nodes x) e h
        → HasRecord (v.nodes x) e h
    delivery_stays w v p q [] is has = absurd (cc is)
    delivery_stays w v p q (f ∷ rest) is has =
        event_stays w v p (with_lane q p rest w.lanes) (comes (w.nodes p) q f) (comes_stays (w.nodes p) q f) is has

    happens_stays : (w v : WorldAt Q) (p : ℕ) (event : Event) → happens play w p event ≡ Some v → HasRecord (w.nodes x) e h
        → HasRecord (v.nodes x) e h
    happens_stays w v p Act is has = event_stays w v p w.lanes (acts play p (w.nodes p)) (acts_stay p (w.nodes p)) is has
    happens_stays w v p (Deliver q) is has = delivery_stays w v p q (w.lanes q p) is has

    pub run_stays : (w v : WorldAt Q) (turns : List Turn) → Run play w turns v → HasRecord (w.nodes x) e h → HasRecord (v.nodes x) e h
    run_stays w v [] run has = subst (λ (u : WorldAt Q). HasRecord (u.nodes x) e h) run has
    run_stays w v (t ∷ ts) run has = run_stays run.0 v ts run.2 (happens_stays w run.0 t.party t.event run.1 has)
