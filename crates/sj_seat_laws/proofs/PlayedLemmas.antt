-- A frame comes to a node whatever its program is, and a call of a party is its row at the node,
-- beside what the party becomes.
use Rattle.std.proofs.Common.{◌≡◌, ℕ, ◌+◌, ◌==◌, nat_lt, Bool, true, false, ◌&&◌, not, cond, List, [], ◌∷◌, Option, Some, None, option_map, refl, ap, sym, ◌∙◌}
use Rattle.std.specs.Prelude.{is_none}
use Rattle.sj_base.specs.declared.EndId.{EndId}
use Rattle.sj_base.specs.declared.Msg.{Msg}
use Rattle.sj_base.specs.declared.Msg.TheVariants as msgs
use Rattle.sj_lang.specs.declared.proto.Way.TheVariants.{Into, Out}
use Rattle.sj_lang.specs.After.{after_place}
use Rattle.sj_lang.specs.FileAt.{FileAt}
use Rattle.sj_lang.specs.ItemCount.{is_done}
use Rattle.sj_lang.specs.Place.{Place, boolean, choice, done, int, message, repeat, session, text}
use Rattle.sj_rules.specs.Frames.{FrameAt, is_proper}
use Rattle.sj_rules.specs.Halts.{halt_by}
use Rattle.sj_rules.specs.Limits.{limit_of_requests}
use Rattle.sj_rules.specs.Log.{Accept, NoteAt, Request, Sent, Shut, Took, act_note, head_note, take_note}
use Rattle.sj_rules.specs.Node as wanted
use Rattle.sj_rules.specs.Node.{NodeAt, Play, Want, accept_offered, accept_session, ack_comes, act_by, acts, arrives, at_main, claim_comes, close_act, closed_after, comes, comes_or_opens, delegate_act, give_comes, given_after, held_after, held_behind_take, is_free, open_comes, parked_after, plain_comes, put, quietly, send_act, signal_comes, take_act, take_from, with_main, with_number, with_old, work_of_take}
use Rattle.sj_rules.specs.Opened.{is_opened_by, opened_number, smallest}
use Rattle.sj_rules.specs.Record.{BodyAt, Carry, Fin, Claim, Signal, Ack, Give, Open, EndAt, HeldAt, MainAt, Held, Closed, Expected, OldAt, Parked, Signalled, is_same_end, offered_end, requested_end}
use Rattle.sj_rules.specs.Rows.{Worked, acked_body, at_held, crossing_body, install, passive, passive_closed}
use Rattle.sj_seat_laws.specs.Calls as calls
use Rattle.sj_seat_laws.specs.Calls.{Call, Ends, SeatedAt, place_held, place_opened}
use Rattle.sj_seat_laws.specs.Guards.{called, carried_next, may_carry, may_send, may_take, opened, seated_want, want_of_accept, want_of_calls, want_of_close, want_of_delegate, want_of_request, want_of_send, want_of_take, where_allowed}
use Rattle.sj_seat_laws.specs.SeatRows.{call_act, call_told, silent, with_player, worked_player}
use Rattle.sj_seat_laws.specs.SeatedPlay.{Player, seated, seated_play}

-- two maps that agree
maps : {X Y Z : Type 0} (f : Y → Z) (h : X → Y) (k : X → Z) → ((x : X) → k x ≡ f (h x)) → (o : Option X) → option_map k o ≡ option_map f (option_map h o)
maps f h k same None = refl
maps f h k same (Some x) = ap Some (same x)

tests : {Y Z : Type 0} (f : Y → Z) (b : Bool) (x : Option Y) (z : Option Z) → z ≡ option_map f x → cond b z None ≡ option_map f (cond b x None)
tests f true x z h = h
tests f false x z h = refl

-- ---- frames

module _ {P Q R : Type 0} (g : R) (pick : ℕ → ℕ → ℕ) (n : NodeAt P Q) (origin : ℕ) where
  abbrev m : NodeAt P R
  m = with_player g n

  main_played : (e : EndId) (b : BodyAt P) (o : Option (MainAt P)) → at_main pick m origin e b o ≡ option_map (worked_player g) (at_main pick n origin e b o)
  main_played e b None = refl
  main_played e b (Some (Expected keeper place deferred)) = refl
  main_played e b (Some (Held h)) = maps (worked_player g) (held_after n e) (held_after m e) (λ w. refl) (at_held pick h origin b)
  main_played e (Signal to conn party taken) (Some (Closed c)) = maps (worked_player g) (closed_after n e) (closed_after m e) (λ w. refl) (passive_closed pick c origin conn party taken)
  main_played e (Fin to conn number) (Some (Closed c)) = tests (worked_player g) ((conn == c.conn) && (origin == c.peer) && (number == c.taken)) (Some (quietly (with_main e None n))) (Some (quietly (with_main e None m))) refl
  main_played e (Carry to conn number taken msg) (Some (Closed c)) = refl
  main_played e (Claim of) (Some (Closed c)) = refl
  main_played e (Ack of conn) (Some (Closed c)) = refl
  main_played e (Give x resend) (Some (Closed c)) = refl
  main_played e (Open sess) (Some (Closed c)) = refl

  plain_played : (e : EndId) (b : BodyAt P) (o : Option (OldAt P)) → plain_comes pick m origin e b o ≡ option_map (worked_player g) (plain_comes pick n origin e b o)
  plain_played e b None = main_played e b (n.main e)
  plain_played e b (Some (Parked c)) = tests (worked_player g) (origin == c.peer) (Some (quietly n)) (Some (quietly m)) refl
  plain_played e b (Some (Signalled c to)) = tests (worked_player g) (origin == c.peer) (Some (quietly n)) (Some (quietly m)) refl

  signal_played : (e : EndId) (conn party taken : ℕ) (o : Option (OldAt P)) → signal_comes pick m origin e conn party taken o ≡ option_map (worked_player g) (signal_comes pick n origin e conn party taken o)
  signal_played e conn party taken None = main_played e (Signal e conn party taken) (n.main e)
  signal_played e conn party taken (Some (Parked c)) = maps (worked_player g) (parked_after n e) (parked_after m e) (λ w. refl) (passive pick c origin conn party taken)
  signal_played e conn party taken (Some (Signalled c to)) = maps (worked_player g) (given_after n e to) (given_after m e to) (λ w. refl) (crossing_body pick c origin conn party taken)

  ack_played : (e : EndId) (conn : ℕ) (o : Option (OldAt P)) → ack_comes m origin e conn o ≡ option_map (worked_player g) (ack_comes n origin e conn o)
  ack_played e conn None = refl
  ack_played e conn (Some (Parked c)) = refl
  ack_played e conn (Some (Signalled c to)) = maps (worked_player g) (given_after n e to) (given_after m e to) (λ w. refl) (acked_body c origin conn)

  claim_played : (e : EndId) (o : Option (OldAt P)) → claim_comes m origin e o ≡ option_map (worked_player g) (claim_comes n origin e o)
  claim_played e None = refl
  claim_played e (Some (Parked c)) = refl
  claim_played e (Some (Signalled c to)) = refl

  give_played : (e : EndAt P) (resend : Option ℕ) (o : Option (MainAt P)) → give_comes pick m origin e resend o ≡ option_map (worked_player g) (give_comes pick n origin e resend o)
  give_played e resend None = refl
  give_played e resend (Some (Held h)) = refl
  give_played e resend (Some (Closed c)) = refl
  give_played e resend (Some (Expected keeper place deferred)) =
      tests (worked_player g) (is_none (n.old e.id) && (origin == keeper)) (option_map (held_after n e.id) (install pick place deferred e resend)) (option_map (held_after m e.id) (install pick place deferred e resend))
      (maps (worked_player g) (held_after n e.id) (held_after m e.id) (λ w. refl) (install pick place deferred e resend))

  open_played : (blank : P) (sess : ℕ) → open_comes blank m origin sess ≡ option_map (worked_player g) (open_comes blank n origin sess)
  open_played blank sess = tests (worked_player g) (is_opened_by origin sess && is_none (n.main (offered_end sess)) && is_none (n.old (offered_end sess))) _ _ refl

  comes_played : (blank : P) (b : BodyAt P) → comes_or_opens blank pick m origin b ≡ option_map (worked_player g) (comes_or_opens blank pick n origin b)
  comes_played blank (Carry to conn number taken msg) = plain_played to (Carry to conn number taken msg) (with_number conn (n.old to))
  comes_played blank (Fin to conn number) = plain_played to (Fin to conn number) (with_number conn (n.old to))
  comes_played blank (Claim of) = claim_played of (n.old of)
  comes_played blank (Signal to conn party taken) = signal_played to conn party taken (with_number conn (n.old to))
  comes_played blank (Ack of conn) = ack_played of conn (with_number conn (n.old of))
  comes_played blank (Give e resend) = give_played e resend (n.main e.id)
  comes_played blank (Open sess) = open_played blank sess

  -- a frame comes to a node as it does to the node with another program
  pub arrives_played : (blank : P) (parties : ℕ) (f : FrameAt P) → arrives blank parties pick m origin f ≡ option_map (worked_player g) (arrives blank parties pick n origin f)
  arrives_played blank parties f = tests (worked_player g) (is_proper parties f) (comes_or_opens blank pick n origin f.body) (comes_or_opens blank pick m origin f.body) (comes_played blank f.body)

-- ---- calls

module _ {Q : Type 0} (file : FileAt) (party : ℕ) (s : SeatedAt) where
  abbrev bare : Play Place Q
  bare = silent (seated_play file).parties

  abbrev done_by : Option Msg → Worked Place (NodeAt Place Q) → Worked Place (NodeAt Place Player)
  done_by taken = worked_player (seated (called s taken))

  send_played : (n : NodeAt Place Q) (e : EndId) (msg : Msg) (o : Option (MainAt Place)) → send_act (seated_play file) (with_player (seated s) n) e msg o ≡ option_map (done_by None) (send_act bare n e msg o)
  send_played n e msg None = refl
  send_played n e msg (Some (Closed c)) = refl
  send_played n e msg (Some (Expected keeper place deferred)) = refl
  send_played n e msg (Some (Held h)) = maps (done_by None) _ _ (λ place. refl) (after_place h.end.place Out msg)

  delegate_played : (n : NodeAt Place Q) (c e : EndId) (o : Option (MainAt Place)) → delegate_act (seated_play file) party (with_player (seated s) n) c e o ≡ option_map (done_by None) (delegate_act bare party n c e o)
  delegate_played n c e None = refl
  delegate_played n c e (Some (Closed k)) = refl
  delegate_played n c e (Some (Expected keeper place deferred)) = refl
  delegate_played n c e (Some (Held h)) =
      tests (done_by None) (nat_lt h.end.hops 100) _ _
      (send_played (with_main e None (with_old e (Some (Parked (record h.end { hops = h.end.hops + 1 }))) n)) c (msgs.Sess e.sess e.side party) (put e None n.main c))

  work_played : (n : NodeAt Place Q) (place : Place) (msg : Msg) (taken : Option Msg) → work_of_take place msg (with_player (seated (called s taken)) n) ≡ done_by taken (work_of_take place msg n)
  work_played n place (msgs.Sess sess side keeper) taken = refl
  work_played n place (msgs.Int i) taken = refl
  work_played n place (msgs.Bool i) taken = refl
  work_played n place (msgs.Text i) taken = refl
  work_played n place (msgs.Label i) taken = refl
  work_played n place (msgs.More i) taken = refl

  free_played : (n : NodeAt Place Q) (msg : Msg) → is_free (with_player (seated s) n) msg ≡ is_free n msg
  free_played n (msgs.Sess sess side keeper) = refl
  free_played n (msgs.Int i) = refl
  free_played n (msgs.Bool i) = refl
  free_played n (msgs.Text i) = refl
  free_played n (msgs.Label i) = refl
  free_played n (msgs.More i) = refl

  -- a take does what its row does, by the message that it takes
  take_played : (n : NodeAt Place Q) (e : EndId) (place : Place) (h : HeldAt Place) (msg : Msg) (rest : List Msg)
      → take_from (seated_play file) (with_player (seated s) n) e place h (msg ∷ rest) ≡ option_map (done_by (Some msg)) (take_from bare n e place h (msg ∷ rest))
  take_played n e place h msg rest =
      ap (λ (b : Bool). cond b (option_map (after (with_player (seated s) n)) (after_place h.end.place Into msg)) None) (free_played n msg)
      ∙ tests (done_by (Some msg)) (is_free n msg) _ _ (maps (done_by (Some msg)) _ (after (with_player (seated s) n)) (λ q. work_played (with_main e (Some (Held (held_behind_take h rest q))) n) place msg (Some msg)) (after_place h.end.place Into msg))
    where
      after : NodeAt Place Player → Place → Worked Place (NodeAt Place Player)
      after k q = work_of_take place msg (with_main e (Some (Held (held_behind_take h rest q))) (record k { program = (seated_play file).goes k.program (Some msg) }))

  close_played : (n : NodeAt Place Q) (e : EndId) (o : Option (MainAt Place)) → close_act (seated_play file) (with_player (seated s) n) e o ≡ option_map (done_by None) (close_act bare n e o)
  close_played n e None = refl
  close_played n e (Some (Closed k)) = refl
  close_played n e (Some (Expected keeper place deferred)) = refl
  close_played n e (Some (Held h)) = tests (done_by None) (is_done h.end.place) _ _ refl

  -- each step but a take does what its row does, and the party goes on
  pub call_played : (n : NodeAt Place Q) (want : Want Place) → ((e : EndId) (place : Place) → want ≡ wanted.takes e place → ⊥) → ((place : Place) (to : ℕ) → want ≡ wanted.requests place to → ⊥) → ((place : Place) (from : ℕ) → want ≡ wanted.accepts place from → ⊥)
      → act_by (seated_play file) party (with_player (seated s) n) want ≡ option_map (done_by None) (call_act (seated_play file).parties party n want)
  call_played n wanted.ended t r a = refl
  call_played n wanted.local t r a = refl
  call_played n (wanted.sends e msg) t r a = send_played n e msg (n.main e)
  call_played n (wanted.delegates c e) t r a = delegate_played n c e (n.main e)
  call_played n (wanted.takes e place) t r a = absurd (t e place refl)
  call_played n (wanted.closes e) t r a = close_played n e (n.main e)
  call_played n (wanted.requests place to) t r a = absurd (r place to refl)
  call_played n (wanted.accepts place from) t r a = absurd (a place from refl)

  -- and a take by the message that is there
  pub taking_played : (n : NodeAt Place Q) (e : EndId) (place : Place) (h : HeldAt Place) (msg : Msg) (rest : List Msg) → n.main e ≡ Some (Held h) → h.untaken ≡ msg ∷ rest
      → act_by (seated_play file) party (with_player (seated s) n) (wanted.takes e place) ≡ option_map (done_by (Some msg)) (call_act (seated_play file).parties party n (wanted.takes e place))
  taking_played n e place h msg rest there head =
      ap (take_act (seated_play file) (with_player (seated s) n) e place) there ∙ ap (take_from (seated_play file) (with_player (seated s) n) e place h) head ∙ take_played n e place h msg rest
      ∙ sym (ap (option_map (done_by (Some msg))) (ap (take_act bare n e place) there ∙ ap (take_from bare n e place h) head))

  abbrev opened_so : EndId → Worked Place (NodeAt Place Q) → Worked Place (NodeAt Place Player)
  opened_so e = worked_player (seated (opened s e))

  -- a request does what its row does, and the party holds the first end of its session
  pub requesting_played : (n : NodeAt Place Q) (place : Place) (to : ℕ) → act_by (seated_play file) party (with_player (seated s) n) (wanted.requests place to)
      ≡ option_map (opened_so (requested_end (opened_number party n.requests))) (call_act (seated_play file).parties party n (wanted.requests place to))
  requesting_played n place to = tests (opened_so (requested_end (opened_number party n.requests))) (nat_lt n.requests limit_of_requests) _ _ refl

  accept_played : (n : NodeAt Place Q) (place : Place) (from sess : ℕ) (o : Option (MainAt Place)) → accept_session (seated_play file) (with_player (seated s) n) place from sess o
      ≡ option_map (opened_so (offered_end sess)) (accept_session bare n place from sess o)
  accept_played n place from sess None = refl
  accept_played n place from sess (Some (Closed k)) = refl
  accept_played n place from sess (Some (Expected keeper own deferred)) = refl
  accept_played n place from sess (Some (Held h)) = refl

  -- and so does an accept, by the session that is offered first
  pub accepting_played : (n : NodeAt Place Q) (place : Place) (from sess : ℕ) → smallest (n.offers from) ≡ Some sess → act_by (seated_play file) party (with_player (seated s) n) (wanted.accepts place from)
      ≡ option_map (opened_so (offered_end sess)) (call_act (seated_play file).parties party n (wanted.accepts place from))
  accepting_played n place from sess first =
      ap (accept_offered (seated_play file) (with_player (seated s) n) place from) first ∙ accept_played n place from sess (n.main (offered_end sess))
      ∙ sym (ap (option_map (opened_so (offered_end sess))) (ap (accept_offered bare n place from) first))

module _ {Q : Type 0} (s : SeatedAt) where
  -- so is the cause that keeps it from a step
  pub halts_played : (n : NodeAt Place Q) (want : Want Place) → halt_by (with_player (seated s) n) want ≡ halt_by n want
  halts_played n wanted.ended = refl
  halts_played n wanted.local = refl
  halts_played n (wanted.sends e msg) = refl
  halts_played n (wanted.delegates c e) = refl
  halts_played n (wanted.takes e place) = refl
  halts_played n (wanted.closes e) = refl
  halts_played n (wanted.requests place to) = refl
  halts_played n (wanted.accepts place from) = refl

-- ---- what a log reports

-- the next call is the one that the note reports, for some protocol
pub record IsTold (s : SeatedAt) (note : NoteAt) : Type 0 where
  pub call : Call
  pub later : List Call
  pub calls : s.calls ≡ call ∷ later
  pub protocol : ℕ
  pub told : call_told protocol note ≡ Some call

some_note : (x y : NoteAt) → Some x ≡ Some y → x ≡ y
some_note x y h = cc

told_send : (e : EndId) (q : Place) (msg : Msg) → may_send q msg ≡ true → call_told 0 (Sent e msg) ≡ Some (calls.sends e msg)
told_send e q (msgs.Sess s d k) h = absurd (cc (no_end q s d k, h))
  where
    no_end : (q : Place) (s d k : ℕ) → may_send q (msgs.Sess s d k) ≡ false
    no_end done s d k = refl
    no_end (message Out int next) s d k = refl
    no_end (message Out boolean next) s d k = refl
    no_end (message Out text next) s d k = refl
    no_end (message Out (session kind) next) s d k = refl
    no_end (message Into kind next) s d k = refl
    no_end (choice Out arms next) s d k = refl
    no_end (choice Into arms next) s d k = refl
    no_end (repeat Out body next) s d k = refl
    no_end (repeat Into body next) s d k = refl
told_send e q (msgs.Int i) h = refl
told_send e q (msgs.Bool i) h = refl
told_send e q (msgs.Text i) h = refl
told_send e q (msgs.Label i) h = refl
told_send e q (msgs.More i) h = refl

module _ {Q : Type 0} (party : ℕ) (n : NodeAt Place Q) (s : SeatedAt) (note : NoteAt) where
  abbrev Noted : Want Place → Type 0
  Noted want = act_note party n want ≡ Some note

  told_as : (k : ℕ) (c : Call) (cs : List Call) → s.calls ≡ c ∷ cs → (x : NoteAt) → x ≡ note → call_told k x ≡ Some c → IsTold s note
  told_as k c cs is x same told = record { call = c; later = cs; calls = is; protocol = k; told = ap (call_told k) (sym same) ∙ told }

  told_by : (c : Call) (cs : List Call) → s.calls ≡ c ∷ cs → (x : NoteAt) → x ≡ note → call_told 0 x ≡ Some c → IsTold s note
  told_by c cs is x same told = told_as 0 c cs is x same told

  head_told : (e : EndId) (cs : List Call) → s.calls ≡ calls.takes e ∷ cs → (ms : List Msg) → head_note e ms ≡ Some note → IsTold s note
  head_told e cs is [] h = absurd (cc h)
  head_told e cs is (msg ∷ ms) h = told_by (calls.takes e) cs is (Took e msg) (some_note _ note h) refl

  take_told : (e : EndId) (cs : List Call) → s.calls ≡ calls.takes e ∷ cs → (o : Option (MainAt Place)) → take_note e o ≡ Some note → IsTold s note
  take_told e cs is None h = absurd (cc h)
  take_told e cs is (Some (Held k)) h = head_told e cs is k.untaken h
  take_told e cs is (Some (Closed k)) h = absurd (cc h)
  take_told e cs is (Some (Expected keeper place deferred)) h = absurd (cc h)

  send_told : (e : EndId) (msg : Msg) (cs : List Call) → s.calls ≡ calls.sends e msg ∷ cs → (o : Option Place) → Noted (want_of_send e msg o) → IsTold s note
  send_told e msg cs is None h = absurd (cc h)
  send_told e msg cs is (Some q) h = by (may_send q msg) refl h
    where
      by : (b : Bool) → may_send q msg ≡ b → Noted (where_allowed b (wanted.sends e msg)) → IsTold s note
      by true can k = told_by (calls.sends e msg) cs is (Sent e msg) (some_note _ note k) (told_send e q msg can)
      by false can k = absurd (cc k)

  delegate_told : (c e : EndId) (cs : List Call) → s.calls ≡ calls.delegates c e ∷ cs → (o r : Option Place) → Noted (want_of_delegate c e o r) → IsTold s note
  delegate_told c e cs is None r h = absurd (cc h)
  delegate_told c e cs is (Some q) None h = absurd (cc h)
  delegate_told c e cs is (Some q) (Some r) h = by (not (is_same_end c e) && may_carry q r) h
    where
      by : (b : Bool) → Noted (where_allowed b (wanted.delegates c e)) → IsTold s note
      by true k = told_by (calls.delegates c e) cs is (Sent c (msgs.Sess e.sess e.side party)) (some_note _ note k) refl
      by false k = absurd (cc k)

  taking_told : (e : EndId) (cs : List Call) → s.calls ≡ calls.takes e ∷ cs → (o : Option Place) → Noted (want_of_take e o) → IsTold s note
  taking_told e cs is None h = absurd (cc h)
  taking_told e cs is (Some q) h = by (may_take q) h
    where
      by : (b : Bool) → Noted (where_allowed b (wanted.takes e (carried_next q))) → IsTold s note
      by true k = take_told e cs is (n.main e) k
      by false k = absurd (cc k)

  close_told : (e : EndId) (cs : List Call) → s.calls ≡ calls.closes e ∷ cs → (o : Option Place) → Noted (want_of_close e o) → IsTold s note
  close_told e cs is None h = absurd (cc h)
  close_told e cs is (Some q) h = by (is_done q) h
    where
      by : (b : Bool) → Noted (where_allowed b (wanted.closes e)) → IsTold s note
      by true k = told_by (calls.closes e) cs is (Shut e) (some_note _ note k) refl
      by false k = absurd (cc k)

  request_told : (q k : ℕ) (cs : List Call) → s.calls ≡ calls.requests q k ∷ cs → (o : Option Place) → Noted (want_of_request q o) → IsTold s note
  request_told q k cs is None h = absurd (cc h)
  request_told q k cs is (Some place) h = told_as k (calls.requests q k) cs is (Request (opened_number party n.requests) q) (some_note _ note h) refl

  accept_told : (q k : ℕ) (cs : List Call) → s.calls ≡ calls.accepts q k ∷ cs → (o : Option Place) → Noted (want_of_accept q o) → IsTold s note
  accept_told q k cs is None h = absurd (cc h)
  accept_told q k cs is (Some place) h = by (smallest (n.offers q)) h
    where
      by : (o : Option ℕ) → option_map (λ sess. Accept sess q) o ≡ Some note → IsTold s note
      by None l = absurd (cc l)
      by (Some sess) l = told_as k (calls.accepts q k) cs is (Accept sess q) (some_note _ note l) refl

  calls_told : (cs : List Call) → s.calls ≡ cs → Noted (want_of_calls s.may s.ends cs) → IsTold s note
  calls_told [] is h = absurd (cc h)
  calls_told (calls.sends e msg ∷ cs) is h = send_told e msg cs is (place_held s.ends e) h
  calls_told (calls.delegates c e ∷ cs) is h = delegate_told c e cs is (place_held s.ends c) (place_held s.ends e) h
  calls_told (calls.takes e ∷ cs) is h = taking_told e cs is (place_held s.ends e) h
  calls_told (calls.closes e ∷ cs) is h = close_told e cs is (place_held s.ends e) h
  calls_told (calls.requests q k ∷ cs) is h = request_told q k cs is (place_opened s.may.requests q k) h
  calls_told (calls.accepts q k ∷ cs) is h = accept_told q k cs is (place_opened s.may.accepts q k) h

  pub note_tells_call : Noted (seated_want s) → IsTold s note
  note_tells_call h = calls_told s.calls refl h
