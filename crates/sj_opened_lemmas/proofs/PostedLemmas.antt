-- No rule but a request posts an Open.
use Rattle.std.proofs.Common.{◌≡◌, ℕ, ◌+◌, List, [], ◌∷◌, ◌++◌, refl}
use Rattle.std.specs.Prelude.{⊤, Bool, true, false, ◌&&◌, ◌==◌, nat_lt, is_none, if◌then◌else◌, Option, Some, None, option_map, option_and_then}
use Rattle.sj_base.specs.declared.EndId.{EndId}
use Rattle.sj_base.specs.declared.Msg.{Msg}
use Rattle.sj_base.specs.declared.Msg.TheVariants as msgs
use Rattle.sj_lang.specs.declared.proto.Way.TheVariants.{Out, Into}
use Rattle.sj_rules.specs.Limits.{limit_of_hops}
use Rattle.sj_rules.specs.Record.{EndAt, BodyAt, Carry, Fin, Claim, Signal, Ack, Give, Open, Mail, HeldAt, MainAt, Held, Closed, Expected, OldAt, Parked, Signalled, other_end}
use Rattle.sj_rules.specs.Opened.{is_open}
use Rattle.sj_rules.specs.Rows.{Worked, mails_of, with_first, with_last, trimmed_end, end_with_peer, numbered_carries, resent_posts, cached_from, signal_fits, passive, passive_closed, crossing_body, acked_body, with_end, at_held, worked_record, resent_at, resend_fits, install}
use Rattle.sj_rules.specs.Node.{Want, ended, local, sends, delegates, takes, closes, requests, accepts, Play, NodeAt, put, with_main, with_old, with_number, held_after, closed_after, parked_after, given_after, at_main, plain_comes, signal_comes, ack_comes, claim_comes, give_comes, comes, send_act, delegate_act, take_act, take_from, close_act, work_of_take, is_free, held_behind_take, act_by, acts}

-- none of these posts is an Open
abbrev pub AreUnopened : {P : Type 0} → List (Mail P) → Type 0
AreUnopened [] = ⊤
AreUnopened (m ∷ ms) = (is_open m.body ≡ false) × AreUnopened ms

unopened_append : {P : Type 0} → (xs ys : List (Mail P)) → AreUnopened xs → AreUnopened ys → AreUnopened (xs ++ ys)
unopened_append [] ys a b = b
unopened_append (x ∷ xs) ys a b = (a.0, unopened_append xs ys a.1 b)

-- what a rule posts, where it fits
abbrev pub PostsNone : {P X : Type 0} → Option (Worked P X) → Type 0
PostsNone None = ⊤
PostsNone (Some w) = AreUnopened w.posts

carries_unopened : (P : Type 0) (party : ℕ) (to : EndId) (conn taken number : ℕ) (ms : List Msg) → AreUnopened (mails_of party (numbered_carries {P = P} to conn taken number ms))
carries_unopened P party to conn taken number [] = tt
carries_unopened P party to conn taken number (m ∷ ms) = (refl, carries_unopened P party to conn taken (number + 1) ms)

module _ {P : Type 0} where
  none_if : {X : Type 0} → (b : Bool) (o : Option (Worked P X)) → PostsNone o → PostsNone (if b then o else None)
  none_if true o a = a
  none_if false o a = tt

  none_unless : {X : Type 0} → (b : Bool) (o : Option (Worked P X)) → PostsNone o → PostsNone (if b then None else o)
  none_unless true o a = tt
  none_unless false o a = a

  none_map : {X Y : Type 0} → (f : Worked P X → Worked P Y) → ((w : Worked P X) → AreUnopened w.posts → AreUnopened (f w).posts) → (o : Option (Worked P X)) → PostsNone o → PostsNone (option_map f o)
  none_map f keeps None a = tt
  none_map f keeps (Some w) a = keeps w a

  none_from : {X Y : Type 0} → (f : X → Worked P Y) → ((x : X) → AreUnopened (f x).posts) → (o : Option X) → PostsNone (option_map f o)
  none_from f posts None = tt
  none_from f posts (Some x) = posts x

  resent_unopened : (e : EndAt P) (start : ℕ) → AreUnopened (resent_posts e start)
  resent_unopened e start = carries_unopened P e.peer (other_end e.id) e.conn e.taken start (cached_from e start)

  passive_none : (pick : ℕ → ℕ → ℕ) (e : EndAt P) (origin conn party taken : ℕ) → PostsNone (passive pick e origin conn party taken)
  passive_none pick e origin conn party taken = none_if (signal_fits e origin conn taken) (Some _) (refl, resent_unopened (trimmed_end pick (end_with_peer e party) taken) taken)

  passive_closed_none : (pick : ℕ → ℕ → ℕ) (e : EndAt P) (origin conn party taken : ℕ) → PostsNone (passive_closed pick e origin conn party taken)
  passive_closed_none pick e origin conn party taken =
      none_map (with_last (record { party = party; body = Fin (other_end e.id) (e.conn + 1) e.sent } ∷ [])) (λ w a. unopened_append w.posts (record { party = party; body = Fin (other_end e.id) (e.conn + 1) e.sent } ∷ []) a (refl, tt))
      (passive pick e origin conn party taken) (passive_none pick e origin conn party taken)

  at_held_none : (pick : ℕ → ℕ → ℕ) (h : HeldAt P) (origin : ℕ) (b : BodyAt P) → PostsNone (at_held pick h origin b)
  at_held_none pick h origin (Carry to conn number taken msg) = none_if _ (Some _) tt
  at_held_none pick h origin (Fin to conn number) = none_if _ (Some _) tt
  at_held_none pick h origin (Signal to conn party taken) = none_map (with_end h) (λ w a. a) (passive pick h.end origin conn party taken) (passive_none pick h.end origin conn party taken)
  at_held_none pick h origin (Claim of) = tt
  at_held_none pick h origin (Ack of conn) = tt
  at_held_none pick h origin (Give e resend) = tt
  at_held_none pick h origin (Open sess) = tt

  and_then_none : (pick : ℕ → ℕ → ℕ) (ms : List (Mail P)) → ((h : HeldAt P) → PostsNone (worked_record pick h ms)) → (o : Option (Worked P (HeldAt P))) → PostsNone o →
      PostsNone (option_and_then (λ w. option_map (with_first w.posts) (worked_record pick w.state ms)) o)
  and_then_none pick ms later None a = tt
  and_then_none pick ms later (Some w) a = none_map (with_first w.posts) (λ z c. unopened_append w.posts z.posts a c) (worked_record pick w.state ms) (later w.state)

  worked_none : (pick : ℕ → ℕ → ℕ) (h : HeldAt P) (ms : List (Mail P)) → PostsNone (worked_record pick h ms)
  worked_none pick h [] = tt
  worked_none pick h (m ∷ ms) = and_then_none pick ms (λ g. worked_none pick g ms) (at_held pick h m.party m.body) (at_held_none pick h m.party m.body)

  resent_at_unopened : (e : EndAt P) (resend : Option ℕ) → AreUnopened (resent_at e resend)
  resent_at_unopened e None = tt
  resent_at_unopened e (Some n) = resent_unopened e n

  install_none : (pick : ℕ → ℕ → ℕ) (place : P) (ds : List (Mail P)) (e : EndAt P) (resend : Option ℕ) → PostsNone (install pick place ds e resend)
  install_none pick place ds e resend =
      none_if (resend_fits e resend) _
      (none_map (with_first (resent_at e resend)) (λ z c. unopened_append (resent_at e resend) z.posts (resent_at_unopened e resend) c)
      (worked_record pick (record { end = record e { place = place }; untaken = []; fin = false }) ds) (worked_none pick (record { end = record e { place = place }; untaken = []; fin = false }) ds))

  crossing_unopened : (pick : ℕ → ℕ → ℕ) (e : EndAt P) (origin conn party taken : ℕ) {Q : Type 0} (n : NodeAt P Q) (id : EndId) (to : ℕ) → PostsNone (option_map (given_after n id to) (crossing_body pick e origin conn party taken))
  crossing_unopened pick e origin conn party taken n id to = by (signal_fits e origin conn taken)
    where
      by : (b : Bool) → PostsNone (option_map (given_after n id to) (if b then Some (Give (trimmed_end pick (end_with_peer e party) taken) (Some taken)) else None))
      by true = (refl, tt)
      by false = tt

  acked_unopened : (e : EndAt P) (origin conn : ℕ) {Q : Type 0} (n : NodeAt P Q) (id : EndId) (to : ℕ) → PostsNone (option_map (given_after n id to) (acked_body e origin conn))
  acked_unopened e origin conn n id to = by ((conn == e.conn) && nat_lt e.conn 1000 && (origin == e.peer))
    where
      by : (b : Bool) → PostsNone (option_map (given_after n id to) (if b then Some (Give (end_with_peer e e.peer) None) else None))
      by true = (refl, tt)
      by false = tt

module _ {P Q : Type 0} (pick : ℕ → ℕ → ℕ) (n : NodeAt P Q) (q : ℕ) where
  main_none : (e : EndId) (b : BodyAt P) (o : Option (MainAt P)) → PostsNone (at_main pick n q e b o)
  main_none e b None = tt
  main_none e b (Some (Expected keeper place ds)) = tt
  main_none e b (Some (Held h)) = none_map (held_after n e) (λ w a. a) (at_held pick h q b) (at_held_none pick h q b)
  main_none e (Signal to conn party taken) (Some (Closed c)) = none_map (closed_after n e) (λ w a. a) (passive_closed pick c q conn party taken) (passive_closed_none pick c q conn party taken)
  main_none e (Fin to conn number) (Some (Closed c)) = none_if _ (Some _) tt
  main_none e (Carry to conn number taken msg) (Some (Closed c)) = tt
  main_none e (Claim of) (Some (Closed c)) = tt
  main_none e (Ack of conn) (Some (Closed c)) = tt
  main_none e (Give g resend) (Some (Closed c)) = tt
  main_none e (Open sess) (Some (Closed c)) = tt

  plain_none : (e : EndId) (b : BodyAt P) (o : Option (OldAt P)) → PostsNone (plain_comes pick n q e b o)
  plain_none e b None = main_none e b (n.main e)
  plain_none e b (Some (Parked k)) = none_if (q == k.peer) (Some _) tt
  plain_none e b (Some (Signalled k to)) = none_if (q == k.peer) (Some _) tt

  signal_none : (e : EndId) (conn party taken : ℕ) (o : Option (OldAt P)) → PostsNone (signal_comes pick n q e conn party taken o)
  signal_none e conn party taken None = main_none e (Signal e conn party taken) (n.main e)
  signal_none e conn party taken (Some (Parked k)) = none_map (parked_after n e) (λ w a. a) (passive pick k q conn party taken) (passive_none pick k q conn party taken)
  signal_none e conn party taken (Some (Signalled k to)) = crossing_unopened pick k q conn party taken n e to

  ack_none : (e : EndId) (conn : ℕ) (o : Option (OldAt P)) → PostsNone (ack_comes n q e conn o)
  ack_none e conn None = tt
  ack_none e conn (Some (Parked k)) = tt
  ack_none e conn (Some (Signalled k to)) = acked_unopened k q conn n e to

  claim_none : (e : EndId) (o : Option (OldAt P)) → PostsNone (claim_comes n q e o)
  claim_none e None = tt
  claim_none e (Some (Parked k)) = (refl, tt)
  claim_none e (Some (Signalled k to)) = tt

  give_none : (e : EndAt P) (resend : Option ℕ) (o : Option (MainAt P)) → PostsNone (give_comes pick n q e resend o)
  give_none e resend None = tt
  give_none e resend (Some (Held h)) = tt
  give_none e resend (Some (Closed c)) = tt
  give_none e resend (Some (Expected keeper place ds)) =
      none_if (is_none (n.old e.id) && (q == keeper)) _ (none_map (held_after n e.id) (λ w a. a) (install pick place ds e resend) (install_none pick place ds e resend))

  -- no frame that comes makes a party post an Open
  pub comes_none : (b : BodyAt P) → PostsNone (comes pick n q b)
  comes_none (Carry to conn number taken msg) = plain_none to (Carry to conn number taken msg) (with_number conn (n.old to))
  comes_none (Fin to conn number) = plain_none to (Fin to conn number) (with_number conn (n.old to))
  comes_none (Claim of) = claim_none of (n.old of)
  comes_none (Signal to conn party taken) = signal_none to conn party taken (with_number conn (n.old to))
  comes_none (Ack of conn) = ack_none of conn (with_number conn (n.old of))
  comes_none (Give e resend) = give_none e resend (n.main e.id)
  comes_none (Open sess) = tt

module _ {P Q : Type 0} (play : Play P Q) where
  send_none : (n : NodeAt P Q) (e : EndId) (msg : Msg) (o : Option (MainAt P)) → PostsNone (send_act play n e msg o)
  send_none n e msg None = tt
  send_none n e msg (Some (Closed c)) = tt
  send_none n e msg (Some (Expected keeper place ds)) = tt
  send_none n e msg (Some (Held h)) = none_from _ (λ place. (refl, tt)) (play.next h.end.place Out msg)

  delegate_none : (p : ℕ) (n : NodeAt P Q) (carrier e : EndId) (o : Option (MainAt P)) → PostsNone (delegate_act play p n carrier e o)
  delegate_none p n carrier e None = tt
  delegate_none p n carrier e (Some (Closed c)) = tt
  delegate_none p n carrier e (Some (Expected keeper place ds)) = tt
  delegate_none p n carrier e (Some (Held h)) =
      none_if (nat_lt h.end.hops limit_of_hops) _ (send_none (with_main e None (with_old e (Some (Parked (record h.end { hops = h.end.hops + 1 }))) n)) carrier (msgs.Sess e.sess e.side p) (put e None n.main carrier))

  brought_none : (place : P) (msg : Msg) (n : NodeAt P Q) → AreUnopened (work_of_take place msg n).posts
  brought_none place (msgs.Sess sess side keeper) n = (refl, tt)
  brought_none place (msgs.Int k) n = tt
  brought_none place (msgs.Bool k) n = tt
  brought_none place (msgs.Text k) n = tt
  brought_none place (msgs.Label k) n = tt
  brought_none place (msgs.More k) n = tt

  take_none : (n : NodeAt P Q) (e : EndId) (place : P) (o : Option (MainAt P)) → PostsNone (take_act play n e place o)
  take_none n e place None = tt
  take_none n e place (Some (Closed c)) = tt
  take_none n e place (Some (Expected keeper q ds)) = tt
  take_none n e place (Some (Held h)) = by h.untaken
    where
      by : (l : List Msg) → PostsNone (take_from play n e place h l)
      by [] = tt
      by (msg ∷ rest) = none_if (play.fits n.program msg && is_free n msg) _
          (none_from (λ after. work_of_take place msg (with_main e (Some (Held (held_behind_take h rest after))) (record n { program = play.goes n.program (Some msg) })))
          (λ after. brought_none place msg (with_main e (Some (Held (held_behind_take h rest after))) (record n { program = play.goes n.program (Some msg) }))) (play.next h.end.place Into msg))

  close_none : (n : NodeAt P Q) (e : EndId) (o : Option (MainAt P)) → PostsNone (close_act play n e o)
  close_none n e None = tt
  close_none n e (Some (Closed c)) = tt
  close_none n e (Some (Expected keeper place ds)) = tt
  close_none n e (Some (Held h)) = none_if (play.is_over h.end.place) (Some _) (refl, tt)

  -- the step opens and accepts no session
  abbrev pub OpensNone : Want P → Type 0
  OpensNone ended = ⊤
  OpensNone local = ⊤
  OpensNone (sends c msg) = ⊤
  OpensNone (delegates c d) = ⊤
  OpensNone (takes c place) = ⊤
  OpensNone (closes c) = ⊤
  OpensNone (requests place to) = ⊥
  OpensNone (accepts place from) = ⊥

  by_none : (p : ℕ) (n : NodeAt P Q) (want : Want P) → OpensNone want → PostsNone (act_by play p n want)
  by_none p n ended o = tt
  by_none p n local o = tt
  by_none p n (sends e msg) o = send_none n e msg (n.main e)
  by_none p n (delegates carrier e) o = delegate_none p n carrier e (n.main e)
  by_none p n (takes e place) o = take_none n e place (n.main e)
  by_none p n (closes e) o = close_none n e (n.main e)
  by_none p n (requests place to) o = absurd o
  by_none p n (accepts place from) o = absurd o

  -- nor does an act that opens no session
  pub acts_none : (p : ℕ) (n : NodeAt P Q) → OpensNone (play.wants n.program) → PostsNone (acts play p n)
  acts_none p n o = none_unless (play.is_worn n.program) (act_by play p n (play.wants n.program)) (by_none p n (play.wants n.program) o)
