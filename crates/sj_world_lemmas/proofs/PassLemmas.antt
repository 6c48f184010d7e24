-- A Signal is delivered to an end that isn't Signalled.
use Rattle.std.proofs.Common.{◌≡◌, ℕ, ◌+◌, ◌-◌, ◌<◌, List, [], ◌∷◌, ◌++◌, refl, sym, ap, subst, ◌∙◌, max, arith}
use Rattle.std.specs.Prelude.{Bool, true, false, ◌&&◌, ◌==◌, if◌then◌else◌, Some}
use Rattle.std.specs.List.{filter}
use Rattle.std.proofs.lemmas.List.{map-append}
use Rattle.std.proofs.lemmas.List.Elements.{filter-append}
use Rattle.sj_base.specs.declared.EndId.{EndId}
use Rattle.sj_base.specs.declared.Msg.{Msg}
use Rattle.sj_rules.specs.Record.{EndAt, BodyAt, Carry, Fin, Signal, Ack, Mail, other_end, is_same_end}
use Rattle.sj_rules.specs.Rows.{trimmed_end, end_with_peer, numbered_carries, mails_of, cached_from, resent_posts}
use Rattle.sj_rules.specs.Node.{Play, NodeAt, comes}
use Rattle.sj_rules.specs.Frames.{FrameAt}
use Rattle.sj_rules.specs.World.{WorldAt}
use Rattle.sj_rules.specs.Seat.{Seat, signalled, source_for, side_of}
use Rattle.sj_rules.specs.Shown.{Shows, goes_to}
use Rattle.sj_rules.specs.PlainSide.{PlainSide}
use Rattle.sj_rules.specs.Numbers.{behind, by_ack}
use Rattle.sj_rules.specs.Invariant.{IsSound}
use Rattle.sj_rules.specs.Linked.{subject_of}
use Rattle.sj_world_lemmas.proofs.LaneLemmas.{sent_to}
use Rattle.sj_world_lemmas.proofs.TableLemmas.{with_tables}
use Rattle.sj_world_lemmas.proofs.PopLemmas.{popped, IsStream}
use Rattle.sj_world_lemmas.proofs.PostLemmas.{posts_apart, posted_both, sent_cons, sent_numbered, AreMails}
use Rattle.sj_world_lemmas.proofs.HandoverLaws.{acked_side}
use Rattle.sj_world_lemmas.proofs.EventLemmas.{same_end, other_not, shown_beside, other_before, Delivered, IsAlike}
use Rattle.sj_world_lemmas.proofs.QuietLemmas.{IsOwn}
use Rattle.sj_world_lemmas.proofs.SendingLemmas.{delivers}

-- facts about mails

-- mails of two lists
pub mails_append : {P : Type 0} → (Is : BodyAt P → Type 0) (a b : List (Mail P)) → AreMails Is a → AreMails Is b → AreMails Is (a ++ b)
mails_append Is [] b m n = n
mails_append Is (k ∷ a) b m n = (m.0, mails_append Is a b m.1 n)

-- mails of Carries
pub numbered_mails : {P : Type 0} → (Is : BodyAt P → Type 0) (party : ℕ) (to : EndId) (conn told number : ℕ) (ms : List Msg) →
    ((n : ℕ) (m : Msg) → Is (Carry to conn n told m)) → AreMails Is (mails_of party (numbered_carries to conn told number ms))
numbered_mails Is party to conn told number [] h = tt
numbered_mails Is party to conn told number (m ∷ ms) h = (h number m, numbered_mails Is party to conn told (number + 1) ms h)

-- what is sent in two lists
pub sent_append : {P : Type 0} → (test : BodyAt P → Bool) (to : ℕ) (a b : List (Mail P)) → filter test (sent_to to (a ++ b)) ≡ filter test (sent_to to a) ++ filter test (sent_to to b)
sent_append test to a b = simp (filter-append, map-append)

-- nothing is live, under whatever number
pub nothing_live : {A : Type 0} → (k l : Bool) (rest : List A) → rest ≡ [] → (if k then rest else []) ≡ (if l then rest else [])
nothing_live true true rest e = refl
nothing_live true false rest e = e
nothing_live false true rest e = sym e
nothing_live false false rest e = refl

module _ (P : Type 0) (pick : ℕ → ℕ → ℕ) (id : EndId) (e : EndAt P) (p k : ℕ) (name : e.id ≡ id) where
  -- the messages that are sent again
  abbrev ms : List Msg
  ms = cached_from (trimmed_end pick (end_with_peer e p) k) k

  -- the mails, by the other end's name
  posts_are : ◌≡◌ {A = List (Mail P)} (record { party = e.peer; body = Ack (other_end e.id) e.conn } ∷ resent_posts (trimmed_end pick (end_with_peer e p) k) k)
      (record { party = e.peer; body = Ack (other_end id) e.conn } ∷ mails_of p (numbered_carries (other_end id) (e.conn + 1) e.taken k ms))
  posts_are = ap (λ (i : EndId). record { party = e.peer; body = Ack (other_end i) e.conn } ∷ mails_of p (numbered_carries (other_end i) (e.conn + 1) e.taken k ms)) name

  -- what the passive row sends, as s sees it
  pub pass_sent : (to c : ℕ) → filter (goes_to {P = P} (other_end id) c) (sent_to to (record { party = e.peer; body = Ack (other_end e.id) e.conn } ∷ resent_posts (trimmed_end pick (end_with_peer e p) k) k))
      ≡ (if (to == e.peer) && (c == e.conn) then Ack (other_end id) e.conn ∷ [] else []) ++ (if (to == p) && (c == e.conn + 1) then numbered_carries (other_end id) (e.conn + 1) e.taken k ms else [])
  pass_sent to c = ap (λ l. filter (goes_to {P = P} (other_end id) c) (sent_to to l)) posts_are ∙ by to c
    where
      by : (to c : ℕ) → filter (goes_to {P = P} (other_end id) c) (sent_to to (record { party = e.peer; body = Ack (other_end id) e.conn } ∷ mails_of p (numbered_carries (other_end id) (e.conn + 1) e.taken k ms)))
          ≡ (if (to == e.peer) && (c == e.conn) then Ack (other_end id) e.conn ∷ [] else []) ++ (if (to == p) && (c == e.conn + 1) then numbered_carries (other_end id) (e.conn + 1) e.taken k ms else [])
      by to c = sent_cons {P = P} (goes_to (other_end id) c) to (record { party = e.peer; body = Ack (other_end id) e.conn }) (mails_of p (numbered_carries (other_end id) (e.conn + 1) e.taken k ms))
          ∙ rw (same_end (other_end id), sent_numbered P (other_end id) c to p (e.conn + 1) e.taken k ms (same_end (other_end id))) refl

  -- what holds of the Ack and the Carries holds of all
  pub pass_mails : (Is : BodyAt P → Type 0) → Is (Ack (other_end id) e.conn) → ((n : ℕ) (m : Msg) → Is (Carry (other_end id) (e.conn + 1) n e.taken m)) →
      AreMails Is (record { party = e.peer; body = Ack (other_end e.id) e.conn } ∷ resent_posts (trimmed_end pick (end_with_peer e p) k) k)
  pass_mails Is a h = subst (λ l. AreMails Is l) (sym posts_are) (a, numbered_mails Is p (other_end id) (e.conn + 1) e.taken k ms h)

module _ {P Q : Type 0} (IsOver : P → Type 0) (play : Play P Q) (pick : ℕ → ℕ → ℕ) (w : WorldAt P Q) (rest : List (FrameAt P))
    (id : EndId) (low : id.side < 2) (x y : PlainSide P) (ps place : P) (a t b clock : ℕ) (es e : EndAt P) (ds so sl ro left : List (BodyAt P)) (p k : ℕ) (seat seat' : Seat P)
    (name : e.id ≡ id) (peer : e.peer ≡ a) (number : e.conn ≡ es.conn) (es_peer : es.peer ≡ b)
    (front : w.lanes a b ≡ record { clock = clock; body = Signal id e.conn p k } ∷ rest)
    (n : NodeAt P Q) (own : IsOwn id (w.nodes b) n) (posts : List (Mail P)) (more : List (BodyAt P))
    (row : comes pick (w.nodes b) a (Signal id e.conn p k) ≡ Some (record { state = n; posts = posts }))
    (mails : (Is : BodyAt P → Type 0) → Is (Ack (other_end id) e.conn) → ((m : ℕ) (l : Msg) → Is (Carry (other_end id) (e.conn + 1) m e.taken l)) → Is (Fin (other_end id) (e.conn + 1) e.sent) → AreMails Is posts)
    (sent : (to c : ℕ) → filter (goes_to {P = P} (other_end id) c) (sent_to to posts) ≡ (if (to == e.peer) && (c == e.conn) then Ack (other_end id) e.conn ∷ [] else []) ++ (if (to == p) && (c == e.conn + 1) then more else [])) where
  -- the clock after the event
  abbrev now : ℕ
  now = max (w.nodes b).clock clock + 1

  -- the Signal passes on
  pub passes : p ≡ t → left ≡ [] →
      source_for seat (signalled a t es ds) ≡ b → source_for seat' (signalled a t es ds) ≡ b →
      Shows (with_tables (popped w a b rest) b now n) (signalled a t es ds) (side_of id place seat' ro left) →
      Shows w seat (side_of (other_end id) ps (signalled a t es ds) so sl) →
      IsSound IsOver (behind by_ack) x y (acked_side (other_end id) ps a t es ds so sl more) (side_of id place seat' ro left) →
      IsAlike seat seat' → Delivered IsOver play pick w a b id x y (signalled a t es ds) seat
  passes party none from from' shows shown sound alike =
      let f : FrameAt P = record { clock = clock; body = Signal id e.conn p k } in
      let side : (1 - id.side) < 2 = omega arith in
      let before : Shows (with_tables (popped w a b rest) b now n) seat (side_of (other_end id) ps (signalled a t es ds) so sl) =
      other_before w a b f rest front now n posts id low refl own.mains own.olds seat (side_of (other_end id) ps (signalled a t es ds) so sl) refl shown in
      let sent' : (to c : ℕ) → filter (goes_to {P = P} (other_end id) c) (sent_to to posts) ≡ (if (to == a) && (c == es.conn) then Ack (other_end id) es.conn ∷ [] else []) ++ (if (to == t) && (c == es.conn + 1) then more else []) =
      λ to c. sent to c ∙ rw (peer, number, party) refl in
      delivers IsOver play pick w a b f rest front id low refl n own posts row (mails (λ m. (subject_of m).sess ≡ id.sess) refl (λ m l. refl) refl) (mails (λ m. (subject_of m).side < 2) side (λ m l. side) side) x y (signalled a t es ds) seat
      (behind by_ack) (acked_side (other_end id) ps a t es ds so sl more) (side_of id place seat' ro left) refl refl sound
      (posts_apart (with_tables (popped w a b rest) b now n) b now posts (signalled a t es ds) (side_of id place seat' ro left)
      (mails (λ m. is_same_end (subject_of m) id ≡ false) (other_not id low) (λ m l. other_not id low) (other_not id low)) shows)
      (shown_beside _ seat seat' (acked_side (other_end id) ps a t es ds so sl more) (from' ∙ sym from)
      (posted_both (with_tables (popped w a b rest) b now n) b now posts seat (other_end id) ps a t es ds so sl (Ack (other_end id) es.conn ∷ []) more from es_peer
      (mails IsStream tt (λ m l. tt) tt) sent' before))
      alike (refl, λ keeper. (λ i. i, λ i. i))
