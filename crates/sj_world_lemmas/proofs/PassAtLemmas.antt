-- A Signal at an end that is Held, Parked, claimed or Closed.
use Rattle.std.proofs.Common.{◌≡◌, ℕ, ◌+◌, ◌<◌, List, [], ◌∷◌, ◌++◌, refl, sym, subst, ◌∙◌, max, append-nil, append_assoc}
use Rattle.std.specs.Prelude.{Bool, true, false, ◌&&◌, ◌==◌, if◌then◌else◌, Some, None}
use Rattle.std.specs.List.{filter}
use Rattle.std.proofs.lemmas.Bool.{eq-eqb}
use Rattle.sj_base.specs.declared.EndId.{EndId}
use Rattle.sj_rules.specs.Record.{EndAt, BodyAt, Fin, Signal, Ack, Mail, HeldAt, Held, Closed, Parked, other_end, is_same_end}
use Rattle.sj_rules.specs.Rows.{with_last, passive_closed, passive, trimmed_end, end_with_peer}
use Rattle.sj_rules.specs.Node.{Play, NodeAt, with_main, with_old}
use Rattle.sj_rules.specs.Frames.{FrameAt}
use Rattle.sj_rules.specs.World.{WorldAt}
use Rattle.sj_rules.specs.Seat.{held, parked, claimed, signalled, closed, side_of}
use Rattle.sj_rules.specs.Shown.{Shows, is_lane, goes_to}
use Rattle.sj_rules.specs.PlainSide.{PlainSide}
use Rattle.sj_rules.specs.Numbers.{level, behind, by_ack}
use Rattle.sj_rules.specs.Invariant.{IsSound}
use Rattle.sj_world_lemmas.proofs.LaneLemmas.{sent_to}
use Rattle.sj_world_lemmas.proofs.TableLemmas.{turned_shows}
use Rattle.sj_world_lemmas.proofs.PopLemmas.{popped, popped_live}
use Rattle.sj_world_lemmas.proofs.PostLemmas.{sent_cons}
use Rattle.sj_world_lemmas.proofs.HandoverLaws.{SignalAtHeld, SignalAtParked, SignalAtClaimed, SignalAtClosed, resends, acked_side, passed}
use Rattle.sj_world_lemmas.proofs.EventLemmas.{same_end, goes_under, Delivered}
use Rattle.sj_world_lemmas.proofs.QuietLemmas.{own_main, own_old}
use Rattle.sj_world_lemmas.proofs.PassLemmas.{pass_sent, pass_mails, passes, nothing_live, mails_append, sent_append}

module _ {P Q : Type 0} (IsOver : P → Type 0) (play : Play P Q) (pick : ℕ → ℕ → ℕ) (w : WorldAt P Q) (rest : List (FrameAt P))
    (id : EndId) (low : id.side < 2) (x y : PlainSide P) (ps place : P) (a t b clock : ℕ) (es : EndAt P) (ds so sl ro left : List (BodyAt P)) (p k : ℕ) where
  -- the clock after the event
  abbrev now : ℕ
  now = max (w.nodes b).clock clock + 1

  -- at a Held end
  pub signal_at_held : (h : HeldAt P) → SignalAtHeld IsOver pick x y (other_end id) id ps place a t es ds so sl →
      w.lanes a b ≡ record { clock = clock; body = Signal id h.end.conn p k } ∷ rest →
      Shows w (signalled a t es ds) (side_of id place (held b h) ro (Signal id h.end.conn p k ∷ left)) →
      Shows w (held b h) (side_of (other_end id) ps (signalled a t es ds) so sl) →
      IsSound IsOver level x y (side_of (other_end id) ps (signalled a t es ds) so sl) (side_of id place (held b h) ro (Signal id h.end.conn p k ∷ left)) →
      Delivered IsOver play pick w a b id x y (signalled a t es ds) (held b h)
  signal_at_held h law front shows shown sound =
      let went : EndAt P = trimmed_end pick (end_with_peer h.end p) k in
      let g : HeldAt P = record h { end = went } in
      let n : NodeAt P Q = with_main id (Some (Held g)) (w.nodes b) in
      let f : FrameAt P = record { clock = clock; body = Signal id h.end.conn p k } in
      let l : (passive pick h.end h.end.peer h.end.conn p k ≡ Some (passed pick h.end p k))
      × IsSound IsOver (behind by_ack) x y (acked_side (other_end id) ps a t es ds so sl (resends pick (other_end id) h.end p k)) (side_of id place (held b g) ro left) =
      law b h ro left id h.end.conn p k sound in
      let numbers : (es.conn ≡ h.end.conn) × (es.peer ≡ b) × (h.end.peer ≡ a) = sound.numbers in
      let name : h.end.id ≡ id = sound.there.fits.0.name in
      let main : (w.nodes b).main id ≡ Some (Held h) = shows.mains b ∙ rw (eq-eqb b b refl) refl in
      let none : (w.nodes b).old id ≡ None = shows.olds b in
      let fits : passive pick h.end a h.end.conn p k ≡ Some (passed pick h.end p k) = subst (λ (o : ℕ). passive pick h.end o h.end.conn p k ≡ Some (passed pick h.end p k)) numbers.2 l.0 in
      let empty : left ≡ [] = l.1.there.comes.0 in
      passes IsOver play pick w rest id low x y ps place a t b clock es h.end ds so sl ro left p k (held b h) (held b g) name numbers.2 (sym numbers.0) numbers.1 front n (own_main id (Some (Held g)) (w.nodes b))
      (passed pick h.end p k).posts (resends pick (other_end id) h.end p k) (rw (none, main, fits) refl)
      (λ Is ack carry fin. pass_mails P pick id h.end p k name Is ack carry) (pass_sent P pick id h.end p k name) l.1.numbers.1 empty refl refl
      (turned_shows (popped w a b rest) b now n id place (signalled a t es ds) (signalled a t es ds) (held b h) (held b g) ro ro left left
      (record { main = rw (same_end id, eq-eqb b b refl) refl; old = none; mains = λ q i. rw i refl; olds = λ q i. refl })
      (λ q r c. nothing_live (is_lane q r a b && (c == h.end.conn)) (is_lane q r a b && (c == h.end.conn + 1)) left empty)
      (λ q r. refl) (λ q r. refl)
      (popped_live w (signalled a t es ds) (side_of id place (held b h) ro (Signal id h.end.conn p k ∷ left)) f rest left front tt (goes_under f.body tt) refl refl shows))
      shown l.1 (refl, λ keeper. (λ i. i, λ i. i))

  -- at a Parked end
  pub signal_at_parked : (e : EndAt P) → SignalAtParked IsOver pick x y (other_end id) id ps place a t es ds so sl →
      w.lanes a b ≡ record { clock = clock; body = Signal id e.conn p k } ∷ rest →
      Shows w (signalled a t es ds) (side_of id place (parked b e) ro (Signal id e.conn p k ∷ left)) →
      Shows w (parked b e) (side_of (other_end id) ps (signalled a t es ds) so sl) →
      IsSound IsOver level x y (side_of (other_end id) ps (signalled a t es ds) so sl) (side_of id place (parked b e) ro (Signal id e.conn p k ∷ left)) →
      Delivered IsOver play pick w a b id x y (signalled a t es ds) (parked b e)
  signal_at_parked e law front shows shown sound =
      let went : EndAt P = trimmed_end pick (end_with_peer e p) k in
      let n : NodeAt P Q = with_old id (Some (Parked went)) (w.nodes b) in
      let f : FrameAt P = record { clock = clock; body = Signal id e.conn p k } in
      let l : (passive pick e e.peer e.conn p k ≡ Some (passed pick e p k))
      × IsSound IsOver (behind by_ack) x y (acked_side (other_end id) ps a t es ds so sl (resends pick (other_end id) e p k)) (side_of id place (parked b went) ro left) =
      law b e ro left id e.conn p k sound in
      let numbers : (es.conn ≡ e.conn) × (es.peer ≡ b) × (e.peer ≡ a) = sound.numbers in
      let name : e.id ≡ id = sound.there.fits.0.name in
      let old_is : (w.nodes b).old id ≡ Some (Parked e) = shows.olds b ∙ rw (eq-eqb b b refl) refl in
      let fits : passive pick e a e.conn p k ≡ Some (passed pick e p k) = subst (λ (o : ℕ). passive pick e o e.conn p k ≡ Some (passed pick e p k)) numbers.2 l.0 in
      let empty : left ≡ [] = l.1.there.comes.0 in
      passes IsOver play pick w rest id low x y ps place a t b clock es e ds so sl ro left p k (parked b e) (parked b went) name numbers.2 (sym numbers.0) numbers.1 front n (own_old id (Some (Parked went)) (w.nodes b))
      (passed pick e p k).posts (resends pick (other_end id) e p k) (rw (old_is, eq-eqb e.conn e.conn refl, fits) refl)
      (λ Is ack carry fin. pass_mails P pick id e p k name Is ack carry) (pass_sent P pick id e p k name) l.1.numbers.1 empty refl refl
      (turned_shows (popped w a b rest) b now n id place (signalled a t es ds) (signalled a t es ds) (parked b e) (parked b went) ro ro left left
      (record { main = shows.mains b; old = rw (same_end id, eq-eqb b b refl) refl; mains = λ q i. refl; olds = λ q i. rw i refl })
      (λ q r c. nothing_live (is_lane q r a b && (c == e.conn)) (is_lane q r a b && (c == e.conn + 1)) left empty)
      (λ q r. refl) (λ q r. refl)
      (popped_live w (signalled a t es ds) (side_of id place (parked b e) ro (Signal id e.conn p k ∷ left)) f rest left front tt (goes_under f.body tt) refl refl shows))
      shown l.1 (refl, λ keeper. (λ i. i, λ i. i))

  -- at a claimed end
  pub signal_at_claimed : (u : ℕ) (e : EndAt P) → SignalAtClaimed IsOver pick x y (other_end id) id ps place a t es ds so sl →
      w.lanes a b ≡ record { clock = clock; body = Signal id e.conn p k } ∷ rest →
      Shows w (signalled a t es ds) (side_of id place (claimed b u e) ro (Signal id e.conn p k ∷ left)) →
      Shows w (claimed b u e) (side_of (other_end id) ps (signalled a t es ds) so sl) →
      IsSound IsOver level x y (side_of (other_end id) ps (signalled a t es ds) so sl) (side_of id place (claimed b u e) ro (Signal id e.conn p k ∷ left)) →
      Delivered IsOver play pick w a b id x y (signalled a t es ds) (claimed b u e)
  signal_at_claimed u e law front shows shown sound =
      let went : EndAt P = trimmed_end pick (end_with_peer e p) k in
      let n : NodeAt P Q = with_old id (Some (Parked went)) (w.nodes b) in
      let f : FrameAt P = record { clock = clock; body = Signal id e.conn p k } in
      let l : (passive pick e e.peer e.conn p k ≡ Some (passed pick e p k))
      × IsSound IsOver (behind by_ack) x y (acked_side (other_end id) ps a t es ds so sl (resends pick (other_end id) e p k)) (side_of id place (claimed b u went) ro left) =
      law b u e ro left id e.conn p k sound in
      let numbers : (es.conn ≡ e.conn) × (es.peer ≡ b) × (e.peer ≡ a) = sound.numbers in
      let name : e.id ≡ id = sound.there.fits.0.name in
      let old_is : (w.nodes b).old id ≡ Some (Parked e) = shows.olds b ∙ rw (eq-eqb b b refl) refl in
      let fits : passive pick e a e.conn p k ≡ Some (passed pick e p k) = subst (λ (o : ℕ). passive pick e o e.conn p k ≡ Some (passed pick e p k)) numbers.2 l.0 in
      let empty : left ≡ [] = l.1.there.comes.0 in
      passes IsOver play pick w rest id low x y ps place a t b clock es e ds so sl ro left p k (claimed b u e) (claimed b u went) name numbers.2 (sym numbers.0) numbers.1 front n (own_old id (Some (Parked went)) (w.nodes b))
      (passed pick e p k).posts (resends pick (other_end id) e p k) (rw (old_is, eq-eqb e.conn e.conn refl, fits) refl)
      (λ Is ack carry fin. pass_mails P pick id e p k name Is ack carry) (pass_sent P pick id e p k name) l.1.numbers.1 empty refl refl
      (turned_shows (popped w a b rest) b now n id place (signalled a t es ds) (signalled a t es ds) (claimed b u e) (claimed b u went) ro ro left left
      (record { main = shows.mains b; old = rw (same_end id, eq-eqb b b refl) refl; mains = λ q i. refl; olds = λ q i. rw i refl })
      (λ q r c. nothing_live (is_lane q r a b && (c == e.conn)) (is_lane q r a b && (c == e.conn + 1)) left empty)
      (λ q r. refl) (λ q r. refl)
      (popped_live w (signalled a t es ds) (side_of id place (claimed b u e) ro (Signal id e.conn p k ∷ left)) f rest left front tt (goes_under f.body tt) refl refl shows))
      shown l.1 (refl, λ keeper. (λ i. i, λ i. i))

  -- at a Closed end, which sends its Fin again
  pub signal_at_closed : (e : EndAt P) → SignalAtClosed IsOver pick x y (other_end id) id ps place a t es ds so sl →
      w.lanes a b ≡ record { clock = clock; body = Signal id e.conn p k } ∷ rest →
      Shows w (signalled a t es ds) (side_of id place (closed b e) ro (Signal id e.conn p k ∷ left)) →
      Shows w (closed b e) (side_of (other_end id) ps (signalled a t es ds) so sl) →
      IsSound IsOver level x y (side_of (other_end id) ps (signalled a t es ds) so sl) (side_of id place (closed b e) ro (Signal id e.conn p k ∷ left)) →
      Delivered IsOver play pick w a b id x y (signalled a t es ds) (closed b e)
  signal_at_closed e law front shows shown sound =
      let went : EndAt P = trimmed_end pick (end_with_peer e p) k in
      let n : NodeAt P Q = with_main id (Some (Closed went)) (w.nodes b) in
      let f : FrameAt P = record { clock = clock; body = Signal id e.conn p k } in
      let more : List (BodyAt P) = resends pick (other_end id) e p k ++ Fin (other_end id) (e.conn + 1) e.sent ∷ [] in
      let last : List (Mail P) = record { party = p; body = Fin (other_end e.id) (e.conn + 1) e.sent } ∷ [] in
      let l : (passive_closed pick e e.peer e.conn p k ≡ Some (with_last last (passed pick e p k)))
      × IsSound IsOver (behind by_ack) x y (acked_side (other_end id) ps a t es ds so sl more) (side_of id place (closed b went) ro left) =
      law b e ro left id e.conn p k sound in
      let numbers : (es.conn ≡ e.conn) × (es.peer ≡ b) × (e.peer ≡ a) = sound.numbers in
      let name : e.id ≡ id = sound.there.fits.0.name in
      let main : (w.nodes b).main id ≡ Some (Closed e) = shows.mains b ∙ rw (eq-eqb b b refl) refl in
      let none : (w.nodes b).old id ≡ None = shows.olds b in
      let fits : passive_closed pick e a e.conn p k ≡ Some (with_last last (passed pick e p k)) = subst (λ (o : ℕ). passive_closed pick e o e.conn p k ≡ Some (with_last last (passed pick e p k))) numbers.2 l.0 in
      let empty : left ≡ [] = l.1.there.comes.0 in
      passes IsOver play pick w rest id low x y ps place a t b clock es e ds so sl ro left p k (closed b e) (closed b went) name numbers.2 (sym numbers.0) numbers.1 front n (own_main id (Some (Closed went)) (w.nodes b))
      ((passed pick e p k).posts ++ last) more (rw (none, main, fits) refl)
      (λ Is ack carry fin. mails_append Is (passed pick e p k).posts last (pass_mails P pick id e p k name Is ack carry) (subst (λ i. Is (Fin (other_end i) (e.conn + 1) e.sent)) (sym name) fin, tt))
      (λ to c. sent_append (goes_to (other_end id) c) to (passed pick e p k).posts last ∙ fin_sent to c (filter (goes_to (other_end id) c) (sent_to to (passed pick e p k).posts)) (pass_sent P pick id e p k name to c)) l.1.numbers.1 empty refl refl
      (turned_shows (popped w a b rest) b now n id place (signalled a t es ds) (signalled a t es ds) (closed b e) (closed b went) ro ro left left
      (record { main = rw (same_end id, eq-eqb b b refl) refl; old = none; mains = λ q i. rw i refl; olds = λ q i. refl })
      (λ q r c. nothing_live (is_lane q r a b && (c == e.conn)) (is_lane q r a b && (c == e.conn + 1)) left empty)
      (λ q r. refl) (λ q r. refl)
      (popped_live w (signalled a t es ds) (side_of id place (closed b e) ro (Signal id e.conn p k ∷ left)) f rest left front tt (goes_under f.body tt) refl refl shows))
      shown l.1 (refl, λ keeper. (λ i. i, λ i. i))
    where
      join : (m n : Bool) (u v z : List (BodyAt P)) → ((if m then u else []) ++ (if n then v else [])) ++ ((if n then z else []) ++ []) ≡ (if m then u else []) ++ (if n then v ++ z else [])
      join m true u v z = rw (append-nil z) (append_assoc (if m then u else []) v z)
      join true false u v z = append-nil (u ++ [])
      join false false u v z = refl

      fin_sent : (to c : ℕ) (sent : List (BodyAt P)) → sent ≡ (if (to == e.peer) && (c == e.conn) then Ack (other_end id) e.conn ∷ [] else []) ++ (if (to == p) && (c == e.conn + 1) then resends pick (other_end id) e p k else []) →
          sent ++ filter (goes_to (other_end id) c) (sent_to to (record { party = p; body = Fin (other_end e.id) (e.conn + 1) e.sent } ∷ []))
          ≡ (if (to == e.peer) && (c == e.conn) then Ack (other_end id) e.conn ∷ [] else []) ++ (if (to == p) && (c == e.conn + 1) then resends pick (other_end id) e p k ++ Fin (other_end id) (e.conn + 1) e.sent ∷ [] else [])
      fin_sent to c sent i =
          let named : is_same_end (other_end e.id) (other_end id) ≡ true = rw sound.there.fits.0.name (same_end (other_end id)) in
          let one : filter (goes_to (other_end id) c) (sent_to to (record { party = p; body = Fin (other_end e.id) (e.conn + 1) e.sent } ∷ []))
          ≡ (if (to == p) && (c == e.conn + 1) then Fin (other_end e.id) (e.conn + 1) e.sent ∷ [] else []) ++ [] =
          sent_cons {P = P} (goes_to (other_end id) c) to (record { party = p; body = Fin (other_end e.id) (e.conn + 1) e.sent }) [] ∙ rw named refl in
          rw (i, one) (subst (λ j. ((if (to == e.peer) && (c == e.conn) then Ack (other_end id) e.conn ∷ [] else []) ++ (if (to == p) && (c == e.conn + 1) then resends pick (other_end id) e p k else []))
          ++ ((if (to == p) && (c == e.conn + 1) then Fin (other_end j) (e.conn + 1) e.sent ∷ [] else []) ++ [])
          ≡ (if (to == e.peer) && (c == e.conn) then Ack (other_end id) e.conn ∷ [] else []) ++ (if (to == p) && (c == e.conn + 1) then resends pick (other_end id) e p k ++ Fin (other_end id) (e.conn + 1) e.sent ∷ [] else []))
          (sym sound.there.fits.0.name)
          (join ((to == e.peer) && (c == e.conn)) ((to == p) && (c == e.conn + 1)) (Ack (other_end id) e.conn ∷ []) (resends pick (other_end id) e p k) (Fin (other_end id) (e.conn + 1) e.sent ∷ [])))
