-- What was deferred is worked off at the installed end, as if it came from the lane.
use Rattle.std.proofs.Common.{◌≡◌, ℕ, ◌≤◌, List, [], ◌∷◌, ◌++◌, length, refl, sym, ap, subst, ◌∙◌, inl, inr, append-nil}
use Rattle.std.specs.Prelude.{true, Some, ◌⊎◌}
use Rattle.sj_base.specs.declared.EndId.{EndId}
use Rattle.sj_rules.specs.Record.{EndAt, BodyAt, Carry, Fin, Signal, Ack, HeldAt}
use Rattle.sj_rules.specs.Rows.{IsPick, at_held, passive, worked_record}
use Rattle.sj_rules.specs.Seat.{Seat, held, signalled, side_of}
use Rattle.sj_rules.specs.PlainSide.{PlainSide, CountsFit}
use Rattle.sj_rules.specs.Numbers.{level, behind, by_ack}
use Rattle.sj_rules.specs.Invariant.{IsSound}
use Rattle.sj_rules.specs.Worked.{mails_of}
use Rattle.sj_world_lemmas.proofs.CarryLemmas.{carried}
use Rattle.sj_world_lemmas.proofs.SignalLemmas.{passes_held}
use Rattle.sj_world_lemmas.proofs.PassiveLemmas.{passed_on, passed_again, passes_to}
use Rattle.sj_world_lemmas.proofs.HeldLemmas.{from_sender, carry_held, fin_held}
use Rattle.sj_world_lemmas.proofs.SourceLemmas.{IsSignalled, signal_from, comes_under}

-- lists that join to nothing
both_empty : {A : Type 0} → (xs ys : List A) → xs ++ ys ≡ [] → (xs ≡ []) × (ys ≡ [])
both_empty [] ys e = (refl, e)
both_empty (a ∷ xs) ys e = absurd (cc e)

-- the end after a Signal was worked off
abbrev pub held_on : {P : Type 0} → (ℕ → ℕ → ℕ) → HeldAt P → (party taken : ℕ) → HeldAt P
held_on pick h p k = record h { end = passed_on pick h.end p k }

module _ {P : Type 0} (IsOver : P → Type 0) (pick : ℕ → ℕ → ℕ) (x y : PlainSide P) (sid rid : EndId) (ps pr : P) (s : Seat P) (so sl : List (BodyAt P)) (u : ℕ) (ro rl : List (BodyAt P)) where
  -- nothing is sent, and the numbers stay equal
  pub record WorkedQuietly (h : HeldAt P) (dr : List (BodyAt P)) : Type 0 where
    pub end : HeldAt P
    pub row : worked_record pick h (mails_of h.end.peer dr) ≡ Some (record { state = end; posts = [] })
    pub sound : IsSound IsOver level x y (side_of sid ps s so sl) (side_of rid pr (held u end) ro rl)

  -- the last frame is the Signal of s
  pub record WorkedBySignal (h : HeldAt P) (dr : List (BodyAt P)) : Type 0 where
    pub at : ℕ
    pub to : ℕ
    pub from : EndAt P
    pub late : List (BodyAt P)
    pub seat_is : s ≡ signalled at to from late
    pub end : HeldAt P
    pub party : ℕ
    pub taken : ℕ
    pub peer_is : end.end.peer ≡ h.end.peer
    pub row : worked_record pick h (mails_of h.end.peer dr) ≡ Some (record { state = held_on pick end party taken; posts = (passes_to pick end.end party taken).posts })
    pub sound : IsSound IsOver (behind by_ack) x y
        (side_of sid ps (signalled at to from late) (so ++ Ack sid from.conn ∷ []) (sl ++ passed_again pick sid end.end party taken))
        (side_of rid pr (held u (held_on pick end party taken)) ro rl)

  -- one frame more before
  one_more : (h g : HeldAt P) (f : BodyAt P) (dr : List (BodyAt P)) → g.end.peer ≡ h.end.peer →
      at_held pick h h.end.peer f ≡ Some (record { state = g; posts = [] }) →
      WorkedQuietly g dr ⊎ WorkedBySignal g dr → WorkedQuietly h (f ∷ dr) ⊎ WorkedBySignal h (f ∷ dr)
  one_more h g f dr peer row (inl w) = inl (record { end = w.end; row = rw (row, ap (λ p. worked_record pick g (mails_of p dr)) (sym peer) ∙ w.row); sound = w.sound })
  one_more h g f dr peer row (inr w) = inr (record {
    at = w.at;
    to = w.to;
    from = w.from;
    late = w.late;
    seat_is = w.seat_is;
    end = w.end;
    party = w.party;
    taken = w.taken;
    peer_is = w.peer_is ∙ peer;
    row = rw (row, ap (λ p. worked_record pick g (mails_of p dr)) (sym peer) ∙ w.row);
    sound = w.sound;
  })

  -- the Signal is the last, and nothing is after it
  by_the_signal : (picks : IsPick pick) (counts : CountsFit x y) (h : HeldAt P) (d : EndId) (c p k : ℕ) (dr : List (BodyAt P)) → IsSignalled s →
      IsSound IsOver level x y (side_of sid ps s so sl) (side_of rid pr (held u h) ro (Signal d c p k ∷ (dr ++ rl))) → WorkedBySignal h (Signal d c p k ∷ dr)
  by_the_signal picks counts h d c p k dr from sound =
      let same : s ≡ signalled from.at from.to from.end from.late = from.is in
      let before : IsSound IsOver level x y (side_of sid ps (signalled from.at from.to from.end from.late) so sl) (side_of rid pr (held u h) ro (Signal d c p k ∷ (dr ++ rl))) =
      subst (λ (t : Seat P). IsSound IsOver level x y (side_of sid ps t so sl) (side_of rid pr (held u h) ro (Signal d c p k ∷ (dr ++ rl)))) same sound in
      let after : (passive pick h.end h.end.peer c p k ≡ Some (passes_to pick h.end p k))
      × IsSound IsOver (behind by_ack) x y
      (side_of sid ps (signalled from.at from.to from.end from.late) (so ++ Ack sid from.end.conn ∷ []) (sl ++ passed_again pick sid h.end p k))
      (side_of rid pr (held u (held_on pick h p k)) ro (dr ++ rl)) =
      passes_held IsOver pick picks x y counts sid rid ps pr from.at from.to u from.end h from.late so sl ro (dr ++ rl) d c p k before in
      let none : (dr ≡ []) × (rl ≡ []) = both_empty dr rl after.1.there.comes.0 in
      let left : dr ++ rl ≡ rl = ap (λ l. l ++ rl) none.0 in
      record {
        at = from.at;
        to = from.to;
        from = from.end;
        late = from.late;
        seat_is = same;
        end = h;
        party = p;
        taken = k;
        peer_is = refl;
        row = rw (none.0, after.0, append-nil);
        sound = subst (λ (l : List (BodyAt P)). IsSound IsOver (behind by_ack) x y
            (side_of sid ps (signalled from.at from.to from.end from.late) (so ++ Ack sid from.end.conn ∷ []) (sl ++ passed_again pick sid h.end p k))
            (side_of rid pr (held u (held_on pick h p k)) ro l)) left after.1;
      }

  -- each deferred frame is worked off by its row
  pub work : (picks : IsPick pick) (counts : CountsFit x y) (fewer : y.taken ≤ length x.sent) (dr : List (BodyAt P)) (h : HeldAt P) →
      IsSound IsOver level x y (side_of sid ps s so sl) (side_of rid pr (held u h) ro (dr ++ rl)) → WorkedQuietly h dr ⊎ WorkedBySignal h dr
  work picks counts fewer [] h sound = inl (record { end = h; row = refl; sound = sound })
  work picks counts fewer (Carry d c n t m ∷ dr) h sound =
      let k : (at_held pick h h.end.peer (Carry d c n t m) ≡ Some (record { state = carried pick h t m; posts = [] }))
      × IsSound IsOver level x y (side_of sid ps s so sl) (side_of rid pr (held u (carried pick h t m)) ro (dr ++ rl)) =
      carry_held IsOver pick picks x y sid rid ps pr s so sl u h d level ro (dr ++ rl) c n t m counts.fewer sound in
      one_more h (carried pick h t m) (Carry d c n t m) dr refl k.0 (work picks counts fewer dr (carried pick h t m) k.1)
  work picks counts fewer (Fin d c n ∷ dr) h sound =
      let k : (at_held pick h h.end.peer (Fin d c n) ≡ Some (record { state = record h { fin = true }; posts = [] }))
      × IsSound IsOver level x y (side_of sid ps s so sl) (side_of rid pr (held u (record h { fin = true })) ro (dr ++ rl)) =
      fin_held IsOver pick picks x y sid rid ps pr s so sl u h d level ro (dr ++ rl) c n fewer sound in
      one_more h (record h { fin = true }) (Fin d c n) dr refl k.0 (work picks counts fewer dr (record h { fin = true }) k.1)
  work picks counts fewer (Signal d c p k ∷ dr) h sound =
      inr (by_the_signal picks counts h d c p k dr
      (signal_from rid x y s h d c p k (dr ++ rl) (from_sender rid x y u h s (Signal d c p k) (dr ++ rl) sound.numbers sound.there.comes)) sound)
  work picks counts fewer (f ∷ dr) h sound =
      absurd (comes_under rid x y s h f (dr ++ rl) (from_sender rid x y u h s f (dr ++ rl) sound.numbers sound.there.comes))
