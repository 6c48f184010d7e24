-- An end is parked, and then claimed.
use Rattle.std.proofs.Common.{◌≡◌, ℕ, ◌+◌, List, [], ◌∷◌, ◌++◌, length, refl, sym, ◌∙◌, inl, inr, append-nil}
use Rattle.std.specs.Prelude.{Bool, true, false, Some, None, ◌⊎◌}
use Rattle.sj_base.specs.declared.EndId.{EndId}
use Rattle.sj_base.specs.declared.Msg.{Msg}
use Rattle.sj_rules.specs.Record.{EndAt, BodyAt, Fin, Signal, HeldAt}
use Rattle.sj_rules.specs.Seat.{Seat, held, parked, claimed, signalled, given, closed, gone}
use Rattle.sj_rules.specs.PlainSide.{PlainSide, untaken_of}
use Rattle.sj_rules.specs.Numbers.{level, NumbersFit}
use Rattle.sj_rules.specs.Streams.{AreCarries, AreDropped, ComesWhole, ComesToHeld, ComesLoose}
use Rattle.sj_rules.specs.Coming.{Comes}
use Rattle.sj_world_lemmas.proofs.InstallLemmas.{dropped_more}

-- Carries that would have come may be dropped
carries_dropped : {P : Type 0} → (to : EndId) (conn number low high : ℕ) (over : Bool) (msgs : List Msg) (bs : List (BodyAt P)) →
    AreCarries to conn number low high msgs bs → AreDropped to conn over bs
carries_dropped to conn number low high over [] [] a = tt
carries_dropped to conn number low high over [] (b ∷ bs) a = absurd a
carries_dropped to conn number low high over (m ∷ ms) [] a = absurd a
carries_dropped to conn number low high over (m ∷ ms) (b ∷ bs) a = rw a.2 (refl, refl, carries_dropped to conn (number + 1) a.0 high over ms bs a.3)

-- what comes to a Held end may be dropped, up to the mark
whole_dropped : {P : Type 0} → (to : EndId) (conn number low high : ℕ) (over : Bool) (mark : List (BodyAt P)) (msgs : List Msg) (live : List (BodyAt P)) →
    ComesWhole to conn number low high mark msgs live → ComesLoose to conn over mark live
whole_dropped to conn number low high over mark msgs live w =
    record { dropped = w.carries; split = w.split; are = carries_dropped to conn number low high over msgs w.carries w.are }

-- a Fin may be dropped where s is over
fin_dropped : {P : Type 0} → (to : EndId) (conn sent : ℕ) (live : List (BodyAt P)) →
    ComesLoose to conn false (Fin to conn sent ∷ []) live → ComesLoose to conn true [] live
fin_dropped to conn sent live l =
    record {
      dropped = l.dropped ++ Fin to conn sent ∷ [];
      split = l.split ∙ sym (append-nil (l.dropped ++ Fin to conn sent ∷ []));
      are = dropped_more to conn true l.dropped (Fin to conn sent ∷ []) l.are (refl, refl, refl, refl);
    }

module _ {P : Type 0} (to : EndId) (h : HeldAt P) (waiting : List Msg) (taken high : ℕ) (live : List (BodyAt P)) where
  -- s isn't over
  unfinished_loose : (mark : List (BodyAt P)) → ComesToHeld to h waiting taken high false mark live → ComesLoose to h.end.conn false mark live
  unfinished_loose mark c = by c.comes
    where
      by : (h.fin ≡ false) × ComesWhole to h.end.conn (taken + length h.untaken) h.end.base high mark c.rest live
          ⊎ (h.fin ≡ true) × (false ≡ true) × (live ≡ []) × (c.rest ≡ []) → ComesLoose to h.end.conn false mark live
      by (inl w) = whole_dropped to h.end.conn (taken + length h.untaken) h.end.base high false mark c.rest live w.1
      by (inr w) = absurd (cc w.1)

  -- s is over
  finished_loose : (sent : ℕ) → ComesToHeld to h waiting taken high true (Fin to h.end.conn sent ∷ []) live → ComesLoose to h.end.conn true [] live
  finished_loose sent c = by c.comes
    where
      by : (h.fin ≡ false) × ComesWhole to h.end.conn (taken + length h.untaken) h.end.base high (Fin to h.end.conn sent ∷ []) c.rest live
          ⊎ (h.fin ≡ true) × (true ≡ true) × (live ≡ []) × (c.rest ≡ []) → ComesLoose to h.end.conn true [] live
      by (inl w) = fin_dropped to h.end.conn sent live
          (whole_dropped to h.end.conn (taken + length h.untaken) h.end.base high false (Fin to h.end.conn sent ∷ []) c.rest live w.1)
      by (inr w) = record { dropped = []; split = w.2; are = tt }

module _ {P : Type 0} (x y z : PlainSide P) (sid rid : EndId) (b : ℕ) (h : HeldAt P) (e : EndAt P) (conn_is : e.conn ≡ h.end.conn) (peer_is : e.peer ≡ h.end.peer) where
  pub parked_comes : (s : Seat P) (rl : List (BodyAt P)) → NumbersFit level s (held b h) →
      Comes level rid x y s (held b h) rl → Comes level rid x z s (parked b e) rl
  parked_comes (held a g) rl n c = rw conn_is (unfinished_loose rid h (untaken_of x y) y.taken x.taken rl [] c)
  parked_comes (parked a g) rl n c = rw conn_is (unfinished_loose rid h (untaken_of x y) y.taken x.taken rl [] c)
  parked_comes (claimed a t g) rl n c = rw conn_is (unfinished_loose rid h (untaken_of x y) y.taken x.taken rl [] c)
  parked_comes (signalled a t g ds) rl n c =
      rw conn_is (unfinished_loose rid h (untaken_of x y) y.taken x.taken rl (Signal rid h.end.conn t x.taken ∷ []) c)
  parked_comes (given a t g None ds) rl n c = (tt, rw conn_is (unfinished_loose rid h (untaken_of x y) y.taken x.taken rl [] c.1))
  parked_comes (given a t g (Some k) ds) rl n c = (c.0, tt)
  parked_comes (closed a g) rl n c = rw conn_is (finished_loose rid h (untaken_of x y) y.taken x.taken rl (length x.sent) c)
  parked_comes gone rl n c = absurd (cc n.1)
