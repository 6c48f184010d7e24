-- A frame more after what comes to an end; and at which paces an end stands that isn't Signalled.
use Rattle.std.proofs.Common.{◌≡◌, ℕ, ◌+◌, List, [], ◌∷◌, ◌++◌, length, refl, sym, ap, append_assoc, arith, ◌∙◌, inl, inr, append-nil}
use Rattle.std.specs.Prelude.{Bool, true, false, ⊤, ◌⊎◌}
use Rattle.sj_base.specs.declared.EndId.{EndId}
use Rattle.sj_base.specs.declared.Msg.{Msg}
use Rattle.sj_rules.specs.Record.{EndAt, BodyAt, Carry, Fin, HeldAt}
use Rattle.sj_rules.specs.Seat.{Seat, held, parked, claimed, signalled, given, closed, gone}
use Rattle.sj_world_lemmas.proofs.InstallLemmas.{dropped_more}
use Rattle.sj_rules.specs.Numbers.{Pace, Cause, level, ahead, behind, NumbersFit}
use Rattle.sj_rules.specs.Streams.{AreCarries, ComesWhole, ComesToHeld, ComesLoose}
use Rattle.std.proofs.lemmas.List.{length-append}

-- how r stands to an end that isn't Signalled and isn't gone: level, or lagging and Signalled
pub data Meets {P : Type 0} : Pace → Seat P → Type 0 where
  at_level : (r : Seat P) → Meets level r
  at_ahead : (c : Cause) (b u : ℕ) (e : EndAt P) (deferred : List (BodyAt P)) → Meets (ahead c) (signalled b u e deferred)

-- the same as a test
abbrev pub CanMeet : {P : Type 0} → Pace → Seat P → Type 0
CanMeet level r = ⊤
CanMeet (ahead c) (signalled b u e deferred) = ⊤
CanMeet (ahead c) (held b h) = ⊥
CanMeet (ahead c) (parked b e) = ⊥
CanMeet (ahead c) (claimed b u e) = ⊥
CanMeet (ahead c) (given b u e resend deferred) = ⊥
CanMeet (ahead c) (closed b e) = ⊥
CanMeet (ahead c) gone = ⊥
CanMeet (behind c) r = ⊥

-- the test says so
pub meets : {P : Type 0} → (pace : Pace) (r : Seat P) → CanMeet pace r → Meets pace r
meets level r m = at_level r
meets (ahead c) (signalled b u e deferred) m = at_ahead c b u e deferred
meets (ahead c) (held b h) m = absurd m
meets (ahead c) (parked b e) m = absurd m
meets (ahead c) (claimed b u e) m = absurd m
meets (ahead c) (given b u e resend deferred) m = absurd m
meets (ahead c) (closed b e) m = absurd m
meets (ahead c) gone m = absurd m
meets (behind c) r m = absurd m

-- the numbers say so
held_can : {P : Type 0} → (pace : Pace) (a : ℕ) (h : HeldAt P) (r : Seat P) → NumbersFit pace (held a h) r → CanMeet pace r
held_can pace a h r n = grind arith

-- of a claimed one
claimed_can : {P : Type 0} → (pace : Pace) (a t : ℕ) (e : EndAt P) (r : Seat P) → NumbersFit pace (claimed a t e) r → CanMeet pace r
claimed_can pace a t e r n = grind arith

-- how r stands to a Held end
pub held_meets : {P : Type 0} → (pace : Pace) (a : ℕ) (h : HeldAt P) (r : Seat P) → NumbersFit pace (held a h) r → Meets pace r
held_meets pace a h r n = meets pace r (held_can pace a h r n)

-- to a claimed one
pub claimed_meets : {P : Type 0} → (pace : Pace) (a t : ℕ) (e : EndAt P) (r : Seat P) → NumbersFit pace (claimed a t e) r → Meets pace r
claimed_meets pace a t e r n = meets pace r (claimed_can pace a t e r n)

-- one Carry more, which reports the whole count
pub carries_more : {P : Type 0} → (to : EndId) (conn number low high : ℕ) (msgs : List Msg) (bs : List (BodyAt P)) (m : Msg) (n : ℕ) →
    n ≡ number + length msgs → AreCarries to conn number low high msgs bs →
    AreCarries to conn number low high (msgs ++ m ∷ []) (bs ++ Carry to conn n high m ∷ [])
carries_more to conn number low high [] [] m n e a =
    let same : n ≡ number = omega arith in
    (high, a, rw same, omega arith)
carries_more to conn number low high (k ∷ ks) (b ∷ bs) m n e a =
    (a.0, a.1, a.2, carries_more to conn (number + 1) a.0 high ks bs m n (omega (arith, e)) a.3)
carries_more to conn number low high [] (b ∷ bs) m n e a = absurd a
carries_more to conn number low high (k ∷ ks) [] m n e a = absurd a

-- the same in a whole stream, whose first frames may be deferred
pub whole_more : {P : Type 0} → (to : EndId) (conn number low high : ℕ) (msgs : List Msg) (frames : List (BodyAt P)) (m : Msg) (c n t : ℕ) →
    c ≡ conn → n ≡ number + length msgs → t ≡ high → ComesWhole to conn number low high [] msgs frames →
    ComesWhole to conn number low high [] (msgs ++ m ∷ []) (frames ++ Carry to c n t m ∷ [])
whole_more to conn number low high msgs frames m c n t ce ne te w = record {
  carries = w.carries ++ Carry to conn n high m ∷ [];
  split = rw (ce, te) (ap (λ l. l ++ Carry to conn n high m ∷ []) (w.split ∙ append-nil w.carries)
      ∙ sym (append-nil (w.carries ++ Carry to conn n high m ∷ [])));
  are = carries_more to conn number low high msgs w.carries m n ne w.are;
}

-- the mark after a whole stream
pub whole_marked : {P : Type 0} → (to : EndId) (conn number low high : ℕ) (msgs : List Msg) (frames mark : List (BodyAt P)) →
    ComesWhole to conn number low high [] msgs frames → ComesWhole to conn number low high mark msgs (frames ++ mark)
whole_marked to conn number low high msgs frames mark w =
    record { carries = w.carries; split = ap (λ l. l ++ mark) (w.split ∙ append-nil w.carries); are = w.are }

-- frames that are dropped may be dropped where s is over
pub dropped_over : {P : Type 0} → (to : EndId) (conn : ℕ) (mark frames : List (BodyAt P)) → ComesLoose to conn false mark frames → ComesLoose to conn true mark frames
dropped_over to conn mark frames l =
    record { dropped = l.dropped; split = l.split; are = rw append-nil at (dropped_more to conn true l.dropped [] l.are tt) }

-- and a Fin after them
pub dropped_fin : {P : Type 0} → (to : EndId) (conn c sent : ℕ) (frames : List (BodyAt P)) → c ≡ conn → ComesLoose to conn false [] frames →
    ComesLoose to conn true [] (frames ++ Fin to c sent ∷ [])
dropped_fin to conn c sent frames same l = record {
  dropped = l.dropped ++ Fin to c sent ∷ [];
  split = ap (λ k. k ++ Fin to c sent ∷ []) (l.split ∙ append-nil l.dropped) ∙ sym (append-nil (l.dropped ++ Fin to c sent ∷ []));
  are = dropped_more to conn true l.dropped (Fin to c sent ∷ []) l.are (refl, same, refl, refl);
}

module _ {P : Type 0} (to : EndId) (g : HeldAt P) (waiting : List Msg) (taken high : ℕ) (live : List (BodyAt P)) where
  -- one Carry more to a Held end
  pub held_more : (m : Msg) (c n t : ℕ) → c ≡ g.end.conn → n ≡ taken + length waiting → t ≡ high →
      ComesToHeld to g waiting taken high false [] live →
      ComesToHeld to g (waiting ++ m ∷ []) taken high false [] (live ++ Carry to c n t m ∷ [])
  held_more m c n t ce ne te w = by w.comes
    where
      by : (g.fin ≡ false) × ComesWhole to g.end.conn (taken + length g.untaken) g.end.base high [] w.rest live
          ⊎ (g.fin ≡ true) × (false ≡ true) × (live ≡ []) × (w.rest ≡ []) →
          ComesToHeld to g (waiting ++ m ∷ []) taken high false [] (live ++ Carry to c n t m ∷ [])
      by (inl k) =
          let longer : length waiting ≡ length g.untaken + length w.rest = ap length w.all ∙ length-append g.untaken w.rest in
          record {
            rest = w.rest ++ m ∷ [];
            all = ap (λ l. l ++ m ∷ []) w.all ∙ append_assoc g.untaken w.rest (m ∷ []);
            comes = inl (k.0, whole_more to g.end.conn (taken + length g.untaken) g.end.base high w.rest live m c n t ce (omega (arith, ne, longer)) te k.1);
          }
      by (inr k) = absurd (cc k.1)

  -- the mark of s after all that comes
  pub held_marked : (over : Bool) (mark : List (BodyAt P)) →
      ComesToHeld to g waiting taken high false [] live → ComesToHeld to g waiting taken high over mark (live ++ mark)
  held_marked over mark w = by w.comes
    where
      by : (g.fin ≡ false) × ComesWhole to g.end.conn (taken + length g.untaken) g.end.base high [] w.rest live
          ⊎ (g.fin ≡ true) × (false ≡ true) × (live ≡ []) × (w.rest ≡ []) → ComesToHeld to g waiting taken high over mark (live ++ mark)
      by (inl k) = record {
        rest = w.rest;
        all = w.all;
        comes = inl (k.0, whole_marked to g.end.conn (taken + length g.untaken) g.end.base high w.rest live mark k.1);
      }
      by (inr k) = absurd (cc k.1)
