-- What a step needs, and that there is one world after it.
use Rattle.std.proofs.Common.{◌≡◌, ℕ, ◌+◌, List, [], ◌∷◌, refl, subst}
use Rattle.std.specs.Prelude.{⊤, Bool, true, false, if◌then◌else◌, nat_lt, Option, Some, None, option_map}
use Rattle.sj_base.specs.declared.EndId.{EndId}
use Rattle.sj_base.specs.declared.Msg.{Msg}
use Rattle.sj_base.specs.declared.Msg.TheVariants as msgs
use Rattle.sj_rules.specs.Record.{MainAt, Held, Closed, Expected, HeldAt, Parked, is_same_end}
use Rattle.sj_rules.specs.Rows.{Worked}
use Rattle.sj_rules.specs.Node.{Play, NodeAt, Want, ended, local, sends, delegates, takes, closes, requests, accepts, act_by, send_act, take_act, close_act, delegate_act, take_from, with_main, with_old}
use Rattle.sj_rules.specs.World.{WorldAt, Event, Act, happens, after_event}
use Rattle.sj_rules.specs.PlainSide.{PlainAt}
use Rattle.sj_rules.specs.Linked.{IsKept}

-- the step opens and accepts no session
abbrev pub OpensNothing : {P : Type 0} → Want P → Type 0
OpensNothing ended = ⊤
OpensNothing local = ⊤
OpensNothing (sends c msg) = ⊤
OpensNothing (delegates c d) = ⊤
OpensNothing (takes c place) = ⊤
OpensNothing (closes c) = ⊤
OpensNothing (requests place to) = ⊥
OpensNothing (accepts place from) = ⊥

-- the records that an act needs
abbrev pub Needs : {P Q : Type 0} → NodeAt P Q → Want P → Type 0
Needs n ended = ⊥
Needs n local = ⊤
Needs {P} n (sends c msg) = (h : HeldAt P) × (n.main c ≡ Some (Held h))
Needs {P} n (takes c place) = (h : HeldAt P) × (m : Msg) × (rest : List Msg) × (n.main c ≡ Some (Held h)) × (h.untaken ≡ m ∷ rest)
Needs {P} n (closes c) = (h : HeldAt P) × (n.main c ≡ Some (Held h))
Needs n (requests place to) = ⊤
Needs n (accepts place from) = ⊤
Needs {P} n (delegates c d) = (h : HeldAt P) × (g : HeldAt P) × (n.main c ≡ Some (Held h)) × (n.main d ≡ Some (Held g)) × (is_same_end c d ≡ false)

module _ {P Q : Type 0} (play : Play P Q) (p : ℕ) (n : NodeAt P Q) where
  -- a send
  send_needs : (c : EndId) (msg : Msg) (done : Worked P (NodeAt P Q)) (m : Option (MainAt P)) → n.main c ≡ m → send_act play n c msg m ≡ Some done → (h : HeldAt P) × (n.main c ≡ Some (Held h))
  send_needs c msg done None e a = absurd (cc a)
  send_needs c msg done (Some (Held h)) e a = (h, e)
  send_needs c msg done (Some (Closed g)) e a = absurd (cc a)
  send_needs c msg done (Some (Expected k place ds)) e a = absurd (cc a)

  -- a take
  take_needs : (c : EndId) (place : P) (done : Worked P (NodeAt P Q)) (m : Option (MainAt P)) → n.main c ≡ m → take_act play n c place m ≡ Some done →
      (h : HeldAt P) × (m : Msg) × (rest : List Msg) × (n.main c ≡ Some (Held h)) × (h.untaken ≡ m ∷ rest)
  take_needs c place done None e a = absurd (cc a)
  take_needs c place done (Some (Held h)) e a = by h.untaken refl a
    where
      by : (l : List Msg) → h.untaken ≡ l → take_from play n c place h l ≡ Some done → (h : HeldAt P) × (m : Msg) × (rest : List Msg) × (n.main c ≡ Some (Held h)) × (h.untaken ≡ m ∷ rest)
      by [] i b = absurd (cc b)
      by (m ∷ rest) i b = (h, m, rest, e, i)
  take_needs c place done (Some (Closed g)) e a = absurd (cc a)
  take_needs c place done (Some (Expected k q ds)) e a = absurd (cc a)

  -- a close
  close_needs : (c : EndId) (done : Worked P (NodeAt P Q)) (m : Option (MainAt P)) → n.main c ≡ m → close_act play n c m ≡ Some done → (h : HeldAt P) × (n.main c ≡ Some (Held h))
  close_needs c done None e a = absurd (cc a)
  close_needs c done (Some (Held h)) e a = (h, e)
  close_needs c done (Some (Closed g)) e a = absurd (cc a)
  close_needs c done (Some (Expected k place ds)) e a = absurd (cc a)

  -- a delegation
  delegate_needs : (c d : EndId) (done : Worked P (NodeAt P Q)) (m : Option (MainAt P)) → n.main d ≡ m → delegate_act play p n c d m ≡ Some done →
      (h : HeldAt P) × (g : HeldAt P) × (n.main c ≡ Some (Held h)) × (n.main d ≡ Some (Held g)) × (is_same_end c d ≡ false)
  delegate_needs c d done None e a = absurd (cc a)
  delegate_needs c d done (Some (Held g)) e a = by (nat_lt g.end.hops 100) (is_same_end c d) refl (n.main c) refl a
    where
      node : NodeAt P Q
      node = with_main d None (with_old d (Some (Parked (record g.end { hops = g.end.hops + 1 }))) n)

      by : (k l : Bool) → is_same_end c d ≡ l → (m : Option (MainAt P)) → n.main c ≡ m →
          (if k then send_act play (with_main d None (with_old d (Some (Parked (record g.end { hops = g.end.hops + 1 }))) n)) c (msgs.Sess d.sess d.side p) (if l then None else m) else None) ≡ Some done →
          (h : HeldAt P) × (g : HeldAt P) × (n.main c ≡ Some (Held h)) × (n.main d ≡ Some (Held g)) × (is_same_end c d ≡ false)
      by true true i m j b = absurd (cc b)
      by true false i None j b = absurd (cc b)
      by true false i (Some (Held h)) j b = (h, g, j, e, i)
      by true false i (Some (Closed z)) j b = absurd (cc b)
      by true false i (Some (Expected k place ds)) j b = absurd (cc b)
      by false l i m j b = absurd (cc b)
  delegate_needs c d done (Some (Closed g)) e a = absurd (cc a)
  delegate_needs c d done (Some (Expected k place ds)) e a = absurd (cc a)

  -- each act
  act_needs : (want : Want P) (done : Worked P (NodeAt P Q)) → act_by play p n want ≡ Some done → Needs n want
  act_needs ended done a = absurd (cc a)
  act_needs local done a = tt
  act_needs (sends c msg) done a = send_needs c msg done (n.main c) refl a
  act_needs (delegates c d) done a = delegate_needs c d done (n.main d) refl a
  act_needs (takes c place) done a = take_needs c place done (n.main c) refl a
  act_needs (closes c) done a = close_needs c done (n.main c) refl a
  act_needs (requests place to) done a = tt
  act_needs (accepts place from) done a = tt

-- an act that happens had all that it needs
pub needs_met : {P Q : Type 0} → (play : Play P Q) (pick : ℕ → ℕ → ℕ) (w v : WorldAt P Q) (p : ℕ) → happens play pick w p Act ≡ Some v →
    (play.is_worn (w.nodes p).program ≡ false) × Needs (w.nodes p) (play.wants (w.nodes p).program)
needs_met {P} {Q} play pick w v p e = by (play.is_worn (w.nodes p).program) refl (act_by play p (w.nodes p) (play.wants (w.nodes p).program)) refl e
  where
    by : (k : Bool) → play.is_worn (w.nodes p).program ≡ k → (o : Option (Worked P (NodeAt P Q))) → act_by play p (w.nodes p) (play.wants (w.nodes p).program) ≡ o →
        option_map (after_event w p ((w.nodes p).clock + 1) w.lanes) (if k then None else o) ≡ Some v → (play.is_worn (w.nodes p).program ≡ false) × Needs (w.nodes p) (play.wants (w.nodes p).program)
    by true i o j a = absurd (cc a)
    by false i None j a = absurd (cc a)
    by false i (Some done) j a = (i, act_needs play p (w.nodes p) (play.wants (w.nodes p).program) done j)

-- there is one world after an event, with a choice of bases
pub one_after : {P Q : Type 0} → (IsOver : P → Type 0) (binds : Q → EndId → Bool) (play : Play P Q) (pick : ℕ → ℕ → ℕ) (w v : WorldAt P Q) (plain : PlainAt P Q) (p : ℕ) (event : Event) → happens play pick w p event ≡ Some v →
    (u : WorldAt P Q) × (happens play pick w p event ≡ Some u) × IsKept IsOver binds u plain → IsKept IsOver binds v plain
one_after IsOver binds play pick w v plain p event e k = let i : k.0 ≡ v = cc (k.1, e) in subst (λ z. IsKept IsOver binds z plain) i k.2
