-- The world read as if each Open had been delivered already: the Opens are out of their lanes, and
-- each end in one is Held where it goes.
use Rattle.std.specs.Prelude.{◌≡◌, ℕ, ◌≤◌, ◌<◌, Bool, true, false, not, if◌then◌else◌, ⊤, List, [], ◌∷◌, ◌++◌, filter, Contains, Some, None}
use Rattle.sj_base.specs.declared.EndId.{EndId}
use Rattle.sj_rules.specs.Limits.{limit_of_requests}
use Rattle.sj_rules.specs.Record.{BodyAt, HeldAt, Held, offered_end}
use Rattle.sj_rules.specs.Opened.{opened_number, opener_of, is_opened_by, new_held, is_open, opened_in, opens}
use Rattle.sj_rules.specs.Frames.{FrameAt}
use Rattle.sj_rules.specs.Node.{NodeAt}
use Rattle.sj_rules.specs.World.{WorldAt}
use Rattle.sj_rules.specs.Shown.{bodies}
use Rattle.sj_rules.specs.PlainSide.{PlainAt}
use Rattle.sj_rules.specs.Linked.{IsKept, subject_of}

-- the end is in an Open on its way to p
abbrev pub is_opening : {P Q : Type 0} → WorldAt P Q → (p : ℕ) → EndId → Bool
is_opening w p e = opens e (bodies (w.lanes (opener_of e.sess) p))

-- a lane without its Opens
abbrev pub without_opens : {P : Type 0} → List (FrameAt P) → List (FrameAt P)
without_opens frames = filter (λ f. not (is_open f.body)) frames

-- a party once its Opens have come: each made a Held record, which is offered
abbrev pub node_read : {P Q : Type 0} → (blank : P) → WorldAt P Q → ℕ → NodeAt P Q
node_read blank w p = record (w.nodes p) {
  main = λ e. if is_opening w p e then Some (Held (new_held e blank (opener_of e.sess))) else (w.nodes p).main e;
  offers = λ from. (w.nodes p).offers from ++ opened_in (bodies (w.lanes from p));
}

-- the world, read so
abbrev pub reading : {P Q : Type 0} → (blank : P) → WorldAt P Q → WorldAt P Q
reading blank w = record { nodes = node_read blank w; lanes = λ from to. without_opens (w.lanes from to) }

-- while an Open is in the lane, no frame about its end stands before it
abbrev pub OpensLead : {P : Type 0} → List (BodyAt P) → Type 0
OpensLead [] = ⊤
OpensLead (b ∷ bs) = (opens (subject_of b) bs ≡ false) × OpensLead bs

-- the numbers rise
abbrev pub AreRising : List ℕ → Type 0
AreRising [] = ⊤
AreRising (n ∷ ns) = ((m : ℕ) → Contains ns m → n < m) × AreRising ns

-- no session of that number was opened yet
abbrev pub IsUnopened : {P Q : Type 0} → PlainAt P Q → (sess : ℕ) → Type 0
IsUnopened plain s = (p : ℕ) × (k : ℕ) × (plain.requests p ≤ k) × (k < limit_of_requests) × (s ≡ opened_number p k)

-- the invariant of a world with Opens: it is that of the world read so, and the Opens lead to it
pub record IsOpenKept {P Q : Type 0} (IsOver : P → Type 0) (binds : Q → EndId → Bool) (blank : P) (w : WorldAt P Q) (plain : PlainAt P Q) : Type 0 where
  pub kept : IsKept IsOver binds (reading blank w) plain
  pub requests : (p : ℕ) → (w.nodes p).requests ≡ plain.requests p
  -- what is offered, and then what is in Opens, is what was opened and not accepted
  pub offers : (from p : ℕ) → (w.nodes p).offers from ++ opened_in (bodies (w.lanes from p)) ≡ plain.offers from p
  -- those numbers rise, and are the opener's
  pub rising : (from p : ℕ) → AreRising (plain.offers from p)
  pub openers : (from p s : ℕ) → Contains (plain.offers from p) s → is_opened_by from s ≡ true
  -- which has opened no others
  pub below : (from p s : ℕ) → Contains (plain.offers from p) s → s < opened_number from (plain.requests from)
  -- the offered ends are those
  pub offered : (from p s : ℕ) → Contains (plain.offers from p) s → (plain.sides (offered_end s)).offered ≡ true
  -- each is Held where it is offered, and bound nowhere
  pub held : (from p s : ℕ) → Contains (plain.offers from p) s → (h : HeldAt P) × (((reading blank w).nodes p).main (offered_end s) ≡ Some (Held h))
  pub unbound : (p : ℕ) (e : EndId) → e.side < 2 → (plain.sides e).offered ≡ true → binds (plain.programs p) e ≡ false
  -- a frame about an end in an Open stands after it
  pub lead : (from to : ℕ) → OpensLead (bodies (w.lanes from to))
  -- and the party to which it goes has no record of the end
  pub bare : (p : ℕ) (e : EndId) → is_opening w p e ≡ true → (w.nodes p).main e ≡ None
  -- no party has a record of an end of a session that wasn't opened
  pub unopened : (s : ℕ) → IsUnopened plain s → (p : ℕ) (e : EndId) → e.sess ≡ s → e.side < 2 →
      (((reading blank w).nodes p).main e ≡ None) × ((w.nodes p).old e ≡ None)
