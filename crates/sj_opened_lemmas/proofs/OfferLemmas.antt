-- An Open is in a lane of its opener alone, and once there; what is offered is in no Open, and
-- Held.
use Rattle.std.proofs.Common.{◌≡◌, ℕ, suc, ◌<◌, ◌≤◌, List, [], ◌∷◌, ◌++◌, length, refl, sym, ap, subst, ◌∙◌, arith, inl, inr}
use Rattle.std.specs.Prelude.{Bool, true, false, ◌||◌, Contains, Some}
use Rattle.std.specs.List.{filter}
use Rattle.std.proofs.lemmas.List.Elements.{Contains-append_left, Contains-append_right}
use Rattle.sj_base.specs.declared.EndId.{EndId}
use Rattle.sj_rules.specs.Record.{BodyAt, Carry, Fin, Claim, Signal, Ack, Give, Open, HeldAt, Held, is_same_end, offered_end}
use Rattle.sj_rules.specs.Opened.{opener_of, is_open_of, opened_in, opens}
use Rattle.sj_rules.specs.World.{WorldAt}
use Rattle.sj_rules.specs.Shown.{bodies}
use Rattle.sj_rules.specs.PlainSide.{PlainAt}
use Rattle.sj_rules.specs.Linked.{subject_of}
use Rattle.sj_rules.specs.Reading.{is_opening, reading, OpensLead, AreRising, IsOpenKept}
use Rattle.sj_world_lemmas.proofs.ToldLemmas.{Has, contains_has, has_contains, has_filter, has_kept, has_passed}
use Rattle.sj_opened_lemmas.proofs.NodeReadLemmas.{same_is}
use Rattle.sj_opened_lemmas.proofs.OpenKeepLemmas.{contains_first, opener_is}

-- what is in the rest is in the list
pub contains_later : (n : ℕ) (ns : List ℕ) (m : ℕ) → Contains ns m → Contains (n ∷ ns) m
contains_later n ns m c = (suc c.0, omega (arith, c.1), c.2)

-- an Open of an end opens its session
pub opened_contains : {P : Type 0} → (s : ℕ) (bs : List (BodyAt P)) → opens (offered_end s) bs ≡ true → Contains (opened_in bs) s
opened_contains s [] i = absurd (cc i)
opened_contains s (Open t ∷ bs) i = by (is_same_end (offered_end s) (offered_end t)) refl i (λ j. opened_contains s bs j)
  where
    by : (b : Bool) → is_same_end (offered_end s) (offered_end t) ≡ b → (b || opens (offered_end s) bs) ≡ true → (opens (offered_end s) bs ≡ true → Contains (opened_in bs) s) → Contains (t ∷ opened_in bs) s
    by true o j later = let same : s ≡ t = ap (λ e. e.sess) (same_is (offered_end s) (offered_end t) o) in subst (λ n. Contains (n ∷ opened_in bs) s) same (contains_first s (opened_in bs))
    by false o j later = contains_later t (opened_in bs) s (later j)
opened_contains s (Carry to conn number taken msg ∷ bs) i = opened_contains s bs i
opened_contains s (Fin to conn number ∷ bs) i = opened_contains s bs i
opened_contains s (Claim of ∷ bs) i = opened_contains s bs i
opened_contains s (Signal to conn party taken ∷ bs) i = opened_contains s bs i
opened_contains s (Ack of conn ∷ bs) i = opened_contains s bs i
opened_contains s (Give e resend ∷ bs) i = opened_contains s bs i

-- an end in an Open is of side 1
pub open_far : {P : Type 0} → (e : EndId) (bs : List (BodyAt P)) → opens e bs ≡ true → e.side ≡ 1
open_far e [] j = absurd (cc j)
open_far {P} e (b ∷ bs) j = by (is_open_of e b) b refl j (λ z. open_far e bs z)
  where
    by : (k : Bool) → (b : BodyAt P) → is_open_of e b ≡ k → (is_open_of e b || opens e bs) ≡ true → (opens e bs ≡ true → e.side ≡ 1) → e.side ≡ 1
    by true (Open t) i z later = ap (λ d. d.side) (same_is e (offered_end t) i)
    by true (Carry x conn number taken msg) i z later = absurd (cc i)
    by true (Fin x conn number) i z later = absurd (cc i)
    by true (Claim x) i z later = absurd (cc i)
    by true (Signal x conn party taken) i z later = absurd (cc i)
    by true (Ack x conn) i z later = absurd (cc i)
    by true (Give x resend) i z later = absurd (cc i)
    by false b i z later = later (sym (ap (λ u. u || opens e bs) i) ∙ z)

-- so it is the offered end of its session
pub open_names : {P : Type 0} → (e : EndId) (bs : List (BodyAt P)) → opens e bs ≡ true → e ≡ offered_end e.sess
open_names e bs o = let far : e.side ≡ 1 = open_far e bs o in λ z. record { sess = e.sess; side = far z }

-- an end of which there is no Open
pub none_open : {P : Type 0} → (e : EndId) (bs : List (BodyAt P)) → opens e bs ≡ false → filter (is_open_of e) bs ≡ []
none_open e [] o = refl
none_open {P} e (b ∷ bs) o = by (is_open_of e b) refl o (none_open e bs)
  where
    by : (k : Bool) → is_open_of e b ≡ k → (k || opens e bs) ≡ false → (opens e bs ≡ false → filter (is_open_of e) bs ≡ []) → filter (is_open_of e) (b ∷ bs) ≡ []
    by true i o rest = absurd (cc o)
    by false i o rest = rw i (rest o)

-- an Open of an end is among these
pub open_there : {P : Type 0} → (e : EndId) (bs : List (BodyAt P)) (b : BodyAt P) → Contains bs b → is_open_of e b ≡ true → opens e bs ≡ true
open_there {P} e bs b there is = by (opens e bs) refl
  where
    by : (k : Bool) → opens e bs ≡ k → opens e bs ≡ true
    by true o = o
    by false o = absurd (subst (Has b) (none_open e bs o) (has_kept (is_open_of e) b bs (contains_has b bs there) is))

-- where Opens lead, an end has one Open at most
open_once : {P : Type 0} → (e : EndId) (bs : List (BodyAt P)) → OpensLead bs → opens e bs ≡ true → filter (is_open_of e) bs ≡ Open e.sess ∷ []
open_once e [] lead o = absurd (cc o)
open_once {P} e (b ∷ bs) lead o = by (is_open_of e b) refl (λ z. open_once e bs lead.1 z)
  where
    last : (b : BodyAt P) → is_open_of e b ≡ true → opens (subject_of b) bs ≡ false → b ∷ filter (is_open_of e) bs ≡ Open e.sess ∷ []
    last (Open t) i lone =
        let same : e ≡ offered_end t = same_is e (offered_end t) i in
        let none : filter (is_open_of e) bs ≡ [] = none_open e bs (ap (λ d. opens d bs) same ∙ lone) in
        subst (λ (d : EndId). Open t ∷ filter (is_open_of e) bs ≡ Open d.sess ∷ []) (sym same) (ap (λ l. Open t ∷ l) none)
    last (Carry to conn number taken msg) i lone = absurd (cc i)
    last (Fin to conn number) i lone = absurd (cc i)
    last (Claim of) i lone = absurd (cc i)
    last (Signal to conn party taken) i lone = absurd (cc i)
    last (Ack of conn) i lone = absurd (cc i)
    last (Give g resend) i lone = absurd (cc i)

    by : (k : Bool) → is_open_of e b ≡ k → (opens e bs ≡ true → filter (is_open_of e) bs ≡ Open e.sess ∷ []) → filter (is_open_of e) (b ∷ bs) ≡ Open e.sess ∷ []
    by true i rest = rw i (last b i lead.0)
    by false i rest = rw i (rest (sym (ap (λ u. u || opens e bs) i) ∙ o))

-- so where one is, it is there
pub open_seen : {P : Type 0} → (e : EndId) (bs : List (BodyAt P)) → OpensLead bs → opens e bs ≡ true → (b : BodyAt P) × Contains bs b × (is_open_of e b ≡ true)
open_seen {P} e bs lead o =
    let kept : Has (Open e.sess) (filter (is_open_of e) bs) = subst (Has (Open e.sess)) (sym (open_once e bs lead o)) (inl refl) in
    (Open e.sess, has_contains (Open e.sess) bs (has_filter (is_open_of e) (Open e.sess) bs kept), has_passed (is_open_of e) (Open e.sess) bs kept)

-- and no lane has two of it
pub few_opens : {P : Type 0} → (e : EndId) (bs : List (BodyAt P)) → OpensLead bs → length (filter (is_open_of e) bs) ≤ 1
few_opens {P} e bs lead = by (opens e bs) refl
  where
    by : (k : Bool) → opens e bs ≡ k → length (filter (is_open_of e) bs) ≤ 1
    by true o = rw (open_once e bs lead o) (omega arith)
    by false o = rw (none_open e bs o) (omega arith)

-- of numbers that rise none is in the first of them and in the rest
rising_apart : (xs ys : List ℕ) (n : ℕ) → AreRising (xs ++ ys) → Has n xs → Contains ys n → ⊥
rising_apart [] ys n r h c = h
rising_apart (x ∷ xs) ys n r (inl i) c = let below : x < n = r.0 n (Contains-append_right xs ys n c) in omega (arith, below, i)
rising_apart (x ∷ xs) ys n r (inr h) c = rising_apart xs ys n r.1 h c

module _ {P Q : Type 0} (IsOver : P → Type 0) (binds : Q → EndId → Bool) (blank : P) (w : WorldAt P Q) (plain : PlainAt P Q) (kept : IsOpenKept IsOver binds blank w plain) where
  -- a session in an Open was opened by the party whose lane it is in, and not accepted
  pub open_is_offer : (from p : ℕ) (e : EndId) → opens e (bodies (w.lanes from p)) ≡ true → Contains (plain.offers from p) e.sess
  open_is_offer from p e o =
      let lane : List (BodyAt P) = bodies (w.lanes from p) in
      let c : Contains (opened_in lane) e.sess = opened_contains e.sess lane (sym (ap (λ d. opens d lane) (open_names e lane o)) ∙ o) in
      subst (λ l. Contains l e.sess) (kept.offers from p) (Contains-append_right ((w.nodes p).offers from) (opened_in lane) e.sess c)

  pub open_is_of_opener : (from p : ℕ) (e : EndId) → opens e (bodies (w.lanes from p)) ≡ true → opener_of e.sess ≡ from
  open_is_of_opener from p e o = opener_is from e.sess (kept.openers from p e.sess (open_is_offer from p e o))

  -- what is offered was opened and not accepted
  pub offered_unaccepted : (from p s : ℕ) → Contains ((w.nodes p).offers from) s → Contains (plain.offers from p) s
  offered_unaccepted from p s c = subst (λ l. Contains l s) (kept.offers from p) (Contains-append_left ((w.nodes p).offers from) (opened_in (bodies (w.lanes from p))) s c)

  -- its Open has come
  pub offered_came : (from p s : ℕ) → Contains ((w.nodes p).offers from) s → is_opening w p (offered_end s) ≡ false
  offered_came from p s c = by (is_opening w p (offered_end s)) refl
    where
      opener : opener_of s ≡ from
      opener = opener_is from s (kept.openers from p s (offered_unaccepted from p s c))

      by : (b : Bool) → is_opening w p (offered_end s) ≡ b → is_opening w p (offered_end s) ≡ false
      by false i = i
      by true i =
          let lane : List (BodyAt P) = bodies (w.lanes from p) in
          let behind : Contains (opened_in lane) s = opened_contains s lane (sym (ap (λ n. opens (offered_end s) (bodies (w.lanes n p))) opener) ∙ i) in
          absurd (rising_apart ((w.nodes p).offers from) (opened_in lane) s (subst AreRising (sym (kept.offers from p)) (kept.rising from p)) (contains_has s ((w.nodes p).offers from) c) behind)

  -- and its end is Held
  pub offered_is_held : (from p s : ℕ) → Contains ((w.nodes p).offers from) s → (h : HeldAt P) × ((w.nodes p).main (offered_end s) ≡ Some (Held h))
  offered_is_held from p s c =
      let h : (h : HeldAt P) × (((reading blank w).nodes p).main (offered_end s) ≡ Some (Held h)) = kept.held from p s (offered_unaccepted from p s c) in
      (h.0, sym (rw (offered_came from p s c) refl) ∙ h.1)
