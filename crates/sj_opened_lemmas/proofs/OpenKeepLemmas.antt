-- An Open is delivered: it always fits its row, and the world stays kept.
use Rattle.std.proofs.Common.{◌≡◌, ℕ, ◌+◌, List, ◌∷◌, ◌++◌, refl, sym, ap, subst, ◌∙◌, max, arith}
use Rattle.std.specs.Prelude.{Bool, true, false, ◌==◌, ◌&&◌, nat_le, if◌then◌else◌, Contains, Some, None}
use Rattle.std.proofs.lemmas.Bool.{eqb-true, eq-eqb}
use Rattle.std.proofs.lemmas.List.Elements.{Contains-append_right}
use Rattle.sj_base.specs.declared.EndId.{EndId}
use Rattle.sj_rules.specs.Record.{Open, HeldAt, Held, other_end, is_same_end, offered_end}
use Rattle.sj_rules.specs.Opened.{opener_of, is_opened_by, new_held, opened_in, opens}
use Rattle.sj_rules.specs.Limits.{first_opened}
use Rattle.sj_rules.specs.Frames.{FrameAt, is_proper}
use Rattle.sj_rules.specs.Node.{Play}
use Rattle.sj_rules.specs.World.{WorldAt, Deliver, happens}
use Rattle.sj_rules.specs.Seat.{held}
use Rattle.sj_rules.specs.Shown.{bodies}
use Rattle.sj_rules.specs.PlainSide.{PlainAt}
use Rattle.sj_rules.specs.Reading.{is_opening, reading, OpensLead, IsOpenKept}
use Rattle.sj_world_lemmas.proofs.EventLemmas.{same_end}
use Rattle.sj_world_lemmas.proofs.SeenLemmas.{Here, here_held}
use Rattle.sj_opened_lemmas.proofs.NodeReadLemmas.{same_is}
use Rattle.sj_opened_lemmas.proofs.LeadLemmas.{lead_popped}
use Rattle.sj_opened_lemmas.proofs.OpenReadLemmas.{IsSameButClocks, node_opened, world_opened, opened_lane, open_leaves}
use Rattle.sj_opened_lemmas.proofs.OldKeepLemmas.{kept_like}

-- the first is in the list
pub contains_first : (n : ℕ) (ns : List ℕ) → Contains (n ∷ ns) n
contains_first n ns = (0, omega arith, refl)

-- it is in the list, after others
pub contains_behind : (xs ys : List ℕ) (n : ℕ) → Contains (xs ++ n ∷ ys) n
contains_behind xs ys n = Contains-append_right xs (n ∷ ys) n (contains_first n ys)

-- what is opened by a party has it as its opener
pub opener_is : (q s : ℕ) → is_opened_by q s ≡ true → opener_of s ≡ q
opener_is q s e = by (nat_le first_opened s) (opener_of s == q) refl e
  where
    by : (a b : Bool) → (opener_of s == q) ≡ b → (a && b) ≡ true → opener_of s ≡ q
    by true true i j = eqb-true (opener_of s) q i
    by true false i j = absurd (cc j)
    by false b i j = absurd (cc j)

module _ {P Q : Type 0} (IsOver : P → Type 0) (binds : Q → EndId → Bool) (play : Play P Q) (w : WorldAt P Q) (plain : PlainAt P Q) (kept : IsOpenKept IsOver binds play.blank w plain)
    (q p c sess : ℕ) (rest : List (FrameAt P)) (front : w.lanes q p ≡ record { clock = c; body = Open sess } ∷ rest) where
  -- it is one of those that were opened and not accepted
  in_offers : Contains (plain.offers q p) sess
  in_offers = subst (λ l. Contains l sess) (ap (λ l. (w.nodes p).offers q ++ opened_in (bodies l)) (sym front) ∙ kept.offers q p) (contains_behind ((w.nodes p).offers q) (opened_in (bodies rest)) sess)

  opened_here : is_opened_by q sess ≡ true
  opened_here = kept.openers q p sess in_offers

  opener : opener_of sess ≡ q
  opener = opener_is q sess opened_here

  -- its end is in it
  is_in : is_opening w p (offered_end sess) ≡ true
  is_in = ap (λ n. opens (offered_end sess) (bodies (w.lanes n p))) opener ∙ ap (λ l. opens (offered_end sess) (bodies l)) front ∙ rw (same_end (offered_end sess)) refl

  no_main : (w.nodes p).main (offered_end sess) ≡ None
  no_main = kept.bare p (offered_end sess) is_in

  no_old : (w.nodes p).old (offered_end sess) ≡ None
  no_old =
      let main : ((reading play.blank w).nodes p).main (offered_end sess) ≡ Some (Held (new_held (offered_end sess) play.blank (opener_of sess))) = rw is_in refl in
      let here : Here IsOver (reading play.blank w) (plain.sides (other_end (offered_end sess))) (plain.sides (offered_end sess)) (kept.kept.sessions.sides (other_end (offered_end sess))) (kept.kept.sessions.sides (offered_end sess)) (offered_end sess)
      (held p (new_held (offered_end sess) play.blank (opener_of sess))) =
      here_held IsOver (reading play.blank w) plain.sides kept.kept.sessions (offered_end sess) (omega arith) p (new_held (offered_end sess) play.blank (opener_of sess)) main in
      here.shows.olds p

  -- no other Open of it comes after
  once : opens (offered_end sess) (bodies rest) ≡ false
  once = (subst (λ l. OpensLead (bodies l)) front (kept.lead q p)).0

  -- it fits its row, where its clock is within the limits, and the world stays kept
  pub open_front_fits : (pick : ℕ → ℕ → ℕ) → is_proper {P = P} play.parties (record { clock = c; body = Open sess }) ≡ true →
      (v : WorldAt P Q) × (happens play pick w p (Deliver q) ≡ Some v) × IsOpenKept IsOver binds play.blank v plain
  open_front_fits pick proper = (
    v,
    rw (front, proper, opened_here, no_main, no_old) refl,
    record {
      kept = kept_like IsOver binds (reading play.blank v) (reading play.blank w) plain (record { mains = same.mains; olds = same.olds; lanes = λ from to. ap bodies (same.lanes from to) }) same.programs kept.kept;
      requests = λ k. same.requests k ∙ kept.requests k;
      offers = λ from k. same.offers k from ∙ kept.offers from k;
      rising = kept.rising;
      openers = kept.openers;
      below = kept.below;
      offered = kept.offered;
      held = λ from k s in_it. let h : (h : HeldAt P) × (((reading play.blank w).nodes k).main (offered_end s) ≡ Some (Held h)) = kept.held from k s in_it in (h.0, same.mains k (offered_end s) ∙ h.1);
      unbound = kept.unbound;
      lead = λ from to. subst (λ l. OpensLead (bodies l)) (sym (opened_lane play.blank w q p clock c rest sess front opener from to)) (lead_popped q p (record { clock = c; body = Open sess }) rest w.lanes front kept.lead from to);
      bare = λ k e i. bare_at k e i;
      unopened = λ s n k e is low.
          let a : (((reading play.blank w).nodes k).main e ≡ None) × ((w.nodes k).old e ≡ None) = kept.unopened s n k e is low in
          (same.mains k e ∙ a.0, same.olds k e ∙ a.1);
    },
  )
    where
      clock : ℕ
      clock = max (w.nodes p).clock c + 1

      v : WorldAt P Q
      v = world_opened play.blank w q p clock c rest sess front opener

      same : IsSameButClocks (reading play.blank v) (reading play.blank w)
      same = open_leaves play.blank w q p clock c rest sess front opener

      opening_was : (k : ℕ) (e : EndId) → is_opening v k e ≡ true → (is_opening w k e ≡ true) × (((k == p) && is_same_end e (offered_end sess)) ≡ false)
      opening_was k e i = by (opener_of e.sess == q) (k == p) (is_same_end e (offered_end sess)) refl refl refl
          (sym (ap (λ l. opens e (bodies l)) (opened_lane play.blank w q p clock c rest sess front opener (opener_of e.sess) k)) ∙ i)
        where
          was : opener_of e.sess ≡ q → k ≡ p → w.lanes (opener_of e.sess) k ≡ record { clock = c; body = Open sess } ∷ rest
          was a b = rw (a, b) front

          by : (a b o : Bool) → (opener_of e.sess == q) ≡ a → (k == p) ≡ b → is_same_end e (offered_end sess) ≡ o → opens e (bodies (if a && b then rest else w.lanes (opener_of e.sess) k)) ≡ true →
              (is_opening w k e ≡ true) × ((b && o) ≡ false)
          by true true true x y z j = let id : e ≡ offered_end sess = same_is e (offered_end sess) z in let none : opens e (bodies rest) ≡ false = ap (λ d. opens d (bodies rest)) id ∙ once in absurd (cc (none, j))
          by true true false x y z j = (ap (λ l. opens e (bodies l)) (was (eqb-true (opener_of e.sess) q x) (eqb-true k p y)) ∙ rw (z, j) refl, refl)
          by true false o x y z j = (j, refl)
          by false true true x y z j =
              let from : opener_of e.sess ≡ q = ap (λ d. opener_of d.sess) (same_is e (offered_end sess) z) ∙ opener in
              absurd (cc (eq-eqb (opener_of e.sess) q from, x))
          by false true false x y z j = (j, refl)
          by false false o x y z j = (j, refl)

      bare_at : (k : ℕ) (e : EndId) → is_opening v k e ≡ true → (v.nodes k).main e ≡ None
      bare_at k e i =
          let o : (is_opening w k e ≡ true) × (((k == p) && is_same_end e (offered_end sess)) ≡ false) = opening_was k e i in
          by (k == p) (is_same_end e (offered_end sess)) refl refl o.1 (kept.bare k e o.0)
        where
          by : (a b : Bool) → (k == p) ≡ a → is_same_end e (offered_end sess) ≡ b → (a && b) ≡ false → (w.nodes k).main e ≡ None → (if a then record (node_opened play.blank w q p clock c rest sess front opener) { clock = clock } else w.nodes k).main e ≡ None
          by true true x y z n = absurd (cc z)
          by true false x y z n = let at : k ≡ p = eqb-true k p x in rw y (sym (ap (λ m. (w.nodes m).main e) at) ∙ n)
          by false b x y z n = n
