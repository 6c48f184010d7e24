-- The first open end of a code, by its name.
use Rattle.std.proofs.Common.{◌≡◌, ℕ, ◌≤◌, nat_lt, Bool, true, false, cond, [], ◌∷◌, Option, Some, None, refl, ap, sym, ◌∙◌, subst, arith, inl, inr}
use Rattle.std.proofs.lemmas.Bool.{cases_Bool, ltb-false, ltb-true}
use Rattle.sj_base.specs.declared.EndId.{EndId}
use Rattle.sj_lang.specs.ItemCount.{is_done}
use Rattle.sj_lang.specs.Place.{Place, done}
use Rattle.sj_semantics.specs.Ends.{is_end}
use Rattle.sj_semantics_laws.proofs.ClaimLemmas.{one_if}
use Rattle.sj_semantics_laws.proofs.BoundLemmas.{is_end-self}
use Rattle.sj_rules.specs.Record.{is_same_end}
use Rattle.sj_rules_laws.proofs.SideLemmas.{same_end_is, same_end_self}
use Rattle.sj_told.specs.Told.{slot_of}
use Rattle.sj_seat_laws.specs.Calls.{Ends, place_held}
use Rattle.sj_seat_laws.proofs.CallLemmas.{done_by}
use Rattle.sj_seat_laws.proofs.HeldLemmas.{held_by_place, holds, holds-cons}
use Rattle.sj_seat_told_laws.specs.FirstOpen.{IsFirstOpen, earlier, first_open}

-- ---- the place of an end that is held

here_is : (b : EndId × Place) (bs : Ends) (e : EndId) (place : Place) → is_same_end b.0 e ≡ true → place_held (b ∷ bs) e ≡ Some place → b.1 ≡ place
here_is b bs e place hit h = let it : Some b.1 ≡ Some place = sym (ap (λ (t : Bool). cond t (Some b.1) (place_held bs e)) hit) ∙ h in cc

later_is : (b : EndId × Place) (bs : Ends) (e : EndId) → is_same_end b.0 e ≡ false → place_held (b ∷ bs) e ≡ place_held bs e
later_is b bs e miss = ap (λ (t : Bool). cond t (Some b.1) (place_held bs e)) miss

own_is : (b : EndId × Place) (bs : Ends) → place_held (b ∷ bs) b.0 ≡ Some b.1
own_is b bs = ap (λ (t : Bool). cond t (Some b.1) (place_held bs b.0)) (same_end_self b.0)

abbrev AreOnce : Ends → Type 0
AreOnce bs = (e : EndId) → holds e bs ≤ 1

later_once : (b : EndId × Place) (bs : Ends) → AreOnce (b ∷ bs) → AreOnce bs
later_once b bs once e = omega (arith, once e, holds-cons e b bs)

-- an end that is held later isn't the first one
apart : (b : EndId × Place) (bs : Ends) → AreOnce (b ∷ bs) → (e : EndId) (place : Place) → place_held bs e ≡ Some place → is_same_end b.0 e ≡ false
apart b bs once e place h =
    elim (cases_Bool (is_same_end b.0 e)) [
      | inl hit ↦
          let same : b.0 ≡ e = same_end_is b.0 e hit in
          absurd (omega (arith, once e, holds-cons e b bs, held_by_place bs e place h, ap (λ (f : EndId). one_if (is_end e f)) same, ap {B = ℕ} one_if (is_end-self e)))
      | inr miss ↦ miss
    ]

-- ---- whether one is open

earlier_some : (o : Option EndId) (e : EndId) → earlier o e ≡ None → ⊥
earlier_some None e h = cc h
earlier_some (Some d) e h = cc h

pub none_open : (bs : Ends) → first_open bs ≡ None → (e : EndId) (place : Place) → place_held bs e ≡ Some place → place ≡ done
none_open [] h e place held = cc
none_open (b ∷ bs) h e place held = by (is_done b.1) refl h (λ k later. none_open bs k e place later)
  where
    by : (c : Bool) → is_done b.1 ≡ c → cond c (first_open bs) (earlier (first_open bs) b.0) ≡ None → (first_open bs ≡ None → place_held bs e ≡ Some place → place ≡ done) → place ≡ done
    by true over k rest =
        elim (cases_Bool (is_same_end b.0 e)) [
          | inl hit ↦ sym (here_is b bs e place hit held) ∙ done_by b.1 over
          | inr miss ↦ rest k (sym (later_is b bs e miss) ∙ held)
        ]
    by false over k rest = absurd (earlier_some (first_open bs) b.0 k)

pub open_none : (bs : Ends) → AreOnce bs → ((e : EndId) (place : Place) → place_held bs e ≡ Some place → place ≡ done) → first_open bs ≡ None
open_none [] once over = refl
open_none (b ∷ bs) once over =
    let rest = open_none bs (later_once b bs once) (λ e place h. over e place (later_is b bs e (apart b bs once e place h) ∙ h)) in
    ap (λ (c : Bool). cond c (first_open bs) (earlier (first_open bs) b.0)) (ap is_done (over b.0 b.1 (own_is b bs))) ∙ rest

-- ---- which one

same_end : (d e : EndId) → ◌≡◌ {A = Option EndId} (Some d) (Some e) → d ≡ e
same_end d e h = cc

not_done : (place : Place) → is_done place ≡ false → place ≡ done → ⊥
not_done place full it = let clash : true ≡ false = sym (ap is_done it) ∙ full in cc clash

module _ (b : EndId × Place) (bs : Ends) (once : AreOnce (b ∷ bs)) where
  -- one of the later ends
  later_first : (e : EndId) → IsFirstOpen bs e → ((b.1 ≡ done → ⊥) → slot_of e ≤ slot_of b.0) → IsFirstOpen (b ∷ bs) e
  later_first e i before = record {
    place = i.place;
    held = later_is b bs e (apart b bs once e i.place i.held) ∙ i.held;
    open_there = i.open_there;
    first = λ f q h is_open.
        elim (cases_Bool (is_same_end b.0 f)) [
          | inl hit ↦
              let slot : slot_of b.0 ≡ slot_of f = ap slot_of (same_end_is b.0 f hit) in
              omega (arith, slot, before (λ over. is_open (sym (here_is b bs f q hit h) ∙ over)))
          | inr miss ↦ i.first f q (sym (later_is b bs f miss) ∙ h) is_open
        ];
  }

  -- the first of the list
  own_first : is_done b.1 ≡ false → ((f : EndId) (q : Place) → place_held bs f ≡ Some q → (q ≡ done → ⊥) → slot_of b.0 ≤ slot_of f) → IsFirstOpen (b ∷ bs) b.0
  own_first full before = record {
    place = b.1;
    held = own_is b bs;
    open_there = not_done b.1 full;
    first = λ f q h is_open.
        elim (cases_Bool (is_same_end b.0 f)) [
          | inl hit ↦ let slot : slot_of b.0 ≡ slot_of f = ap slot_of (same_end_is b.0 f hit) in omega (arith, slot)
          | inr miss ↦ before f q (sym (later_is b bs f miss) ∙ h) is_open
        ];
  }

  two_open : (e d : EndId) (c : Bool) → nat_lt (slot_of d) (slot_of b.0) ≡ c → is_done b.1 ≡ false → IsFirstOpen bs d → cond c d b.0 ≡ e → IsFirstOpen (b ∷ bs) e
  two_open e d true before full i is = subst (IsFirstOpen (b ∷ bs)) is (later_first d i (λ is_open. omega (arith, ltb-true (slot_of d) (slot_of b.0) before)))
  two_open e d false before full i is = subst (IsFirstOpen (b ∷ bs)) is (own_first full (λ f q h is_open. omega (arith, i.first f q h is_open, ltb-false (slot_of d) (slot_of b.0) before)))

  by_later : (e : EndId) (o : Option EndId) → first_open bs ≡ o → is_done b.1 ≡ false → ((d : EndId) → first_open bs ≡ Some d → IsFirstOpen bs d) → earlier o b.0 ≡ Some e → IsFirstOpen (b ∷ bs) e
  by_later e None none full rest is = subst (IsFirstOpen (b ∷ bs)) (same_end b.0 e is) (own_first full (λ f q h is_open. absurd (is_open (none_open bs none f q h))))
  by_later e (Some d) there full rest is = two_open e d (nat_lt (slot_of d) (slot_of b.0)) refl full (rest d there) (same_end (cond (nat_lt (slot_of d) (slot_of b.0)) d b.0) e is)

  by_place : (e : EndId) (c : Bool) → is_done b.1 ≡ c → ((d : EndId) → first_open bs ≡ Some d → IsFirstOpen bs d) → cond c (first_open bs) (earlier (first_open bs) b.0) ≡ Some e → IsFirstOpen (b ∷ bs) e
  by_place e true over rest is = later_first e (rest e is) (λ is_open. absurd (is_open (done_by b.1 over)))
  by_place e false full rest is = by_later e (first_open bs) refl full rest is

pub first_is_open : (bs : Ends) → AreOnce bs → (e : EndId) → first_open bs ≡ Some e → IsFirstOpen bs e
first_is_open [] once e h = cc
first_is_open (b ∷ bs) once e h = by_place b bs once e (is_done b.1) refl (λ d k. first_is_open bs (later_once b bs once) d k) h
