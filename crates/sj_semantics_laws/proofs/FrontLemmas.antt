-- What an act takes on an end is the next message, and so a prefix of what was sent stays one.
use Rattle.std.proofs.Common.{◌≡◌, ℕ, zero, suc, ◌≤◌, ◌==◌, nat_lt, Bool, true, false, cond, List, [], ◌∷◌, ◌++◌, map, length, drop, slice_get, Option, Some, None, option_map, unwrap_or, refl, ap, sym, ◌∙◌, subst, inl, inr, arith}
use Rattle.std.specs.Bool.{⊤}
use Rattle.std.proofs.lemmas.Bool.{cases_Bool, and_parts, eqb-true}
use Rattle.sj_base.specs.declared.EndId.{EndId}
use Rattle.sj_semantics.specs.declared.Want.{Want}
use Rattle.sj_semantics.specs.declared.Want.TheVariants as wants
use Rattle.sj_semantics.specs.declared.Passed.{Passed}
use Rattle.sj_semantics.specs.Program.{Program}
use Rattle.sj_semantics.specs.Steps.{local_of, sent_of, closed_of}
use Rattle.sj_semantics.specs.Ends.{EndAt, Session, is_same_side, is_end, end_on, other_side, other_end, nowhere, end_at, next_for}
use Rattle.sj_semantics.specs.Uses.{Use, sends, delegates}
use Rattle.sj_semantics.specs.World.{World, Change, plain_change, session_message, begun_by, begun_at, change_by_taking, change_by_opening, change_by_accepting, change_by}
use Rattle.sj_semantics.specs.Requests.{first_offer, opened_number}
use Rattle.sj_semantics.specs.declared.Awaits.{Awaits}
use Rattle.sj_semantics.specs.declared.Awaits.TheVariants as awaits
use Rattle.sj_base.specs.declared.Msg.{Msg}
use Rattle.sj_base.specs.declared.Msg.TheVariants as msgs
use Rattle.sj_lang.specs.Place.{Place}
use Rattle.sj_lang.specs.FileAt.{ProtocolAt, body_named}
use Rattle.sj_semantics.specs.Acts.{uses_on, taken_by}
use Rattle.sj_semantics_laws.proofs.EndLemmas.{Extends}

-- ---- fronts

-- these messages are the first ones that were sent
abbrev pub Front : List Passed → List Passed → Type 0
Front [] xs = ⊤
Front (t ∷ ts) [] = ⊥
Front (t ∷ ts) (x ∷ xs) = (t.msg ≡ x.msg) × Front ts xs

extends_tail : (x y : Passed) (xs ys : List Passed) → Extends (y ∷ ys) (x ∷ xs) → Extends ys xs
extends_tail x y xs ys more = λ k z h. more (suc k) z h

pub front_extends : (ts xs ys : List Passed) → Front ts xs → Extends ys xs → Front ts ys
front_extends [] xs ys f more = tt
front_extends (t ∷ ts) [] ys f more = absurd f
front_extends (t ∷ ts) (x ∷ xs) [] f more = let it = more 0 x refl in cc
front_extends (t ∷ ts) (x ∷ xs) (y ∷ ys) f more =
    let it : y ≡ x = (let at_head = more 0 x refl in cc) in
    (f.0 ∙ ap (λ (z : Passed). z.msg) (sym it), front_extends ts xs ys f.1 (extends_tail x y xs ys more))

pub front_more : (ts xs : List Passed) (x : Passed) (p : ℕ) → Front ts xs → slice_get xs (length ts) ≡ Some x → Front (ts ++ record { msg = x.msg; by = p } ∷ []) xs
front_more [] [] x p f h = cc
front_more [] (y ∷ xs) x p f h = (let it : y ≡ x = cc in ap (λ (z : Passed). z.msg) (sym it), tt)
front_more (t ∷ ts) [] x p f h = absurd f
front_more (t ∷ ts) (y ∷ xs) x p f h = (f.0, front_more ts xs x p f.1 h)

pub front_whole : (ts xs : List Passed) → Front ts xs → map (λ x. x.msg) ts ++ map (λ x. x.msg) (drop (length ts) xs) ≡ map (λ x. x.msg) xs
front_whole [] xs f = refl
front_whole (t ∷ ts) [] f = absurd f
front_whole (t ∷ ts) (x ∷ xs) f = ap (λ m. m ∷ (map (λ x. x.msg) ts ++ map (λ x. x.msg) (drop (length ts) xs))) f.0 ∙ ap (λ ms. x.msg ∷ ms) (front_whole ts xs f.1)

pub front_le : (ts xs : List Passed) → Front ts xs → length ts ≤ length xs
front_le [] xs f = omega arith
front_le (t ∷ ts) [] f = absurd f
front_le (t ∷ ts) (x ∷ xs) f = omega (arith, front_le ts xs f.1)

-- ---- what an act takes on an end: nothing, or the next message

pub end_on_same : (c d : ℕ) (z : Session) → is_same_side c d ≡ true → end_on c z ≡ end_on d z
end_on_same zero zero z e = refl
end_on_same zero (suc d) z e = cc
end_on_same (suc c) zero z e = cc
end_on_same (suc c) (suc d) z e = refl

end_on_other_same : (c d : ℕ) (z : Session) → is_same_side c d ≡ true → end_on (other_side c) z ≡ end_on (other_side d) z
end_on_other_same zero zero z e = refl
end_on_other_same zero (suc d) z e = cc
end_on_other_same (suc c) zero z e = cc
end_on_other_same (suc c) (suc d) z e = refl

at_option : (c d : ℕ) (o : Option Session) → ((z : Session) → end_on c z ≡ end_on d z) → unwrap_or (option_map (end_on c) o) nowhere ≡ unwrap_or (option_map (end_on d) o) nowhere
at_option c d None same = refl
at_option c d (Some z) same = same z

-- one end by two names has one next message
next_for_same : (zs : List Session) (e f : EndId) → is_end e f ≡ true → next_for zs f ≡ next_for zs e
next_for_same zs e f it =
    let parts = and_parts (e.sess == f.sess) (is_same_side e.side f.side) it in
    let own : end_at zs e ≡ end_at zs f =
    ap (λ s. unwrap_or (option_map (end_on e.side) (slice_get zs s)) nowhere) (eqb-true e.sess f.sess parts.0) ∙ at_option e.side f.side (slice_get zs f.sess) (λ z. end_on_same e.side f.side z parts.1) in
    let others : end_at zs (other_end e) ≡ end_at zs (other_end f) =
    ap (λ s. unwrap_or (option_map (end_on (other_side e.side)) (slice_get zs s)) nowhere) (eqb-true e.sess f.sess parts.0)
    ∙ at_option (other_side e.side) (other_side f.side) (slice_get zs f.sess) (λ z. end_on_other_same e.side f.side z parts.1) in
    ap (λ (t : EndAt). slice_get t.sent (length (end_at zs f).takers)) (sym others) ∙ ap (λ (t : EndAt). slice_get (end_at zs (other_end e)).sent (length t.takers)) (sym own)

pub data Taking (zs : List Session) (e : EndId) (p : ℕ) (us : List (EndId × Use)) : Type 0 where
  none_taken : uses_on e taken_by p us ≡ [] → Taking zs e p us
  next_taken : (x : Passed) → next_for zs e ≡ Some x → uses_on e taken_by p us ≡ record { msg = x.msg; by = p } ∷ [] → Taking zs e p us

nothing_either_way : (b : Bool) → ◌≡◌ {A = List Passed} (cond b [] []) []
nothing_either_way true = refl
nothing_either_way false = refl

-- a beginning takes nothing
begun_takes_none : (e : EndId) (p : ℕ) (place : Place) (m : Msg) → uses_on e taken_by p (begun_by place m) ≡ []
begun_takes_none e p place (msgs.Sess s d k) = ap (λ xs. xs ++ []) (nothing_either_way (is_end e (record { sess = s; side = d })))
begun_takes_none e p place (msgs.Int n) = refl
begun_takes_none e p place (msgs.Bool b) = refl
begun_takes_none e p place (msgs.Text n) = refl
begun_takes_none e p place (msgs.Label l) = refl
begun_takes_none e p place (msgs.More b) = refl

begun_at_takes_none : (e : EndId) (p : ℕ) (ps : List ProtocolAt) (a : Awaits) (m : Msg) → uses_on e taken_by p (begun_at ps a m) ≡ []
begun_at_takes_none e p ps (awaits.Session n) m = begun_takes_none e p (body_named ps n) m
begun_at_takes_none e p ps (awaits.Value k) m = refl
begun_at_takes_none e p ps awaits.OneOf m = refl
begun_at_takes_none e p ps awaits.MoreOrStop m = refl

taking_next : (zs : List Session) (e : EndId) (p : ℕ) (ps : List ProtocolAt) (g : Program) (f : EndId) (a : Awaits) (x : Passed) → next_for zs f ≡ Some x → Taking zs e p (change_by_taking ps g f a x).uses
taking_next zs e p ps g f a x h =
    elim (cases_Bool (is_end e f)) [
      | inl it ↦
          next_taken x (sym (next_for_same zs e f it) ∙ h)
          (ap (λ (t : Bool). cond t (record { msg = x.msg; by = p } ∷ []) [] ++ uses_on e taken_by p (begun_at ps a x.msg)) it ∙ ap (λ xs. record { msg = x.msg; by = p } ∷ xs) (begun_at_takes_none e p ps a x.msg))
      | inr other ↦ none_taken (ap (λ (t : Bool). cond t (record { msg = x.msg; by = p } ∷ []) [] ++ uses_on e taken_by p (begun_at ps a x.msg)) other ∙ begun_at_takes_none e p ps a x.msg)
    ]

taking_option : {X : Type 0} (zs : List Session) (e : EndId) (p : ℕ) (f : X → Change) (c : Change) (o : Option X) → ((x : X) → o ≡ Some x → Taking zs e p (f x).uses) → option_map f o ≡ Some c → Taking zs e p c.uses
taking_option zs e p f c None n h = cc
taking_option zs e p f c (Some x) n h = subst (λ (t : Change). Taking zs e p t.uses) (let it : f x ≡ c = cc in it) (n x refl)

taking_if : (zs : List Session) (e : EndId) (p : ℕ) (b : Bool) (d c : Change) → Taking zs e p d.uses → cond b (Some d) None ≡ Some c → Taking zs e p c.uses
taking_if zs e p true d c t h = subst (λ (t : Change). Taking zs e p t.uses) (let it : d ≡ c = cc in it) t
taking_if zs e p false d c t h = cc

pub by_taking : (w : World) (e : EndId) (p : ℕ) (g : Program) (c : Change) (want : Want) → change_by w p g want ≡ Some c → Taking w.sessions e p c.uses
by_taking w e p g c wants.Ended h = cc
by_taking w e p g c wants.Local h = taking_if w.sessions e p true (plain_change (local_of g) []) c (none_taken refl) h
by_taking w e p g c (wants.Send f m) h = taking_if w.sessions e p true (plain_change (sent_of g) ((f, sends m) ∷ [])) c (none_taken (ap (λ xs. xs ++ []) (nothing_either_way (is_end e f)))) h
by_taking w e p g c (wants.Delegate f y) h =
    taking_if w.sessions e p (nat_lt (end_at w.sessions y).hops 100) (plain_change (sent_of g) ((y, delegates) ∷ (f, sends (session_message y p)) ∷ [])) c
    (none_taken (ap (λ xs. xs ++ (cond (is_end e f) [] [] ++ [])) (nothing_either_way (is_end e y)) ∙ ap (λ xs. xs ++ []) (nothing_either_way (is_end e f)))) h
by_taking w e p g c (wants.Take f a) h = taking_option w.sessions e p (change_by_taking w.protocols g f a) c (next_for w.sessions f) (λ x n. taking_next w.sessions e p w.protocols g f a x n) h
by_taking w e p g c (wants.Close f) h = taking_if w.sessions e p true (plain_change (closed_of g) []) c (none_taken refl) h
by_taking w e p g c (wants.Request n q) h =
    let k = length (w.requests p) in
    let first : EndId = record { sess = opened_number p k; side = 0 } in
    let second : EndId = record { sess = opened_number p k; side = 1 } in
    taking_if w.sessions e p (nat_lt k 100) (change_by_opening g (opened_number p k) (body_named w.protocols n) q) c
    (none_taken (ap (λ xs. xs ++ (cond (is_end e second) [] [] ++ [])) (nothing_either_way (is_end e first)) ∙ ap (λ xs. xs ++ []) (nothing_either_way (is_end e second)))) h
by_taking w e p g c (wants.Accept n q) h =
    taking_option w.sessions e p (change_by_accepting g q (body_named w.protocols n)) c (first_offer p (w.requests q))
    (λ k m. none_taken (ap (λ xs. xs ++ []) (nothing_either_way (is_end e (record { sess = opened_number q k; side = 1 }))))) h
