-- Pairs of ends where one end is touched.
use Rattle.std.proofs.Common.{◌≡◌, ℕ, zero, suc, ◌==◌, false, List, None, Some, refl, ap, sym, ◌∙◌, subst, inl, inr}
use Rattle.std.proofs.lemmas.Bool.{cases_eq, and_left, and_right, ne_eqb}
use Rattle.sj_base.specs.declared.EndId.{EndId}
use Rattle.sj_base.specs.declared.Msg.{Msg}
use Rattle.sj_lang.specs.declared.proto.Way.{Way}
use Rattle.sj_lang.specs.Place.{Place, done}
use Rattle.sj_lang.specs.After.{after_place}
use Rattle.sj_semantics.specs.Ends.{Session, EndAt, other_end, end_at, is_same_side, is_end}
use Rattle.sj_semantics.specs.Uses.{Use, end_after}
use Rattle.sj_semantics_laws.proofs.BoundLemmas.{is_end-self}
use Rattle.sj_semantics_laws.proofs.EndLemmas.{touched, end_at-touched_other, end_at-touched_same}
use Rattle.sj_headline_laws.proofs.LeadLemmas.{Pair, pair_swap}

abbrev pub side : ℕ → ℕ → EndId
side s d = record { sess = s; side = d }

-- the pair of a session's ends
abbrev pub PairAt : List Session → List Session → ℕ → Type 0
PairAt zs at s = Pair zs (end_at at (side s 0)) (end_at at (side s 1))

-- ---- one touched end

pub touched_here : (p : ℕ) (zs : List Session) (e : EndId) (u : Use) → end_at (touched p zs (e, u)) e ≡ end_after p u (end_at zs e)
touched_here p zs e u = end_at-touched_same p zs (e, u) e (is_end-self e)

pub other_session_other_end : (s t c d : ℕ) → (s ≡ t → ⊥) → is_end (side s c) (side t d) ≡ false
other_session_other_end s t c d ne = and_left (s == t) (is_same_side c d) (ne_eqb s t ne)

pub same_session : (s c d : ℕ) → is_same_side c d ≡ false → is_end (side s c) (side s d) ≡ false
same_session s c d h = and_right (s == s) (is_same_side c d) h

-- where the pair of the touched end is one again, so are all
pub pairs_touched_at : (p : ℕ) (zs new : List Session) (s d : ℕ) (u : Use)
    → Pair new (end_after p u (end_at zs (side s d))) (end_at zs (other_end (side s d))) → PairAt new (touched p zs (side s d, u)) s
pairs_touched_at p zs new s zero u pair =
    subst (λ (a : EndAt). Pair new a (end_at (touched p zs (side s 0, u)) (side s 1))) (sym (touched_here p zs (side s 0) u))
    (subst (λ (b : EndAt). Pair new (end_after p u (end_at zs (side s 0))) b) (sym (end_at-touched_other p zs (side s 0, u) (side s 1) (same_session s 0 1 refl))) pair)
pairs_touched_at p zs new s (suc d) u pair =
    subst (λ (a : EndAt). Pair new a (end_at (touched p zs (side s (suc d), u)) (side s 1))) (sym (end_at-touched_other p zs (side s (suc d), u) (side s 0) (same_session s (suc d) 0 refl)))
    (subst (λ (b : EndAt). Pair new (end_at zs (side s 0)) b) (sym (touched_here p zs (side s (suc d)) u)) (pair_swap new _ _ pair))

pub pairs_touched : (p : ℕ) (zs new : List Session) (e : EndId) (u : Use)
    → Pair new (end_after p u (end_at zs e)) (end_at zs (other_end e)) → ((s : ℕ) → PairAt new zs s) → (s : ℕ) → PairAt new (touched p zs (e, u)) s
pairs_touched p zs new e u pair old s =
    elim (cases_eq e.sess s) [
      | inl it ↦ subst (PairAt new (touched p zs (e, u))) it (pairs_touched_at p zs new e.sess e.side u pair)
      | inr other ↦
          subst (λ (a : EndAt). Pair new a (end_at (touched p zs (e, u)) (side s 1))) (sym (end_at-touched_other p zs (e, u) (side s 0) (other_session_other_end e.sess s e.side 0 other)))
          (subst (λ (b : EndAt). Pair new (end_at zs (side s 0)) b) (sym (end_at-touched_other p zs (e, u) (side s 1) (other_session_other_end e.sess s e.side 1 other))) (old s))
    ]

-- the pair of an end, seen from the end
pub pair_at_side : (zs new : List Session) (s d : ℕ) → PairAt new zs s → Pair new (end_at zs (side s d)) (end_at zs (other_end (side s d)))
pair_at_side zs new s zero pair = pair
pair_at_side zs new s (suc d) pair = pair_swap new _ _ pair

pub pair_of : (zs new : List Session) (e : EndId) → ((s : ℕ) → PairAt new zs s) → Pair new (end_at zs e) (end_at zs (other_end e))
pair_of zs new e pairs = pair_at_side zs new e.sess e.side (pairs e.sess)

pub not_done : (p q : Place) (w : Way) (m : Msg) → after_place p w m ≡ Some q → p ≡ done → ⊥
not_done p q w m h e = let none : None ≡ Some q = sym (ap (λ t. after_place t w m) e) ∙ h in cc
