-- An end that a call begins is free before it.
use Rattle.std.proofs.Common.{◌≡◌, ℕ, nat_lt, Bool, true, false, cond, List, [], ◌∷◌, length, Option, Some, None, option_map, refl, subst, arith}
use Rattle.std.proofs.lemmas.Bool.{ltb-true}
use Rattle.sj_base.specs.declared.EndId.{EndId}
use Rattle.sj_lang.specs.Dual.{dual_of}
use Rattle.sj_lang.specs.Place.{Place}
use Rattle.sj_semantics.specs.declared.Passed.{Passed}
use Rattle.sj_semantics.specs.Ends.{end_at, next_for}
use Rattle.sj_semantics.specs.Requests.{first_offer, limit_of_requests, opened_number}
use Rattle.sj_semantics.specs.Uses.{Use, begins, delegates, sends, takes}
use Rattle.sj_semantics.specs.World.{World, begun_by, session_message}
use Rattle.sj_semantics_laws.specs.Unshared.{to_accept, to_open}
use Rattle.sj_semantics_laws.proofs.ToComeLemmas.{OpeningFits, first_is_offer}
use Rattle.sj_headline_laws.proofs.FreeLemmas.{AllFree, begun_use, comes, named_begun, none_begun, other_use}
use Rattle.sj_headline_laws.proofs.TouchedLemmas.{side}
use Rattle.sj_rules.specs.Node as wanted
use Rattle.sj_rules.specs.Node.{Want}
use Rattle.sj_seat_laws.specs.SeatedWorld.{Doing, accepting, doing_by, plain_doing, requesting}

-- what a call begins is free
module _ (p : ℕ) (w : World) where
  AllFreeIn : List (EndId × Use) → Type 0
  AllFreeIn us = AllFree w us us

  made_free : (c d : Doing) → ◌≡◌ {A = Option Doing} (Some c) (Some d) → AllFreeIn c.uses → AllFreeIn d.uses
  made_free c d h free = subst (λ (x : Doing). AllFreeIn x.uses) (let it : c ≡ d = cc in it) free

  pub doing_free : (want : Want Place) (d : Doing) → doing_by p w want ≡ Some d → AllFree w d.uses d.uses
  unfolding AllFreeIn
  doing_free wanted.ended d h = absurd (cc h)
  doing_free wanted.local d h = absurd (cc h)
  doing_free (wanted.requests place to) d h = by (nat_lt (length (w.requests p)) limit_of_requests) refl h
    where
      by : (b : Bool) → nat_lt (length (w.requests p)) limit_of_requests ≡ b → cond b (Some (requesting (opened_number p (length (w.requests p))) place to)) None ≡ Some d → AllFree w d.uses d.uses
      by true low k =
          let num : ℕ = opened_number p (length (w.requests p)) in
          let few = ltb-true (length (w.requests p)) limit_of_requests low in
          let all : List (EndId × Use) = (side num 0, begins place) ∷ (side num 1, begins (dual_of place)) ∷ [] in
          made_free (requesting num place to) d k
          (begun_use w all (side num 0) place ((side num 1, begins (dual_of place)) ∷ []) (comes (to_open p (length (w.requests p)) (omega arith) few refl))
          (begun_use w all (side num 1) (dual_of place) [] (comes (to_open p (length (w.requests p)) (omega arith) few refl)) (none_begun w all)))
      by false low k = absurd (cc k)
  doing_free (wanted.accepts place from) d h = by (first_offer p (w.requests from)) refl h
    where
      by : (o : Option ℕ) → first_offer p (w.requests from) ≡ o → option_map (accepting from place) o ≡ Some d → AllFree w d.uses d.uses
      by None first k = absurd (cc k)
      by (Some j) first k =
          let y : EndId = side (opened_number from j) 1 in
          let offer = first_is_offer p (w.requests from) j first in
          let all : List (EndId × Use) = (y, begins place) ∷ [] in
          made_free (accepting from place j) d k (begun_use w all y place [] (comes (to_accept from j offer.0 offer.1 offer.3 refl refl)) (none_begun w all))
  doing_free (wanted.sends f k) d h =
      let all : List (EndId × Use) = (f, sends k) ∷ [] in
      made_free (plain_doing None all) d h (other_use w all f (sends k) [] (λ place e. cc) (none_begun w all))
  doing_free (wanted.delegates c f) d h = by (nat_lt (end_at w.sessions f).hops 100) h
    where
      all : List (EndId × Use)
      all = (f, delegates) ∷ (c, sends (session_message f p)) ∷ []

      by : (b : Bool) → cond b (Some (plain_doing None ((f, delegates) ∷ (c, sends (session_message f p)) ∷ []))) None ≡ Some d → AllFree w d.uses d.uses
      by true k =
          made_free (plain_doing None ((f, delegates) ∷ (c, sends (session_message f p)) ∷ [])) d k
          (other_use w ((f, delegates) ∷ (c, sends (session_message f p)) ∷ []) f delegates ((c, sends (session_message f p)) ∷ []) (λ place e. cc)
          (other_use w ((f, delegates) ∷ (c, sends (session_message f p)) ∷ []) c (sends (session_message f p)) [] (λ place e. cc) (none_begun w ((f, delegates) ∷ (c, sends (session_message f p)) ∷ []))))
      by false k = absurd (cc k)
  doing_free (wanted.takes f place) d h = by (next_for w.sessions f) refl h
    where
      by : (o : Option Passed) → next_for w.sessions f ≡ o → option_map (λ (x : Passed). plain_doing (Some x.msg) ((f, takes x.msg) ∷ begun_by place x.msg)) o ≡ Some d → AllFree w d.uses d.uses
      by None next k = absurd (cc k)
      by (Some x) next k =
          let all : List (EndId × Use) = (f, takes x.msg) ∷ begun_by place x.msg in
          made_free (plain_doing (Some x.msg) all) d k
          (other_use w all f (takes x.msg) (begun_by place x.msg) (λ at e. cc) (named_begun w all place f x x.msg next refl refl))
  doing_free (wanted.closes f) d h = made_free (plain_doing None []) d h (none_begun w [])

  -- what it opens can be opened
  made_fits : (c d : Doing) → ◌≡◌ {A = Option Doing} (Some c) (Some d) → OpeningFits w p c.opening → OpeningFits w p d.opening
  made_fits c d h fits = subst (λ (x : Doing). OpeningFits w p x.opening) (let it : c ≡ d = cc in it) fits

  pub doing_fits : (want : Want Place) (d : Doing) → doing_by p w want ≡ Some d → OpeningFits w p d.opening
  doing_fits wanted.ended d h = absurd (cc h)
  doing_fits wanted.local d h = absurd (cc h)
  doing_fits (wanted.sends f k) d h = made_fits (plain_doing None ((f, sends k) ∷ [])) d h tt
  doing_fits (wanted.delegates c f) d h = by (nat_lt (end_at w.sessions f).hops 100) h
    where
      by : (b : Bool) → cond b (Some (plain_doing None ((f, delegates) ∷ (c, sends (session_message f p)) ∷ []))) None ≡ Some d → OpeningFits w p d.opening
      by true k = made_fits (plain_doing None ((f, delegates) ∷ (c, sends (session_message f p)) ∷ [])) d k tt
      by false k = absurd (cc k)
  doing_fits (wanted.takes f place) d h = by (next_for w.sessions f) h
    where
      by : (o : Option Passed) → option_map (λ (x : Passed). plain_doing (Some x.msg) ((f, takes x.msg) ∷ begun_by place x.msg)) o ≡ Some d → OpeningFits w p d.opening
      by None k = absurd (cc k)
      by (Some x) k = made_fits (plain_doing (Some x.msg) ((f, takes x.msg) ∷ begun_by place x.msg)) d k tt
  doing_fits (wanted.closes f) d h = made_fits (plain_doing None []) d h tt
  doing_fits (wanted.requests place to) d h = by (nat_lt (length (w.requests p)) limit_of_requests) refl h
    where
      by : (b : Bool) → nat_lt (length (w.requests p)) limit_of_requests ≡ b → cond b (Some (requesting (opened_number p (length (w.requests p))) place to)) None ≡ Some d → OpeningFits w p d.opening
      by true low k = made_fits (requesting (opened_number p (length (w.requests p))) place to) d k (ltb-true (length (w.requests p)) limit_of_requests low)
      by false low k = absurd (cc k)
  doing_fits (wanted.accepts place from) d h = by (first_offer p (w.requests from)) refl h
    where
      by : (o : Option ℕ) → first_offer p (w.requests from) ≡ o → option_map (accepting from place) o ≡ Some d → OpeningFits w p d.opening
      by None first k = absurd (cc k)
      by (Some j) first k = made_fits (accepting from place j) d k (first_is_offer p (w.requests from) j first)
