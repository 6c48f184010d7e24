-- What uses add to what was sent and taken, and what a call takes.
use Rattle.std.proofs.Common.{◌≡◌, ℕ, zero, suc, ◌==◌, nat_lt, Bool, true, false, cond, List, [], ◌∷◌, ◌++◌, map, length, slice_get, Option, Some, None, option_map, unwrap_or, refl, ap, sym, ◌∙◌, subst, arith, append-nil, append_assoc, length-append, inl, inr}
use Rattle.std.proofs.lemmas.Bool.{and_from, and_parts, cases_Bool, eq-eqb, eqb-true}
use Rattle.std.proofs.lemmas.List.{length-map}
use Rattle.sj_base.specs.declared.EndId.{EndId}
use Rattle.sj_base.specs.declared.Msg.{Msg}
use Rattle.sj_base.specs.declared.Msg.TheVariants as msgs
use Rattle.sj_lang.specs.FileAt.{ConnectAt, FileAt}
use Rattle.sj_lang.specs.Place.{Place}
use Rattle.sj_semantics.specs.declared.Passed.{Passed}
use Rattle.sj_semantics.specs.Acts.{sent_by, taken_by, uses_on}
use Rattle.sj_semantics.specs.Ends.{EndAt, Session, end_at, end_on, is_end, is_same_side, next_for, nowhere, other_end, other_side}
use Rattle.sj_semantics.specs.Requests.{first_offer, limit_of_requests, opened_number}
use Rattle.sj_semantics.specs.Uses.{Use, after_uses, begins, delegates, end_after, sends, takes}
use Rattle.sj_semantics.specs.World.{World, begun_by, session_message, session_of}
use Rattle.sj_semantics_laws.proofs.ActsLemmas.{takers_after_uses}
use Rattle.sj_semantics_laws.proofs.BoundLemmas.{is_end_sym, is_end_sym_false}
use Rattle.sj_semantics_laws.proofs.EndLemmas.{end_at-after_uses_extends, end_at-touched_other, end_at-touched_same, touched}
use Rattle.sj_semantics_laws.proofs.FrontLemmas.{Front, Taking, front_extends, front_more, next_taken, none_taken}
use Rattle.sj_headline_laws.proofs.DoneLemmas.{same_end_at}
use Rattle.sj_headline_laws.proofs.TouchedLemmas.{side}
use Rattle.sj_rules.specs.Node as wanted
use Rattle.sj_rules.specs.Node.{Want}
use Rattle.sj_seat_laws.specs.SeatedWorld.{Doing, SeatedWorld, accepting, doing_by, plain_doing, requesting}

-- ---- what uses add

nothing_either_way : {A : Type 0} (b : Bool) → ◌≡◌ {A = List A} (cond b [] []) []
nothing_either_way true = refl
nothing_either_way false = refl

use_sends : (p : ℕ) (u : Use) (e : EndAt) → (end_after p u e).sent ≡ e.sent ++ sent_by p u
use_sends p (sends m) e = refl
use_sends p (takes m) e = sym (append-nil e.sent)
use_sends p delegates e = sym (append-nil e.sent)
use_sends p (begins place) e = sym (append-nil e.sent)

sent_touched : (p : ℕ) (zs : List Session) (u : EndId × Use) (e : EndId) → (end_at (touched p zs u) e).sent ≡ (end_at zs e).sent ++ cond (is_end e u.0) (sent_by p u.1) []
sent_touched p zs u e =
    elim (cases_Bool (is_end e u.0)) [
      | inl it ↦
          ap (λ (x : EndAt). x.sent) (end_at-touched_same p zs u e (is_end_sym e u.0 it)) ∙ use_sends p u.1 (end_at zs e)
          ∙ ap (λ (t : Bool). (end_at zs e).sent ++ cond t (sent_by p u.1) []) (sym it)
      | inr other ↦
          ap (λ (x : EndAt). x.sent) (end_at-touched_other p zs u e (is_end_sym_false e u.0 other)) ∙ sym (append-nil (end_at zs e).sent)
          ∙ ap (λ (t : Bool). (end_at zs e).sent ++ cond t (sent_by p u.1) []) (sym other)
    ]

pub sent_after_uses : (p : ℕ) (us : List (EndId × Use)) (zs : List Session) (e : EndId) → (end_at (after_uses p us zs) e).sent ≡ (end_at zs e).sent ++ uses_on e sent_by p us
sent_after_uses p [] zs e = sym (append-nil (end_at zs e).sent)
sent_after_uses p (u ∷ us) zs e =
    sent_after_uses p us (touched p zs u) e ∙ ap (λ ys. ys ++ uses_on e sent_by p us) (sent_touched p zs u e)
    ∙ append_assoc (end_at zs e).sent (cond (is_end e u.0) (sent_by p u.1) []) (uses_on e sent_by p us)

-- what was taken on the end so far, and what was sent on the other one
pub record So (zs : List Session) (e : EndId) (ts ss : List Passed) : Type 0 where
  pub front : Front ts (end_at zs (other_end e)).sent
  pub counted : length ts ≡ length (end_at zs e).takers
  pub sent : (end_at zs (other_end e)).sent ≡ ss

uses_front : (p : ℕ) (us : List (EndId × Use)) (zs : List Session) (e : EndId) (ts ss : List Passed) → So zs e ts ss → Taking zs e p us → Front (ts ++ uses_on e taken_by p us) (end_at zs (other_end e)).sent
uses_front p us zs e ts ss so (none_taken none) = subst (λ xs. Front xs (end_at zs (other_end e)).sent) (sym (ap (λ xs. ts ++ xs) none ∙ append-nil ts)) so.front
uses_front p us zs e ts ss so (next_taken x next one) =
    subst (λ xs. Front xs (end_at zs (other_end e)).sent) (sym (ap (λ xs. ts ++ xs) one))
    (front_more ts (end_at zs (other_end e)).sent x p so.front (ap (slice_get (end_at zs (other_end e)).sent) so.counted ∙ next))

pub uses_so : (p : ℕ) (us : List (EndId × Use)) (zs : List Session) (e : EndId) (ts ss : List Passed) → So zs e ts ss → Taking zs e p us
    → So (after_uses p us zs) e (ts ++ uses_on e taken_by p us) (ss ++ uses_on (other_end e) sent_by p us)
uses_so p us zs e ts ss so taking = record {
  front = front_extends (ts ++ uses_on e taken_by p us) (end_at zs (other_end e)).sent (end_at (after_uses p us zs) (other_end e)).sent (uses_front p us zs e ts ss so taking) (end_at-after_uses_extends p us zs (other_end e));
  counted =
      omega (
        arith,
        so.counted,
        length-append ts (uses_on e taken_by p us),
        ap (λ (xs : List ℕ). length xs) (takers_after_uses p us zs e),
        length-append (end_at zs e).takers (map (λ x. x.by) (uses_on e taken_by p us)),
        length-map (uses_on e taken_by p us) (λ (x : Passed). x.by),
      );
  sent = sent_after_uses p us zs (other_end e) ∙ ap (λ ys. ys ++ uses_on (other_end e) sent_by p us) so.sent;
}

-- ---- what an act uses

module _ (p : ℕ) (t : SeatedWorld) where
  abbrev w : World
  w = t.world

  abbrev zs : List Session
  zs = w.sessions

  begun_takes_none : (e : EndId) (place : Place) (m : Msg) → uses_on e taken_by p (begun_by place m) ≡ []
  begun_takes_none e place (msgs.Sess s d k) = ap (λ xs. xs ++ []) (nothing_either_way (is_end e (side s d)))
  begun_takes_none e place (msgs.Int n) = refl
  begun_takes_none e place (msgs.Bool b) = refl
  begun_takes_none e place (msgs.Text n) = refl
  begun_takes_none e place (msgs.Label l) = refl
  begun_takes_none e place (msgs.More b) = refl

  -- an end by two names has one next message
  next_same : (e f : EndId) → is_end e f ≡ true → next_for zs f ≡ next_for zs e
  next_same e f it =
      let other : is_end (other_end f) (other_end e) ≡ true = others e f it in
      ap (λ (x : EndAt). slice_get x.sent (length (end_at zs f).takers)) (same_end_at zs (other_end f) (other_end e) other)
      ∙ ap (λ (x : EndAt). slice_get (end_at zs (other_end e)).sent (length x.takers)) (same_end_at zs f e (is_end_sym e f it))
    where
      sides : (c d : ℕ) → is_same_side c d ≡ true → is_same_side (other_side d) (other_side c) ≡ true
      sides zero zero h = refl
      sides zero (suc d) h = cc
      sides (suc c) zero h = cc
      sides (suc c) (suc d) h = refl

      others : (e f : EndId) → is_end e f ≡ true → is_end (other_end f) (other_end e) ≡ true
      others e f h =
          let parts = and_parts (e.sess == f.sess) (is_same_side e.side f.side) h in
          and_from (f.sess == e.sess) _ (eq-eqb f.sess e.sess (sym (eqb-true e.sess f.sess parts.0))) (sides e.side f.side parts.1)

  pub doing_taking : (e : EndId) (want : Want Place) (d : Doing) → doing_by p w want ≡ Some d → Taking zs e p d.uses
  doing_taking e wanted.ended d h = cc
  doing_taking e wanted.local d h = cc
  doing_taking e (wanted.requests place to) d h = by (nat_lt (length (w.requests p)) limit_of_requests) h
    where
      by : (b : Bool) → cond b (Some (requesting (opened_number p (length (w.requests p))) place to)) None ≡ Some d → Taking zs e p d.uses
      by true k =
          subst (λ (x : Doing). Taking zs e p x.uses) (let it : requesting (opened_number p (length (w.requests p))) place to ≡ d = cc in it)
          (none_taken (ap (λ xs. xs ++ (cond (is_end e (side (opened_number p (length (w.requests p))) 1)) [] [] ++ [])) (nothing_either_way (is_end e (side (opened_number p (length (w.requests p))) 0)))
          ∙ ap (λ xs. xs ++ []) (nothing_either_way (is_end e (side (opened_number p (length (w.requests p))) 1)))))
      by false k = cc
  doing_taking e (wanted.accepts place from) d h = by (first_offer p (w.requests from)) h
    where
      by : (o : Option ℕ) → option_map (accepting from place) o ≡ Some d → Taking zs e p d.uses
      by None k = cc
      by (Some j) k =
          subst (λ (x : Doing). Taking zs e p x.uses) (let it : accepting from place j ≡ d = cc in it) (none_taken (ap (λ xs. xs ++ []) (nothing_either_way (is_end e (side (opened_number from j) 1)))))
  doing_taking e (wanted.sends f m) d h =
      subst (λ (x : Doing). Taking zs e p x.uses) (let it : plain_doing None ((f, sends m) ∷ []) ≡ d = cc in it) (none_taken (ap (λ xs. xs ++ []) (nothing_either_way (is_end e f))))
  doing_taking e (wanted.delegates c f) d h = by (nat_lt (end_at zs f).hops 100) h
    where
      by : (b : Bool) → cond b (Some (plain_doing None ((f, delegates) ∷ (c, sends (session_message f p)) ∷ []))) None ≡ Some d → Taking zs e p d.uses
      by true k =
          subst (λ (x : Doing). Taking zs e p x.uses) (let it : plain_doing None ((f, delegates) ∷ (c, sends (session_message f p)) ∷ []) ≡ d = cc in it)
          (none_taken (ap (λ xs. xs ++ (cond (is_end e c) [] [] ++ [])) (nothing_either_way (is_end e f)) ∙ ap (λ xs. xs ++ []) (nothing_either_way (is_end e c))))
      by false k = cc
  doing_taking e (wanted.takes f place) d h = by (next_for zs f) refl h
    where
      by : (o : Option Passed) → next_for zs f ≡ o → option_map (λ (x : Passed). plain_doing (Some x.msg) ((f, takes x.msg) ∷ begun_by place x.msg)) o ≡ Some d → Taking zs e p d.uses
      by None next k = cc
      by (Some x) next k =
          subst (λ (y : Doing). Taking zs e p y.uses) (let it : plain_doing (Some x.msg) ((f, takes x.msg) ∷ begun_by place x.msg) ≡ d = cc in it)
          (elim (cases_Bool (is_end e f)) [
            | inl it ↦
                next_taken x (sym (next_same e f it) ∙ next)
                (ap (λ (b : Bool). cond b (record { msg = x.msg; by = p } ∷ []) [] ++ uses_on e taken_by p (begun_by place x.msg)) it ∙ ap (λ xs. record { msg = x.msg; by = p } ∷ xs) (begun_takes_none e place x.msg))
            | inr other ↦ none_taken (ap (λ (b : Bool). cond b (record { msg = x.msg; by = p } ∷ []) [] ++ uses_on e taken_by p (begun_by place x.msg)) other ∙ begun_takes_none e place x.msg)
          ])
  doing_taking e (wanted.closes f) d h = subst (λ (x : Doing). Taking zs e p x.uses) (let it : plain_doing None [] ≡ d = cc in it) (none_taken refl)

-- ---- at the start

-- nothing was sent or taken
pub fresh_at : (file : FileAt) (cs : List ConnectAt) (s d : ℕ) → ((unwrap_or (option_map (end_on d) (slice_get (map (session_of file) cs) s)) nowhere).sent ≡ []) × ((unwrap_or (option_map (end_on d) (slice_get (map (session_of file) cs) s)) nowhere).takers ≡ [])
fresh_at file [] s d = (refl, refl)
fresh_at file (c ∷ cs) zero zero = (refl, refl)
fresh_at file (c ∷ cs) zero (suc d) = (refl, refl)
fresh_at file (c ∷ cs) (suc s) d = fresh_at file cs s d
