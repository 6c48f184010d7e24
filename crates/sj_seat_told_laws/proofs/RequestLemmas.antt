-- What an act's note reports of the sessions that are opened is what the act does to requests.
use Rattle.std.proofs.Common.{◌≡◌, ℕ, zero, suc, ◌+◌, ◌<◌, ◌≤◌, ◌==◌, nat_lt, Bool, true, false, ◌||◌, cond, List, [], ◌∷◌, ◌++◌, length, slice_get, Option, Some, None, is_some, option_map, option_and_then, append-nil, refl, ap, sym, ◌∙◌, subst, arith, inl, inr}
use Rattle.std.proofs.lemmas.Bool.{eq-eqb, eqb-true, ne_eqb}
use Rattle.std.proofs.lemmas.Bool.Decides.{eqb_tells}
use Rattle.sj_base.specs.declared.Msg.{Msg}
use Rattle.sj_lang.specs.FileAt.{body_named}
use Rattle.sj_lang.specs.Place.{Place}
use Rattle.sj_semantics.specs.declared.Passed.{Passed}
use Rattle.sj_semantics.specs.declared.Want.{Want}
use Rattle.sj_semantics.specs.declared.Want.TheVariants as wants
use Rattle.sj_semantics.specs.Ends.{end_at, limit_of_hops, next_for}
use Rattle.sj_semantics.specs.Program.{Program}
use Rattle.sj_semantics.specs.Requests as openings
use Rattle.sj_semantics.specs.Requests.{Opening, Request, accepted_as, after_opening, first_offer, limit_of_requests, opened_number}
use Rattle.sj_semantics.specs.Steps.{closed_of, local_of, sent_of}
use Rattle.sj_semantics.specs.Uses.{altered_list, delegates, sends}
use Rattle.sj_semantics.specs.Wants.{want_of}
use Rattle.sj_semantics.specs.World.{Change, World, act_of, change_by, change_by_accepting, change_by_opening, change_by_taking, plain_change, session_message}
use Rattle.sj_semantics_laws.proofs.AlteredLemmas.{slice_get-altered, slice_get-altered_other}
use Rattle.sj_semantics_laws.proofs.ChangeLemmas.{rests_on}
use Rattle.sj_semantics_laws.proofs.CommuteLemmas as acting
use Rattle.sj_semantics_laws.proofs.ToComeLemmas.{below_by_get, first_is_offer, opened_number_same}
use Rattle.sj_headline_laws.specs.Headline.{next_step}
use Rattle.sj_rules.specs.Log as notes
use Rattle.sj_rules.specs.Log.{NoteAt}
use Rattle.sj_rules_laws.specs.TiedNotes.{IsOfFrame, note_of}
use Rattle.sj_rules_laws.proofs.ToldLemmas.{by_option, by_test, same_note}
use Rattle.sj_seat_told_laws.specs.SeatsOpened.{RequestTold, is_accept_of, request_told}

-- ---- requests as they are reported

-- the party's, from its number k on
abbrev pub numbered : ℕ → ℕ → List Request → List RequestTold
numbered a k [] = []
numbered a k (r ∷ rs) = record { sess = opened_number a k; to = r.to } ∷ numbered a (k + 1) rs

-- the one of that number is there and was accepted
abbrev pub was_accepted : Option Request → Bool
was_accepted None = false
was_accepted (Some r) = is_some r.second

abbrev pub accepted_at : List Request → ℕ → Bool
accepted_at rs k = was_accepted (slice_get rs k)

-- the world has requests more, and accepted ones more, by what that party's note reports
pub record Opens (w : World) (p : ℕ) (note : NoteAt) (v : World) : Type 0 where
  pub requested : (a : ℕ) → numbered a 0 (v.requests a) ≡ numbered a 0 (w.requests a) ++ request_told a p note
  pub accepted : (a k : ℕ) → k < limit_of_requests → accepted_at (v.requests a) k ≡ accepted_at (w.requests a) k || is_accept_of (opened_number a k) note

-- ---- one more, or one accepted

-- one session
abbrev told_as : (sess to : ℕ) → List RequestTold
told_as s to = record { sess = s; to = to } ∷ []

numbered_more : (a k : ℕ) (rs : List Request) (r : Request) → numbered a k (rs ++ r ∷ []) ≡ numbered a k rs ++ record { sess = opened_number a (k + length rs); to = r.to } ∷ []
numbered_more a k [] r = ap (λ (n : ℕ). told_as (opened_number a n) r.to) (let e : k ≡ k + 0 = omega arith in e)
numbered_more a k (x ∷ rs) r =
    let e : k + 1 + length rs ≡ k + suc (length rs) = omega arith in
    ap (λ (l : List RequestTold). record { sess = opened_number a k; to = x.to } ∷ l)
    (numbered_more a (k + 1) rs r ∙ ap (λ (n : ℕ). numbered a (k + 1) rs ++ record { sess = opened_number a n; to = r.to } ∷ []) e)

numbered_altered : (a k : ℕ) (rs : List Request) (j y : ℕ) → numbered a k (altered_list rs j (accepted_as y)) ≡ numbered a k rs
numbered_altered a k [] j y = refl
numbered_altered a k (x ∷ rs) zero y = refl
numbered_altered a k (x ∷ rs) (suc j) y = ap (λ (l : List RequestTold). record { sess = opened_number a k; to = x.to } ∷ l) (numbered_altered a (k + 1) rs j y)

accepted_more : (rs : List Request) (r : Request) (k : ℕ) → r.second ≡ None → accepted_at (rs ++ r ∷ []) k ≡ accepted_at rs k
accepted_more [] r zero none = ap is_some none
accepted_more [] r (suc k) none = refl
accepted_more (x ∷ rs) r zero none = refl
accepted_more (x ∷ rs) r (suc k) none = accepted_more rs r k none

accepted_here : (rs : List Request) (k y : ℕ) (r : Request) → slice_get rs k ≡ Some r → accepted_at (altered_list rs k (accepted_as y)) k ≡ true
accepted_here rs k y r there = ap was_accepted (slice_get-altered rs k (accepted_as y) ∙ ap (option_map (accepted_as y)) there)

pub or_false : (b : Bool) → b ≡ b || false
or_false true = refl
or_false false = refl

or_true : (b : Bool) → true ≡ b || true
or_true true = refl
or_true false = refl

-- ---- what a note says of an opening

-- it reports no session that is opened or accepted
abbrev pub Silent : ℕ → NoteAt → Type 0
Silent p note = ((a : ℕ) → request_told a p note ≡ []) × ((s : ℕ) → is_accept_of s note ≡ false)

abbrev pub Says : World → ℕ → Opening → NoteAt → Type 0
Says w p openings.no_opening note = Silent p note
Says w p (openings.requests r) note = (note ≡ notes.Request (opened_number p (length (w.requests p))) r.to) × (r.second ≡ None)
Says w p (openings.accepts b k y) note = (note ≡ notes.Accept (opened_number b k) b) × (first_offer p (w.requests b) ≡ Some k)

module _ (w : World) (p : ℕ) (few : (a : ℕ) → length (w.requests a) ≤ limit_of_requests) where
  module _ (r : Request) (none : r.second ≡ None) where
    abbrev made : NoteAt
    made = notes.Request (opened_number p (length (w.requests p))) r.to

    made_requested : (a : ℕ) → numbered a 0 (after_opening p (openings.requests r) w.requests a) ≡ numbered a 0 (w.requests a) ++ request_told a p made
    made_requested a = by (a == p) refl
      where
        by : (b : Bool) → (a == p) ≡ b → numbered a 0 (cond b (w.requests a ++ r ∷ []) (w.requests a)) ≡ numbered a 0 (w.requests a) ++ cond b (record { sess = opened_number p (length (w.requests p)); to = r.to } ∷ []) []
        by true is =
            let same : opened_number a (0 + length (w.requests a)) ≡ opened_number p (length (w.requests p)) =
            ap (λ (n : ℕ). opened_number a n) (let e : 0 + length (w.requests a) ≡ length (w.requests a) = omega arith in e) ∙ ap (λ (q : ℕ). opened_number q (length (w.requests q))) (eqb-true a p is) in
            numbered_more a 0 (w.requests a) r ∙ ap (λ (n : ℕ). numbered a 0 (w.requests a) ++ record { sess = n; to = r.to } ∷ []) same
        by false is = sym (append-nil (numbered a 0 (w.requests a)))

    made_accepted : (a k : ℕ) → accepted_at (after_opening p (openings.requests r) w.requests a) k ≡ accepted_at (w.requests a) k || false
    made_accepted a k = by (a == p)
      where
        by : (b : Bool) → accepted_at (cond b (w.requests a ++ r ∷ []) (w.requests a)) k ≡ accepted_at (w.requests a) k || false
        by true = accepted_more (w.requests a) r k none ∙ or_false (accepted_at (w.requests a) k)
        by false = or_false (accepted_at (w.requests a) k)

  module _ (b j y : ℕ) (first : first_offer p (w.requests b) ≡ Some j) where
    taken_requested : (a : ℕ) → numbered a 0 (after_opening p (openings.accepts b j y) w.requests a) ≡ numbered a 0 (w.requests a) ++ []
    taken_requested a = by (a == b)
      where
        by : (c : Bool) → numbered a 0 (cond c (altered_list (w.requests a) j (accepted_as y)) (w.requests a)) ≡ numbered a 0 (w.requests a) ++ []
        by true = numbered_altered a 0 (w.requests a) j y ∙ sym (append-nil (numbered a 0 (w.requests a)))
        by false = sym (append-nil (numbered a 0 (w.requests a)))

    -- it is one of the party's first hundred
    low : j < limit_of_requests
    low = let it = first_is_offer p (w.requests b) j first in let below = below_by_get (w.requests b) j it.0 it.1 in let most : length (w.requests b) ≤ 100 = few b in omega (arith, below, most)

    taken_accepted : (a k : ℕ) → k < limit_of_requests → accepted_at (after_opening p (openings.accepts b j y) w.requests a) k ≡ accepted_at (w.requests a) k || (opened_number b j == opened_number a k)
    taken_accepted a k lt = by (a == b) refl
      where
        otherwise : (opened_number b j ≡ opened_number a k → ⊥) → accepted_at (w.requests a) k ≡ accepted_at (w.requests a) k || (opened_number b j == opened_number a k)
        otherwise ne = or_false (accepted_at (w.requests a) k) ∙ ap (λ (c : Bool). accepted_at (w.requests a) k || c) (sym (ne_eqb (opened_number b j) (opened_number a k) ne))

        by : (c : Bool) → (a == b) ≡ c → accepted_at (cond c (altered_list (w.requests a) j (accepted_as y)) (w.requests a)) k ≡ accepted_at (w.requests a) k || (opened_number b j == opened_number a k)
        by true is =
            elim (eqb_tells k j) [
              | inl same ↦
                  let it = first_is_offer p (w.requests b) j first in
                  let there : slice_get (w.requests a) j ≡ Some it.0 = ap (λ (q : ℕ). slice_get (w.requests q) j) (eqb-true a b is) ∙ it.1 in
                  let numbers : opened_number b j ≡ opened_number a k = ap (λ (q : ℕ). opened_number q j) (sym (eqb-true a b is)) ∙ ap (opened_number a) (sym same.1) in
                  ap (accepted_at (altered_list (w.requests a) j (accepted_as y))) same.1 ∙ accepted_here (w.requests a) j y it.0 there ∙ or_true (accepted_at (w.requests a) k)
                  ∙ ap (λ (c : Bool). accepted_at (w.requests a) k || c) (sym (eq-eqb (opened_number b j) (opened_number a k) numbers))
              | inr other ↦
                  ap was_accepted (slice_get-altered_other (w.requests a) j k (accepted_as y) (λ e. other.1 (sym e)))
                  ∙ otherwise (λ e. other.1 (sym (opened_number_same b a j k low lt e).1))
            ]
        by false is = otherwise (λ e. let same = opened_number_same b a j k low lt e in let clash : false ≡ true = sym is ∙ eq-eqb a b (sym same.0) in absurd (cc clash))

  -- what the note says of the opening is what the opening adds
  pub opens_by : (v : World) (o : Opening) (note : NoteAt) → ((a : ℕ) → v.requests a ≡ after_opening p o w.requests a) → Says w p o note → Opens w p note v
  opens_by v openings.no_opening note is says = record {
    requested = λ a. ap (numbered a 0) (is a) ∙ sym (append-nil (numbered a 0 (w.requests a))) ∙ ap (λ (l : List RequestTold). numbered a 0 (w.requests a) ++ l) (sym (says.0 a));
    accepted = λ a k lt. ap (λ (rs : List Request). accepted_at rs k) (is a) ∙ or_false (accepted_at (w.requests a) k) ∙ ap (λ (c : Bool). accepted_at (w.requests a) k || c) (sym (says.1 (opened_number a k)));
  }
  opens_by v (openings.requests r) note is says = subst (λ (n : NoteAt). Opens w p n v) (sym says.0) (record {
    requested = λ a. ap (numbered a 0) (is a) ∙ made_requested r says.1 a;
    accepted = λ a k lt. ap (λ (rs : List Request). accepted_at rs k) (is a) ∙ made_accepted r says.1 a k;
  })
  opens_by v (openings.accepts b j y) note is says = subst (λ (n : NoteAt). Opens w p n v) (sym says.0) (record {
    requested = λ a. ap (numbered a 0) (is a) ∙ taken_requested b j y says.1 a;
    accepted = λ a k lt. ap (λ (rs : List Request). accepted_at rs k) (is a) ∙ taken_accepted b j y says.1 a k lt;
  })

-- ---- frames

pub frames_are_silent : (p : ℕ) (note : NoteAt) → IsOfFrame note → Silent p note
frames_are_silent p (notes.Carry to conn number taken msg) h = (λ a. refl, λ s. refl)
frames_are_silent p (notes.Fin to conn number) h = (λ a. refl, λ s. refl)
frames_are_silent p (notes.Claim of) h = (λ a. refl, λ s. refl)
frames_are_silent p (notes.Signal to conn party taken) h = (λ a. refl, λ s. refl)
frames_are_silent p (notes.Ack of conn) h = (λ a. refl, λ s. refl)
frames_are_silent p (notes.Give of conn peer sent taken base resend) h = (λ a. refl, λ s. refl)
frames_are_silent p (notes.Open sess) h = (λ a. refl, λ s. refl)
frames_are_silent p notes.Local h = absurd h
frames_are_silent p (notes.Sent e m) h = absurd h
frames_are_silent p (notes.Took e m) h = absurd h
frames_are_silent p (notes.Shut e) h = absurd h
frames_are_silent p (notes.Request sess to) h = absurd h
frames_are_silent p (notes.Accept sess from) h = absurd h

-- ---- a party that goes by the file

noted_silent : {X : Type 0} (p : ℕ) (noted : X → NoteAt) (o : Option X) (note : NoteAt) → ((x : X) → Silent p (noted x)) → option_map noted o ≡ Some note → Silent p note
noted_silent p noted None note each h = cc
noted_silent p noted (Some x) note each h = subst (Silent p) (same_note (noted x) note h) (each x)

module _ (w : World) (p : ℕ) (g : Program) where
  abbrev SaysOf : NoteAt → Change → Type 0
  SaysOf note c = Says w p c.opening note

  silent_so : (other note : NoteAt) → Silent p other → Some other ≡ Some note → Silent p note
  silent_so other note silent h = subst (Silent p) (same_note other note h) silent

  change_says : (want : Want) (c : Change) (note : NoteAt) → change_by w p g want ≡ Some c → note_of w p want ≡ Some note → Says w p c.opening note
  change_says wants.Ended c note made noted = cc
  change_says wants.Local c note made noted = by_test (SaysOf note) true (plain_change (local_of g) []) c (silent_so notes.Local note (λ a. refl, λ s. refl) noted) made
  change_says (wants.Send f m) c note made noted = by_test (SaysOf note) true (plain_change (sent_of g) ((f, sends m) ∷ [])) c (silent_so (notes.Sent f m) note (λ a. refl, λ s. refl) noted) made
  change_says (wants.Delegate f y) c note made noted =
      by_test (SaysOf note) (nat_lt (end_at w.sessions y).hops limit_of_hops) (plain_change (sent_of g) ((y, delegates) ∷ (f, sends (session_message y p)) ∷ [])) c
      (silent_so (notes.Sent f (session_message y p)) note (λ a. refl, λ s. refl) noted) made
  change_says (wants.Take f k) c note made noted =
      by_option (change_by_taking w.protocols g f k) (SaysOf note) (next_for w.sessions f) c
      (λ x next. noted_silent p (λ (y : Passed). notes.Took f y.msg) (next_for w.sessions f) note (λ y. (λ a. refl, λ s. refl)) noted) made
  change_says (wants.Close f) c note made noted = by_test (SaysOf note) true (plain_change (closed_of g) []) c (silent_so (notes.Shut f) note (λ a. refl, λ s. refl) noted) made
  change_says (wants.Request n q) c note made noted =
      by_test (SaysOf note) (nat_lt (length (w.requests p)) limit_of_requests) (change_by_opening g (opened_number p (length (w.requests p))) (body_named w.protocols n) q) c
      (sym (same_note (notes.Request (opened_number p (length (w.requests p))) q) note noted), refl) made
  change_says (wants.Accept n q) c note made noted =
      by_option (change_by_accepting g q (body_named w.protocols n)) (SaysOf note) (first_offer p (w.requests q)) c
      (λ k first. (sym (same_note (notes.Accept (opened_number q k) q) note (sym (ap (option_map (λ (i : ℕ). notes.Accept (opened_number q i) q)) first) ∙ noted)), first)) made

pub file_opens : (w v : World) (p : ℕ) (note : NoteAt) → ((a : ℕ) → length (w.requests a) ≤ limit_of_requests) → act_of w p ≡ Some v → option_and_then (note_of w p) (next_step w p) ≡ Some note → Opens w p note v
file_opens w v p note few acted noted =
    let a = acting.doing_of w p v acted in
    let r = rests_on w p a.program a.change a.made in
    let there : next_step w p ≡ Some r.want = ap (option_and_then want_of) a.there ∙ r.wants_it in
    let of_it : note_of w p r.want ≡ Some note = sym (ap (option_and_then (note_of w p)) there) ∙ noted in
    opens_by w p few v a.change.opening note (λ b. ap (λ (x : World). x.requests b) (sym a.result)) (change_says w p a.program r.want a.change note r.by_it of_it)
