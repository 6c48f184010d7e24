-- A delegation by the party, and an end that it takes, leave its world guarded.
use Rattle.std.proofs.Common.{◌≡◌, ◌≢◌, ℕ, ◌+◌, ◌≤◌, false, List, [], ◌∷◌, ◌++◌, Some, sum_by, ap, sym, ◌∙◌, subst, arith}
use Rattle.std.proofs.lemmas.Bool.{false_from_ne_true}
use Rattle.sj_base.specs.declared.EndId.{EndId}
use Rattle.sj_base.specs.declared.Msg.{Msg}
use Rattle.sj_base.specs.declared.Msg.TheVariants as msgs
use Rattle.sj_lang.specs.declared.proto.Way.TheVariants.{Out}
use Rattle.sj_lang.specs.After.{after_place}
use Rattle.sj_lang.specs.FileAt.{FileAt}
use Rattle.sj_lang.specs.Meet.{StandsFor}
use Rattle.sj_lang.specs.Place.{Place, done, message, session}
use Rattle.sj_semantics.specs.declared.Passed.{Passed}
use Rattle.sj_semantics.specs.Balanced.{FitsNext}
use Rattle.sj_semantics.specs.Ends.{Session, end_at, is_end, next_for, other_end}
use Rattle.sj_semantics.specs.Uses.{Use, begins, delegates, sends, takes}
use Rattle.sj_semantics.specs.World.{session_message}
use Rattle.sj_semantics_laws.specs.Unshared.{carried_in, names_end}
use Rattle.sj_semantics_laws.proofs.BoundLemmas.{is_end-self, is_end_sym_false}
use Rattle.sj_semantics_laws.proofs.ClaimLemmas.{carried-begins, carried-hands_on, carried-sends, carried-takes, one_if}
use Rattle.sj_semantics_laws.proofs.EndLemmas.{end_at-touched_other, touched}
use Rattle.sj_headline_laws.proofs.AfterLemmas.{AllPairs}
use Rattle.sj_headline_laws.proofs.BeginPairLemmas.{pair_begins}
use Rattle.sj_headline_laws.proofs.LeadLemmas.{pair_hands}
use Rattle.sj_headline_laws.proofs.TouchedLemmas.{side}
use Rattle.sj_headline_laws.proofs.UnnamedLemmas.{IsUncarried, hands_places, pairs_after}
use Rattle.sj_semantics.specs.World.{World}
use Rattle.sj_seat_laws.specs.Calls.{Ends, place_held, without_end}
use Rattle.sj_seat_laws.specs.SeatedWorld.{world_after}
use Rattle.sj_seat_laws.proofs.HeldLemmas.{holds, holds-push, holds-same, holds-without, holds-without_le}
use Rattle.sj_seat_laws.proofs.GuardLemmas.{Guarded, come_same, serves_sound}
use Rattle.sj_seat_laws.proofs.UseLemmas.{bound_apart, come_apart, sent_pairs, taken_pairs, uncarried, unclaimed}

module _ (file : FileAt) (p : ℕ) (w : World) (bs : Ends) (g : Guarded file w bs) where
  abbrev zs : List Session
  zs = w.sessions

  abbrev one_use : EndId → Use → List Session
  one_use e u = touched p zs (e, u)

  -- ---- delegating

  module _ (e y : EndId) (next kind own : Place) (cs : Ends) (same : (f : EndId) → holds f cs ≡ holds f bs) (named : place_held cs y ≡ Some own) (h : 1 ≤ holds e bs) (hy : 1 ≤ holds y bs) (other : is_end e y ≡ false)
      (carries : (end_at zs e).place ≡ message Out (session kind) next) (stands : StandsFor (end_at zs y).place kind) (full : kind ≢ done) where
    abbrev m : Msg
    m = session_message y p

    abbrev mid : List Session
    mid = one_use y delegates

    abbrev new : List Session
    new = touched p mid (e, sends m)

    handed : AllPairs mid
    handed = pairs_after p zs y delegates (uncarried file p w bs g y hy) g.sound.pairs (λ pair. pair_hands mid (end_at zs y) (end_at zs (other_end y)) p pair)

    at : (end_at mid e).place ≡ message Out (session kind) next
    at = hands_places p zs y e ∙ carries

    all_pairs : AllPairs new
    all_pairs =
        sent_pairs file p w bs g mid e m next (omega (arith, uncarried file p w bs g e h, carried-hands_on e p zs y)) handed (ap (λ p. after_place p Out m) at)
        (subst (λ (p : Place). FitsNext mid p m) (sym at) (full, subst (λ (p : Place). StandsFor p kind) (sym (hands_places p zs y y)) stands)) other

    less : (f : EndId) → sum_by (carried_in f) new ≤ sum_by (carried_in f) zs + one_if (is_end f y)
    less f = omega (arith, carried-hands_on f p zs y, carried-sends f p mid e m)

    unheld : (f : EndId) → holds f bs ≡ 0 → is_end f y ≡ false
    unheld f none = false_from_ne_true (is_end f y) (λ it. absurd (omega (arith, none, hy, holds-same f y bs it)))

    pub guards_delegate : Guarded file (world_after p ((y, delegates) ∷ (e, sends m) ∷ []) w) (without_end cs y)
    guards_delegate = record {
      sound = serves_sound file w new g.sound (record {
        pairs = all_pairs;
        claims = λ f. omega (arith, less f, g.once f, same f, holds-without f cs y own named);
        none_to_come = λ f come. omega (arith, less f, g.sound.unshared.to_come f come, ap {B = ℕ} one_if (unheld f (g.apart f come)));
        kept = λ f b.
            ap (λ x. x.place) (end_at-touched_other p mid (e, sends m) f (bound_apart file p w bs g e f h b)) ∙ ap (λ x. x.place) (end_at-touched_other p zs (y, delegates) f (bound_apart file p w bs g y f hy b));
        come = λ f come. end_at-touched_other p mid (e, sends m) f (come_apart file p w bs g e f h come) ∙ end_at-touched_other p zs (y, delegates) f (come_apart file p w bs g y f hy come);
      });
      once = λ f. omega (arith, less f, g.once f, same f, holds-without f cs y own named);
      apart = λ f come. omega (arith, g.apart f (come_same w new f come), same f, holds-without_le f cs y);
    }

  -- ---- taking an end

  module _ (e : EndId) (x : Passed) (next : next_for zs e ≡ Some x) (h : 1 ≤ holds e bs) (s d k : ℕ) (kind : Place) (cs : Ends) (same : (f : EndId) → holds f cs ≡ holds f bs) (is : x.msg ≡ msgs.Sess s d k) (stands : StandsFor (end_at zs (side s d)).place kind) where
    abbrev y : EndId
    y = side s d

    abbrev taken : List Session
    taken = one_use e (takes x.msg)

    abbrev begun : List Session
    begun = touched p taken (y, begins kind)

    -- whoever is named by the message is claimed by it alone
    weight : (f : EndId) → sum_by (carried_in f) taken + one_if (is_end f y) ≤ sum_by (carried_in f) zs
    weight f = omega (arith, carried-takes f p zs e x next, ap {B = ℕ} one_if (ap (names_end f) is))

    unnamed : (f : EndId) → sum_by (carried_in f) zs ≡ 0 → is_end y f ≡ false
    unnamed f none = is_end_sym_false f y (false_from_ne_true (is_end f y) (λ it. absurd (omega (arith, none, weight f, ap {B = ℕ} one_if it))))

    other : is_end e y ≡ false
    other = is_end_sym_false y e (unnamed e (omega (arith, unclaimed file p w bs g e h)))

    free : IsUncarried taken y
    free = omega (arith, g.once y, weight y, ap {B = ℕ} one_if (is_end-self y))

    kept_y : (end_at taken y).place ≡ (end_at zs y).place
    kept_y = ap (λ u. u.place) (end_at-touched_other p zs (e, takes x.msg) y other)

    begun_pairs : AllPairs begun
    begun_pairs =
        pairs_after p taken y (begins kind) free (taken_pairs file p w bs g e x next h)
        (λ pair. pair_begins begun (end_at taken y) (end_at taken (other_end y)) p kind pair (subst (λ (p : Place). StandsFor p kind) (sym kept_y) stands))

    fewer : (f : EndId) → sum_by (carried_in f) begun + one_if (is_end f y) ≤ sum_by (carried_in f) zs
    fewer f = omega (arith, weight f, carried-begins f p taken y kind)

    pub guards_take_end : Guarded file (world_after p ((e, takes x.msg) ∷ (y, begins kind) ∷ []) w) (cs ++ (y, kind) ∷ [])
    guards_take_end = record {
      sound = serves_sound file w begun g.sound (record {
        pairs = begun_pairs;
        claims = λ f. omega (arith, fewer f, g.sound.unshared.once f);
        none_to_come = λ f come. omega (arith, fewer f, g.sound.unshared.to_come f come);
        kept = λ f b.
            ap (λ u. u.place) (end_at-touched_other p taken (y, begins kind) f (unnamed f (omega (arith, b, g.sound.unshared.once f))))
            ∙ ap (λ u. u.place) (end_at-touched_other p zs (e, takes x.msg) f (bound_apart file p w bs g e f h b));
        come = λ f come.
            end_at-touched_other p taken (y, begins kind) f (unnamed f (omega (arith, g.sound.unshared.to_come f come)))
            ∙ end_at-touched_other p zs (e, takes x.msg) f (come_apart file p w bs g e f h come);
      });
      once = λ f. omega (arith, fewer f, g.once f, same f, holds-push f cs (y, kind));
      apart = λ f come.
          let c = come_same w begun f come in
          omega (arith, g.apart f c, same f, holds-push f cs (y, kind), fewer f, g.sound.unshared.to_come f c);
    }
