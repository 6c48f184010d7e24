-- A delegation by the played party, and an end that it takes, leave its world guarded.
use Rattle.std.proofs.Common.{◌≡◌, ◌≢◌, ℕ, ◌+◌, ◌≤◌, true, false, List, [], ◌∷◌, ◌++◌, Some, sum_by, ap, sym, ◌∙◌, subst, arith}
use Rattle.std.proofs.lemmas.Bool.{false_from_ne_true}
use Rattle.sj_base.specs.declared.EndId.{EndId}
use Rattle.sj_base.specs.declared.Msg.{Msg}
use Rattle.sj_base.specs.declared.Msg.TheVariants as msgs
use Rattle.sj_lang.specs.declared.proto.Way.TheVariants.{Out}
use Rattle.sj_lang.specs.After.{after_place}
use Rattle.sj_lang.specs.FileAt.{FileAt}
use Rattle.sj_lang.specs.Meet.{StandsFor}
use Rattle.sj_lang.specs.Place.{Place, done, message, session}
use Rattle.sj_semantics.specs.declared.Passed.{Passed}
use Rattle.sj_semantics.specs.Balanced.{FitsNext}
use Rattle.sj_semantics.specs.Ends.{Session, end_at, is_end, next_for, other_end}
use Rattle.sj_semantics.specs.Uses.{Use, begins, delegates, sends, takes}
use Rattle.sj_semantics.specs.World.{session_message}
use Rattle.sj_semantics_laws.specs.Unshared.{carried_in, names_end}
use Rattle.sj_semantics_laws.proofs.BoundLemmas.{is_end-self, is_end_sym_false}
use Rattle.sj_semantics_laws.proofs.ClaimLemmas.{carried-begins, carried-hands_on, carried-sends, carried-takes, one_if}
use Rattle.sj_semantics_laws.proofs.EndLemmas.{end_at-touched_other, touched}
use Rattle.sj_headline_laws.proofs.AfterLemmas.{AllPairs}
use Rattle.sj_headline_laws.proofs.BeginPairLemmas.{pair_begins}
use Rattle.sj_headline_laws.proofs.LeadLemmas.{pair_hands}
use Rattle.sj_headline_laws.proofs.TouchedLemmas.{side}
use Rattle.sj_headline_laws.proofs.UnnamedLemmas.{IsUncarried, hands_places, pairs_after}
use Rattle.sj_talk.specs.Doing.{used_by}
use Rattle.sj_talk.specs.Names.{end_named, ends_without}
use Rattle.sj_talk.specs.TalkWorld.{TalkWorld}
use Rattle.sj_talk.proofs.HeldLemmas.{holds, holds-push, holds-same, holds-without, holds-without_le}
use Rattle.sj_talk.proofs.GuardLemmas.{Guarded, bound_in}
use Rattle.sj_talk.proofs.ServeLemmas.{come_same, serves_sound}
use Rattle.sj_talk.proofs.UseLemmas.{bound_apart, come_apart, sent_pairs, taken_pairs, uncarried, unclaimed}

module _ (file : FileAt) (t : TalkWorld) (g : Guarded file t) where
  abbrev zs : List Session
  zs = t.world.sessions

  abbrev one_use : EndId → Use → List Session
  one_use e u = touched t.party zs (e, u)

  -- ---- delegating

  module _ (e y : EndId) (n : List ℕ) (next kind : Place) (h : 1 ≤ holds e t.ends) (named : end_named t.ends n ≡ Some y) (hy : 1 ≤ holds y t.ends) (other : is_end e y ≡ false)
      (carries : (end_at zs e).place ≡ message Out (session kind) next) (stands : StandsFor (end_at zs y).place kind) (full : kind ≢ done) where
    abbrev m : Msg
    m = session_message y t.party

    abbrev mid : List Session
    mid = one_use y delegates

    abbrev new : List Session
    new = touched t.party mid (e, sends m)

    handed : AllPairs mid
    handed = pairs_after t.party zs y delegates (uncarried file t g y hy) g.sound.pairs (λ pair. pair_hands mid (end_at zs y) (end_at zs (other_end y)) t.party pair)

    at : (end_at mid e).place ≡ message Out (session kind) next
    at = hands_places t.party zs y e ∙ carries

    all_pairs : AllPairs new
    all_pairs =
        sent_pairs file t g mid e m next (omega (arith, uncarried file t g e h, carried-hands_on e t.party zs y)) handed (ap (λ p. after_place p Out m) at)
        (subst (λ (p : Place). FitsNext mid p m) (sym at) (full, subst (λ (p : Place). StandsFor p kind) (sym (hands_places t.party zs y y)) stands)) other

    less : (f : EndId) → sum_by (carried_in f) new ≤ sum_by (carried_in f) zs + one_if (is_end f y)
    less f = omega (arith, carried-hands_on f t.party zs y, carried-sends f t.party mid e m)

    unheld : (f : EndId) → holds f t.ends ≡ 0 → is_end f y ≡ false
    unheld f none = false_from_ne_true (is_end f y) (λ it. absurd (omega (arith, none, hy, holds-same f y t.ends it)))

    bound_unheld : (f : EndId) → 1 ≤ bound_in f t.world → is_end f y ≡ false
    bound_unheld f b = unheld f (omega (arith, b, g.once f))

    pub guards_delegate : Guarded file (used_by t ((y, delegates) ∷ (e, sends m) ∷ []) (ends_without t.ends n))
    guards_delegate = record {
      sound = serves_sound file t.world new g.sound (record {
        pairs = all_pairs;
        claims = λ f. omega (arith, less f, g.once f, holds-without f t.ends n y named);
        none_to_come = λ f come. omega (arith, less f, g.sound.unshared.to_come f come, ap {B = ℕ} one_if (unheld f (g.apart f come)));
        kept = λ f b.
            ap (λ x. x.place) (end_at-touched_other t.party mid (e, sends m) f (bound_apart file t g e f h b)) ∙ ap (λ x. x.place) (end_at-touched_other t.party zs (y, delegates) f (bound_apart file t g y f hy b));
        come = λ f come. end_at-touched_other t.party mid (e, sends m) f (come_apart file t g e f h come) ∙ end_at-touched_other t.party zs (y, delegates) f (come_apart file t g y f hy come);
      });
      once = λ f. omega (arith, less f, g.once f, holds-without f t.ends n y named);
      apart = λ f come. omega (arith, g.apart f (come_same t.world new f come), holds-without_le f t.ends n);
    }

  -- ---- taking an end

  module _ (e : EndId) (x : Passed) (next : next_for zs e ≡ Some x) (h : 1 ≤ holds e t.ends) (n : List ℕ) (s d k : ℕ) (kind : Place) (is : x.msg ≡ msgs.Sess s d k) (stands : StandsFor (end_at zs (side s d)).place kind) where
    abbrev y : EndId
    y = side s d

    abbrev taken : List Session
    taken = one_use e (takes x.msg)

    abbrev begun : List Session
    begun = touched t.party taken (y, begins kind)

    named_it : names_end y x.msg ≡ true
    named_it = ap (names_end y) is ∙ is_end-self y

    -- whoever is named by the message is claimed by it alone
    weight : (f : EndId) → sum_by (carried_in f) taken + one_if (is_end f y) ≤ sum_by (carried_in f) zs
    weight f = omega (arith, carried-takes f t.party zs e x next, ap {B = ℕ} one_if (ap (names_end f) is))

    unnamed : (f : EndId) → sum_by (carried_in f) zs ≡ 0 → is_end y f ≡ false
    unnamed f none = is_end_sym_false f y (false_from_ne_true (is_end f y) (λ it. absurd (omega (arith, none, weight f, ap {B = ℕ} one_if it))))

    other : is_end e y ≡ false
    other = is_end_sym_false y e (unnamed e (omega (arith, unclaimed file t g e h)))

    free : IsUncarried taken y
    free = omega (arith, g.once y, weight y, ap {B = ℕ} one_if (is_end-self y))

    kept_y : (end_at taken y).place ≡ (end_at zs y).place
    kept_y = ap (λ u. u.place) (end_at-touched_other t.party zs (e, takes x.msg) y other)

    begun_pairs : AllPairs begun
    begun_pairs =
        pairs_after t.party taken y (begins kind) free (taken_pairs file t g e x next h)
        (λ pair. pair_begins begun (end_at taken y) (end_at taken (other_end y)) t.party kind pair (subst (λ (p : Place). StandsFor p kind) (sym kept_y) stands))

    fewer : (f : EndId) → sum_by (carried_in f) begun + one_if (is_end f y) ≤ sum_by (carried_in f) zs
    fewer f = omega (arith, weight f, carried-begins f t.party taken y kind)

    pub guards_take_end : Guarded file (used_by t ((e, takes x.msg) ∷ (y, begins kind) ∷ []) (t.ends ++ (n, y) ∷ []))
    guards_take_end = record {
      sound = serves_sound file t.world begun g.sound (record {
        pairs = begun_pairs;
        claims = λ f. omega (arith, fewer f, g.sound.unshared.once f);
        none_to_come = λ f come. omega (arith, fewer f, g.sound.unshared.to_come f come);
        kept = λ f b.
            ap (λ u. u.place) (end_at-touched_other t.party taken (y, begins kind) f (unnamed f (omega (arith, b, g.sound.unshared.once f))))
            ∙ ap (λ u. u.place) (end_at-touched_other t.party zs (e, takes x.msg) f (bound_apart file t g e f h b));
        come = λ f come.
            end_at-touched_other t.party taken (y, begins kind) f (unnamed f (omega (arith, g.sound.unshared.to_come f come)))
            ∙ end_at-touched_other t.party zs (e, takes x.msg) f (come_apart file t g e f h come);
      });
      once = λ f. omega (arith, fewer f, g.once f, holds-push f t.ends (n, y));
      apart = λ f come.
          let c = come_same t.world begun f come in
          omega (arith, g.apart f c, holds-push f t.ends (n, y), fewer f, g.sound.unshared.to_come f c);
    }
