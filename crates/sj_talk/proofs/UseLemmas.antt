-- One use of an end that the played party holds, and a close, leave its world guarded.
use Rattle.std.proofs.Common.{◌≡◌, ℕ, ◌≤◌, false, List, [], ◌∷◌, Some, sum_by, refl, ap, arith}
use Rattle.std.proofs.lemmas.Bool.{false_from_ne_true}
use Rattle.sj_base.specs.declared.EndId.{EndId}
use Rattle.sj_base.specs.declared.Msg.{Msg}
use Rattle.sj_lang.specs.declared.proto.Way.TheVariants.{Out}
use Rattle.sj_lang.specs.After.{after_place}
use Rattle.sj_lang.specs.FileAt.{FileAt}
use Rattle.sj_lang.specs.Place.{Place}
use Rattle.sj_semantics.specs.declared.Passed.{Passed}
use Rattle.sj_semantics.specs.Balanced.{FitsNext}
use Rattle.sj_semantics.specs.Ends.{Session, end_at, is_end, next_for, other_end}
use Rattle.sj_semantics.specs.Uses.{Use, sends, takes}
use Rattle.sj_semantics_laws.specs.Unshared.{IsToCome, carried_in, claims_on, names_end}
use Rattle.sj_semantics_laws.proofs.BoundLemmas.{is_end_sym}
use Rattle.sj_semantics_laws.proofs.ClaimLemmas.{carried-sends, carried-takes, one_if}
use Rattle.sj_semantics_laws.proofs.EndLemmas.{end_at-touched_other, touched}
use Rattle.sj_headline_laws.proofs.AfterLemmas.{AllPairs}
use Rattle.sj_headline_laws.proofs.LeadLemmas.{pair_sends, pair_takes}
use Rattle.sj_headline_laws.proofs.PairLemmas.{fits_kept}
use Rattle.sj_headline_laws.proofs.UnnamedLemmas.{IsUncarried, keeps_by_name, pairs_after}
use Rattle.sj_talk.specs.Doing.{used_by}
use Rattle.sj_talk.specs.Names.{ends_without}
use Rattle.sj_talk.specs.TalkWorld.{TalkWorld}
use Rattle.sj_talk.proofs.HeldLemmas.{holds, holds-same, holds-without_le}
use Rattle.sj_talk.proofs.GuardLemmas.{Guarded, bound_in}
use Rattle.sj_talk.proofs.ServeLemmas.{Serves, come_same, serves_sound}

module _ (file : FileAt) (t : TalkWorld) (g : Guarded file t) where
  abbrev zs : List Session
  zs = t.world.sessions

  -- nobody else claims an end that is held
  pub unclaimed : (e : EndId) → 1 ≤ holds e t.ends → claims_on e t.world ≡ 0
  unclaimed e h = omega (arith, g.once e, h)

  pub uncarried : (e : EndId) → 1 ≤ holds e t.ends → IsUncarried zs e
  uncarried e h = omega (arith, unclaimed e h)

  -- an end that is bound elsewhere is another
  pub bound_apart : (e f : EndId) → 1 ≤ holds e t.ends → 1 ≤ bound_in f t.world → is_end e f ≡ false
  bound_apart e f h b = false_from_ne_true (is_end e f) (λ it. absurd (omega (arith, h, b, g.once f, holds-same f e t.ends (is_end_sym e f it))))

  -- and so is one that is to come
  pub come_apart : (e f : EndId) → 1 ≤ holds e t.ends → IsToCome t.world f → is_end e f ≡ false
  come_apart e f h come = false_from_ne_true (is_end e f) (λ it. absurd (omega (arith, h, g.apart f come, holds-same f e t.ends (is_end_sym e f it))))

  -- one use of such an end, which makes no claim
  abbrev one_use : EndId → Use → List Session
  one_use e u = touched t.party zs (e, u)

  serves_one : (e : EndId) (u : Use) → 1 ≤ holds e t.ends → AllPairs (one_use e u) → ((f : EndId) → sum_by (carried_in f) (one_use e u) ≤ sum_by (carried_in f) zs) → Serves t.world (one_use e u)
  serves_one e u h pairs less = record {
    pairs = pairs;
    claims = λ f. omega (arith, less f, g.sound.unshared.once f);
    none_to_come = λ f come. omega (arith, less f, g.sound.unshared.to_come f come);
    kept = λ f b. ap (λ x. x.place) (end_at-touched_other t.party zs (e, u) f (bound_apart e f h b));
    come = λ f come. end_at-touched_other t.party zs (e, u) f (come_apart e f h come);
  }

  guards_one : (e : EndId) (u : Use) → 1 ≤ holds e t.ends → AllPairs (one_use e u) → ((f : EndId) → sum_by (carried_in f) (one_use e u) ≤ sum_by (carried_in f) zs) → Guarded file (used_by t ((e, u) ∷ []) t.ends)
  guards_one e u h pairs less = record {
    sound = serves_sound file t.world (one_use e u) g.sound (serves_one e u h pairs less);
    once = λ f. omega (arith, less f, g.once f);
    apart = λ f come. g.apart f (come_same t.world (one_use e u) f come);
  }

  -- ---- sending

  pub sent_pairs : (ys : List Session) (e : EndId) (m : Msg) (next : Place) → IsUncarried ys e → AllPairs ys → after_place (end_at ys e).place Out m ≡ Some next → FitsNext ys (end_at ys e).place m → names_end e m ≡ false
      → AllPairs (touched t.party ys (e, sends m))
  sent_pairs ys e m next none pairs after fits other =
      pairs_after t.party ys e (sends m) none pairs (λ pair.
      pair_sends (touched t.party ys (e, sends m)) (end_at ys e) (end_at ys (other_end e)) t.party m next pair after
      (fits_kept ys (touched t.party ys (e, sends m)) (end_at ys e).place m (keeps_by_name t.party ys e (sends m) m other) fits))

  -- a message that names no end
  pub guards_send : (e : EndId) (m : Msg) (next : Place) → 1 ≤ holds e t.ends → after_place (end_at zs e).place Out m ≡ Some next → FitsNext zs (end_at zs e).place m → ((f : EndId) → names_end f m ≡ false)
      → Guarded file (used_by t ((e, sends m) ∷ []) t.ends)
  guards_send e m next h after fits other =
      guards_one e (sends m) h (sent_pairs zs e m next (uncarried e h) g.sound.pairs after fits (other e))
      (λ f. omega (arith, carried-sends f t.party zs e m, ap {B = ℕ} one_if (other f)))

  -- ---- taking

  pub taken_pairs : (e : EndId) (x : Passed) → next_for zs e ≡ Some x → 1 ≤ holds e t.ends → AllPairs (one_use e (takes x.msg))
  taken_pairs e x next h =
      pairs_after t.party zs e (takes x.msg) (uncarried e h) g.sound.pairs (λ pair. pair_takes (one_use e (takes x.msg)) (end_at zs e) (end_at zs (other_end e)) t.party x pair next)

  pub guards_take : (e : EndId) (x : Passed) → next_for zs e ≡ Some x → 1 ≤ holds e t.ends → Guarded file (used_by t ((e, takes x.msg) ∷ []) t.ends)
  guards_take e x next h = guards_one e (takes x.msg) h (taken_pairs e x next h) (λ f. omega (arith, carried-takes f t.party zs e x next))

  -- ---- closing

  pub guards_close : (n : List ℕ) → Guarded file (used_by t [] (ends_without t.ends n))
  guards_close n = record {
    sound = serves_sound file t.world zs g.sound (record {
      pairs = g.sound.pairs;
      claims = λ e. omega (arith, g.sound.unshared.once e);
      none_to_come = λ e come. omega (arith, g.sound.unshared.to_come e come);
      kept = λ f b. refl;
      come = λ f come. refl;
    });
    once = λ e. omega (arith, g.once e, holds-without_le e t.ends n);
    apart = λ e come. omega (arith, g.apart e (come_same t.world zs e come), holds-without_le e t.ends n);
  }
