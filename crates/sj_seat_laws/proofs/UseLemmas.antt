-- One use of an end that the party holds, and a close, leave its world guarded.
use Rattle.std.proofs.Common.{◌≡◌, ℕ, ◌≤◌, false, List, [], ◌∷◌, Some, sum_by, refl, ap, arith}
use Rattle.std.proofs.lemmas.Bool.{false_from_ne_true}
use Rattle.sj_base.specs.declared.EndId.{EndId}
use Rattle.sj_base.specs.declared.Msg.{Msg}
use Rattle.sj_lang.specs.declared.proto.Way.TheVariants.{Into, Out}
use Rattle.sj_lang.specs.After.{after_place}
use Rattle.sj_lang.specs.FileAt.{FileAt}
use Rattle.sj_lang.specs.Place.{Place}
use Rattle.sj_semantics.specs.declared.Passed.{Passed}
use Rattle.sj_semantics.specs.Balanced.{FitsNext}
use Rattle.sj_semantics.specs.Ends.{Session, end_at, is_end, next_for, other_end}
use Rattle.sj_semantics.specs.Uses.{Use, sends, takes}
use Rattle.sj_semantics.specs.World.{World}
use Rattle.sj_semantics_laws.specs.Unshared.{IsToCome, carried_in, claims_on, names_end}
use Rattle.sj_semantics_laws.proofs.BoundLemmas.{is_end_sym}
use Rattle.sj_semantics_laws.proofs.ClaimLemmas.{carried-sends, carried-takes, one_if}
use Rattle.sj_semantics_laws.proofs.EndLemmas.{end_at-touched_other, touched}
use Rattle.sj_headline_laws.proofs.AfterLemmas.{AllPairs}
use Rattle.sj_headline_laws.proofs.LeadLemmas.{pair_sends, pair_takes}
use Rattle.sj_headline_laws.proofs.PairLemmas.{fits_kept}
use Rattle.sj_headline_laws.proofs.UnnamedLemmas.{IsUncarried, keeps_by_name, pairs_after}
use Rattle.sj_seat_laws.specs.Calls.{Ends, moved, without_end}
use Rattle.sj_seat_laws.specs.SeatedWorld.{world_after}
use Rattle.sj_seat_laws.proofs.HeldLemmas.{holds, holds-moved, holds-same, holds-without_le}
use Rattle.sj_seat_laws.proofs.GuardLemmas.{Guarded, Serves, bound_in, come_same, serves_sound}

module _ (file : FileAt) (p : ℕ) (w : World) (bs : Ends) (g : Guarded file w bs) where
  abbrev zs : List Session
  zs = w.sessions

  -- nobody else claims an end that is held
  pub unclaimed : (e : EndId) → 1 ≤ holds e bs → claims_on e w ≡ 0
  unclaimed e h = omega (arith, g.once e, h)

  pub uncarried : (e : EndId) → 1 ≤ holds e bs → IsUncarried zs e
  uncarried e h = omega (arith, unclaimed e h)

  -- an end that is bound elsewhere is another
  pub bound_apart : (e f : EndId) → 1 ≤ holds e bs → 1 ≤ bound_in f w → is_end e f ≡ false
  bound_apart e f h b = false_from_ne_true (is_end e f) (λ it. absurd (omega (arith, h, b, g.once f, holds-same f e bs (is_end_sym e f it))))

  -- and so is one that is to come
  pub come_apart : (e f : EndId) → 1 ≤ holds e bs → IsToCome w f → is_end e f ≡ false
  come_apart e f h come = false_from_ne_true (is_end e f) (λ it. absurd (omega (arith, h, g.apart f come, holds-same f e bs (is_end_sym e f it))))

  -- one use of such an end, which makes no claim
  abbrev one_use : EndId → Use → List Session
  one_use e u = touched p zs (e, u)

  serves_one : (e : EndId) (u : Use) → 1 ≤ holds e bs → AllPairs (one_use e u) → ((f : EndId) → sum_by (carried_in f) (one_use e u) ≤ sum_by (carried_in f) zs) → Serves w (one_use e u)
  serves_one e u h pairs less = record {
    pairs = pairs;
    claims = λ f. omega (arith, less f, g.sound.unshared.once f);
    none_to_come = λ f come. omega (arith, less f, g.sound.unshared.to_come f come);
    kept = λ f b. ap (λ x. x.place) (end_at-touched_other p zs (e, u) f (bound_apart e f h b));
    come = λ f come. end_at-touched_other p zs (e, u) f (come_apart e f h come);
  }

  guards_one : (e : EndId) (u : Use) (cs : Ends) → ((f : EndId) → holds f cs ≡ holds f bs) → 1 ≤ holds e bs → AllPairs (one_use e u)
      → ((f : EndId) → sum_by (carried_in f) (one_use e u) ≤ sum_by (carried_in f) zs) → Guarded file (world_after p ((e, u) ∷ []) w) cs
  guards_one e u cs same h pairs less = record {
    sound = serves_sound file w (one_use e u) g.sound (serves_one e u h pairs less);
    once = λ f. omega (arith, less f, g.once f, same f);
    apart = λ f come. omega (arith, same f, g.apart f (come_same w (one_use e u) f come));
  }

  -- ---- sending

  pub sent_pairs : (ys : List Session) (e : EndId) (m : Msg) (next : Place) → IsUncarried ys e → AllPairs ys → after_place (end_at ys e).place Out m ≡ Some next → FitsNext ys (end_at ys e).place m → names_end e m ≡ false
      → AllPairs (touched p ys (e, sends m))
  sent_pairs ys e m next none pairs after fits other =
      pairs_after p ys e (sends m) none pairs (λ pair.
      pair_sends (touched p ys (e, sends m)) (end_at ys e) (end_at ys (other_end e)) p m next pair after
      (fits_kept ys (touched p ys (e, sends m)) (end_at ys e).place m (keeps_by_name p ys e (sends m) m other) fits))

  -- a message that names no end
  pub guards_send : (e : EndId) (m : Msg) (next : Place) → 1 ≤ holds e bs → after_place (end_at zs e).place Out m ≡ Some next → FitsNext zs (end_at zs e).place m → ((f : EndId) → names_end f m ≡ false)
      → Guarded file (world_after p ((e, sends m) ∷ []) w) (moved bs e Out m)
  guards_send e m next h after fits other =
      guards_one e (sends m) (moved bs e Out m) (λ f. holds-moved f bs e Out m) h (sent_pairs zs e m next (uncarried e h) g.sound.pairs after fits (other e))
      (λ f. omega (arith, carried-sends f p zs e m, ap {B = ℕ} one_if (other f)))

  -- ---- taking

  pub taken_pairs : (e : EndId) (x : Passed) → next_for zs e ≡ Some x → 1 ≤ holds e bs → AllPairs (one_use e (takes x.msg))
  taken_pairs e x next h =
      pairs_after p zs e (takes x.msg) (uncarried e h) g.sound.pairs (λ pair. pair_takes (one_use e (takes x.msg)) (end_at zs e) (end_at zs (other_end e)) p x pair next)

  pub guards_take : (e : EndId) (x : Passed) → next_for zs e ≡ Some x → 1 ≤ holds e bs → Guarded file (world_after p ((e, takes x.msg) ∷ []) w) (moved bs e Into x.msg)
  guards_take e x next h = guards_one e (takes x.msg) (moved bs e Into x.msg) (λ f. holds-moved f bs e Into x.msg) h (taken_pairs e x next h) (λ f. omega (arith, carried-takes f p zs e x next))

  -- ---- closing

  pub guards_close : (e : EndId) → Guarded file (world_after p [] w) (without_end bs e)
  guards_close n = record {
    sound = serves_sound file w zs g.sound (record {
      pairs = g.sound.pairs;
      claims = λ e. omega (arith, g.sound.unshared.once e);
      none_to_come = λ e come. omega (arith, g.sound.unshared.to_come e come);
      kept = λ f b. refl;
      come = λ f come. refl;
    });
    once = λ e. omega (arith, g.once e, holds-without_le e bs n);
    apart = λ e come. omega (arith, g.apart e (come_same w zs e come), holds-without_le e bs n);
  }
