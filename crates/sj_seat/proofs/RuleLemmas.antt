-- No rule refuses a delegation exactly where it is guarded.
use Rattle.std.proofs.Common.{◌≡◌, ◌↔◌, ℕ, ◌<◌, Bool, true, false, not, ◌&&◌, ◌||◌, ◌∷◌, [], Option, Some, None, refl, arith, rules}
use Rattle.std.specs.Prelude.{is_none, unwrap_or}
use Rattle.sj_base.specs.declared.EndId.{EndId}
use Rattle.sj_lang.specs.ItemCount.{is_done}
use Rattle.sj_lang.specs.Place.{Place, boolean, choice, done, int, message, repeat, session, text}
use Rattle.sj_lang.specs.declared.proto.Way.TheVariants.{Into, Out}
use Rattle.sj_rules.specs.Limits.{limit_of_steps}
use Rattle.sj_rules.specs.Node as wanted
use Rattle.sj_rules.specs.Record.{is_same_end}
use Rattle.sj_seat_laws.specs.Guards.{may_carry, want_of_delegate, where_allowed}
use Rattle.sj_seat.specs.Fronts.{sends_end}
use Rattle.sj_seat.specs.Rules.{first_refusal, is_full}
use Rattle.sj_seat.specs.declared.refusal.SeatRefusal.TheVariants.{NotHeld, BeginsOtherwise, WrongEnd, WrongKind, AtLimit}

-- an end is carried where one is sent, and something is ahead of it
carries_end : (p q : Place) → may_carry p q ≡ true → (sends_end p ≡ true) × (is_done q ≡ false)
carries_end (message Out (session kind) next) q h = (refl, grind (arith, h))
carries_end (message Out int next) q h = absurd (cc h)
carries_end (message Out boolean next) q h = absurd (cc h)
carries_end (message Out text next) q h = absurd (cc h)
carries_end (message Into kind next) q h = absurd (cc h)
carries_end (choice way arms next) q h = absurd (cc h)
carries_end (repeat way body next) q h = absurd (cc h)
carries_end done q h = absurd (cc h)

-- the ends, by what is held
pub delegates_so : (calls : ℕ) (c e : EndId) (o r : Option Place)
    → (first_refusal
    ((NotHeld, is_none o || is_none r) ∷ (BeginsOtherwise, not (sends_end (unwrap_or o done))) ∷ (WrongEnd, is_same_end c e || is_done (unwrap_or r done))
    ∷ (WrongKind, not (may_carry (unwrap_or o done) (unwrap_or r done))) ∷ (AtLimit, is_full calls) ∷ []) ≡ None)
    ↔ ((want_of_delegate c e o r ≡ wanted.delegates c e) × (calls < limit_of_steps))
delegates_so calls c e None r = search rules
delegates_so calls c e (Some p) None = search rules
delegates_so calls c e (Some p) (Some q) = let h = carries_end p q in by (sends_end p) (is_same_end c e) (is_done q) (may_carry p q) h
  where
    by : (b s d k : Bool) → (k ≡ true → (b ≡ true) × (d ≡ false))
        → (first_refusal ((NotHeld, false) ∷ (BeginsOtherwise, not b) ∷ (WrongEnd, s || d) ∷ (WrongKind, not k) ∷ (AtLimit, is_full calls) ∷ []) ≡ None)
        ↔ ((where_allowed (not s && k) (wanted.delegates c e) ≡ wanted.delegates c e) × (calls < limit_of_steps))
    by true true d k h = search rules
    by true false true true h = absurd (cc (h refl).1)
    by true false true false h = search rules
    by true false false true h = search rules
    by true false false false h = search rules
    by false s d true h = absurd (cc (h refl).0)
    by false true d false h = search rules
    by false false d false h = search rules
