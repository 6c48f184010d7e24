-- A world with Opens, event by event: it begins kept, and each front frame fits.
use Rattle.std.proofs.Common.{◌≡◌, ℕ, ◌<◌, List, [], ◌∷◌, refl, sym, ap, subst, ◌∙◌, arith}
use Rattle.std.specs.Prelude.{Bool, true, false, Contains, Some, None}
use Rattle.sj_base.specs.declared.EndId.{EndId}
use Rattle.sj_rules.specs.Record.{BodyAt, Carry, Fin, Claim, Signal, Ack, Give, Open}
use Rattle.sj_rules.specs.Opened.{opener_of, is_open, opens}
use Rattle.sj_rules.specs.Frames.{FrameAt, is_proper}
use Rattle.sj_rules.specs.Rows.{IsPick}
use Rattle.sj_rules.specs.Node.{Play}
use Rattle.sj_rules.specs.World.{WorldAt, Deliver, happens}
use Rattle.sj_rules.specs.Shown.{bodies}
use Rattle.sj_rules.specs.PlainSide.{PlainAt}
use Rattle.sj_rules.specs.PlainChanges.{CountsHold}
use Rattle.sj_rules.specs.Linked.{IsKept}
use Rattle.sj_rules.specs.Reading.{is_opening, reading, OpensLead, AreRising, IsOpenKept, IsUnopened}
use Rattle.sj_opened_lemmas.proofs.OldKeepLemmas.{kept_like}
use Rattle.sj_opened_lemmas.proofs.DeliverKeepLemmas.{old_front_fits}
use Rattle.sj_opened_lemmas.proofs.OpenKeepLemmas.{open_front_fits}

-- what an Open is
open_is : {P : Type 0} → (b : BodyAt P) → is_open b ≡ true → (sess : ℕ) × (b ≡ Open sess)
open_is (Open sess) o = (sess, refl)
open_is (Carry to conn number taken msg) o = absurd (cc o)
open_is (Fin to conn number) o = absurd (cc o)
open_is (Claim of) o = absurd (cc o)
open_is (Signal to conn party taken) o = absurd (cc o)
open_is (Ack of conn) o = absurd (cc o)
open_is (Give e resend) o = absurd (cc o)

module _ {P Q : Type 0} (IsOver : P → Type 0) (binds : Q → EndId → Bool) (play : Play P Q) (w : WorldAt P Q) (plain : PlainAt P Q) (kept : IsOpenKept IsOver binds play.blank w plain) where
  -- the front frame of each lane fits a row where it is within the limits, an Open too, and the
  -- world stays kept
  pub each_front_fits : (pick : ℕ → ℕ → ℕ) → IsPick pick → CountsHold plain → (q p : ℕ) (f : FrameAt P) (rest : List (FrameAt P)) → w.lanes q p ≡ f ∷ rest → is_proper play.parties f ≡ true →
      (v : WorldAt P Q) × (happens play pick w p (Deliver q) ≡ Some v) × IsOpenKept IsOver binds play.blank v plain
  each_front_fits pick picks counts q p f rest front proper = by (is_open f.body) refl
    where
      by : (b : Bool) → is_open f.body ≡ b → (v : WorldAt P Q) × (happens play pick w p (Deliver q) ≡ Some v) × IsOpenKept IsOver binds play.blank v plain
      by false i = old_front_fits IsOver binds play w plain kept pick picks counts q p f rest front i proper
      by true i =
          let o : (sess : ℕ) × (f.body ≡ Open sess) = open_is f.body i in
          let g : w.lanes q p ≡ record { clock = f.clock; body = Open o.0 } ∷ rest = front ∙ ap (λ b. record { clock = f.clock; body = b } ∷ rest) o.1 in
          open_front_fits IsOver binds play w plain kept q p f.clock o.0 rest g pick (subst (λ b. is_proper play.parties (record { clock = f.clock; body = b }) ≡ true) o.1 proper)

-- a kept world with no frame under way, and in which nobody opened a session
pub record OpensNothingYet {P Q : Type 0} (w : WorldAt P Q) (plain : PlainAt P Q) : Type 0 where
  pub empty : (from to : ℕ) → w.lanes from to ≡ []
  pub requests : (p : ℕ) → (w.nodes p).requests ≡ plain.requests p
  pub nobody_offers : (from p : ℕ) → (w.nodes p).offers from ≡ []
  pub none_offered : (from p : ℕ) → plain.offers from p ≡ []
  pub all_accepted : (e : EndId) → (plain.sides e).offered ≡ false
  pub no_records : (s : ℕ) → IsUnopened plain s → (p : ℕ) (e : EndId) → e.sess ≡ s → e.side < 2 → ((w.nodes p).main e ≡ None) × ((w.nodes p).old e ≡ None)

-- is kept with its Opens, of which there are none
pub begins_kept : {P Q : Type 0} → (IsOver : P → Type 0) (binds : Q → EndId → Bool) (blank : P) (w : WorldAt P Q) (plain : PlainAt P Q) → IsKept IsOver binds w plain → OpensNothingYet w plain → IsOpenKept IsOver binds blank w plain
begins_kept {P} {Q} IsOver binds blank w plain kept none = record {
  kept = kept_like IsOver binds (reading blank w) w plain (record {
    mains = λ p e. rw (closed p e) refl;
    olds = λ p e. refl;
    lanes = λ from to. rw (none.empty from to) refl;
  }) (λ p. refl) kept;
  requests = none.requests;
  offers = λ from p. rw (none.nobody_offers from p, none.empty from p) (sym (none.none_offered from p));
  rising = λ from p. subst AreRising (sym (none.none_offered from p)) tt;
  openers = λ from p s c. absurd (nothing from p s c);
  below = λ from p s c. absurd (nothing from p s c);
  offered = λ from p s c. absurd (nothing from p s c);
  held = λ from p s c. absurd (nothing from p s c);
  unbound = λ p e low o. let a : (plain.sides e).offered ≡ false = none.all_accepted e in absurd (cc (a, o));
  lead = λ from to. subst (λ l. OpensLead (bodies l)) (sym (none.empty from to)) tt;
  bare = λ p e o. absurd (cc (closed p e, o));
  unopened = λ s n p e is low. let a : ((w.nodes p).main e ≡ None) × ((w.nodes p).old e ≡ None) = none.no_records s n p e is low in (rw (closed p e) a.0, a.1);
}
  where
    closed : (p : ℕ) (e : EndId) → is_opening w p e ≡ false
    closed p e = ap (λ l. opens e (bodies l)) (none.empty (opener_of e.sess) p)

    nothing : (from p s : ℕ) → Contains (plain.offers from p) s → ⊥
    nothing from p s c = let d : Contains {X = ℕ} [] s = subst (λ l. Contains l s) (none.none_offered from p) c in omega (arith, d.1)
