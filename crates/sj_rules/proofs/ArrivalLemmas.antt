-- A frame that comes within the limits does what its row does; one that fits is within them.
use Rattle.std.proofs.Common.{◌≡◌, ℕ, Bool, true, false, if◌then◌else◌, Option, Some, None, refl, ap, sym, ◌∙◌}
use Rattle.sj_rules.specs.Record.{BodyAt, Carry, Fin, Claim, Signal, Ack, Give, Open}
use Rattle.sj_rules.specs.Opened.{is_open}
use Rattle.sj_rules.specs.Frames.{FrameAt, is_proper}
use Rattle.sj_rules.specs.Rows.{Worked}
use Rattle.sj_rules.specs.Node.{NodeAt, comes, comes_or_opens, arrives}

-- what is there only where a test is passed
passed : {X : Type 0} → (b : Bool) (o : Option X) (x : X) → (if b then o else None) ≡ Some x → (b ≡ true) × (o ≡ Some x)
passed true o x h = (refl, h)
passed false o x h = cc

-- all but an Open have a row of an end that is there
pub comes_unopened : {P Q : Type 0} → (blank : P) (pick : ℕ → ℕ → ℕ) (m : NodeAt P Q) (origin : ℕ) (b : BodyAt P) → is_open b ≡ false → comes_or_opens blank pick m origin b ≡ comes pick m origin b
comes_unopened blank pick m origin (Carry to conn number taken msg) e = refl
comes_unopened blank pick m origin (Fin to conn number) e = refl
comes_unopened blank pick m origin (Claim of) e = refl
comes_unopened blank pick m origin (Signal to conn party taken) e = refl
comes_unopened blank pick m origin (Ack of conn) e = refl
comes_unopened blank pick m origin (Give g resend) e = refl
comes_unopened blank pick m origin (Open sess) e = absurd (cc e)

module _ {P Q : Type 0} (blank : P) (n : ℕ) (pick : ℕ → ℕ → ℕ) (m : NodeAt P Q) (origin : ℕ) (f : FrameAt P) where
  -- a frame within the limits does what its row does
  pub proper_comes : is_proper n f ≡ true → arrives blank n pick m origin f ≡ comes_or_opens blank pick m origin f.body
  proper_comes e = ap (λ b. if b then comes_or_opens blank pick m origin f.body else None) e

  -- and so where it is no Open
  pub proper_arrives : is_open f.body ≡ false → is_proper n f ≡ true → arrives blank n pick m origin f ≡ comes pick m origin f.body
  proper_arrives plain e = proper_comes e ∙ comes_unopened blank pick m origin f.body plain

  module _ (done : Worked P (NodeAt P Q)) (fits : arrives blank n pick m origin f ≡ Some done) where
    -- one that fits is within the limits
    pub arrived_proper : is_proper n f ≡ true
    arrived_proper = (passed (is_proper n f) (comes_or_opens blank pick m origin f.body) done fits).0

    -- and fits its row
    pub arrived_comes : is_open f.body ≡ false → comes pick m origin f.body ≡ Some done
    arrived_comes plain = sym (comes_unopened blank pick m origin f.body plain) ∙ (passed (is_proper n f) (comes_or_opens blank pick m origin f.body) done fits).1
