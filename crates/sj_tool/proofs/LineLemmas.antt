-- Whether two lines are one.
use Rattle.std.proofs.Common.{◌≡◌, ◌∙◌, ℕ, List, [], ◌∷◌, Option, Some, None, ap, ap₂, refl}
use Rattle.std.proofs.Math.Decide.{ℕ_discrete}
use Rattle.std.proofs.Math.IntN.{ℤ_discrete}
use Rattle.std.proofs.Math.Bool.{Bool-discrete}
use mathlib.Core.List.{List-discrete}
use Rattle.sj_base.specs.declared.EndId.{EndId}
use Rattle.sj_base.specs.declared.Msg.{Msg}
use Rattle.sj_base.specs.declared.Msg.TheVariants as msgs
use Rattle.sj_rules.specs.Log.{EntryAt, LineAt, NoteAt, Local, Sent, Took, Shut, Carry, Fin, Claim, Signal, Ack, Give, Request, Accept, Open}
use Rattle.sj_rules.specs.World.{Event, Act, Deliver}

pub one_list : (xs ys : List ℕ) → Dec (xs ≡ ys)
one_list xs ys = List-discrete ℕ_discrete xs ys

-- what holds exactly where another does is decided by it
pub made_of : {S Y : Type 0} → Dec S → (S → Y) → (Y → S) → Dec Y
made_of (yes s) to from = yes (to s)
made_of (no n) to from = no (λ y. n (from y))

-- the same of what holds where two others do
pub both_of : {S U Y : Type 0} → Dec S → Dec U → (S → U → Y) → (Y → S) → (Y → U) → Dec Y
both_of (yes s) (yes u) to first second = yes (to s u)
both_of (no n) u to first second = no (λ y. n (first y))
both_of (yes s) (no n) to first second = no (λ y. n (second y))

-- two options are one where both have one value, or none
pub one_option : {X : Type 0} → ((x y : X) → Dec (x ≡ y)) → (x y : Option X) → Dec (x ≡ y)
one_option one None None = yes refl
one_option one None (Some y) = no (λ e. absurd (cc e))
one_option one (Some x) None = no (λ e. absurd (cc e))
one_option one (Some x) (Some y) = made_of (one x y) (λ e. ap Some e) (λ e. cc e)

one_end : (x y : EndId) → Dec (x ≡ y)
one_end x y = both_of (ℕ_discrete x.sess y.sess) (ℕ_discrete x.side y.side) (λ a b i. record { sess = a i; side = b i }) (λ e. ap (λ (z : EndId). z.sess) e) (λ e. ap (λ (z : EndId). z.side) e)

one_msg : (x y : Msg) → Dec (x ≡ y)
one_msg (msgs.Int i) (msgs.Int j) = made_of (ℤ_discrete i j) (λ e. ap (λ z. msgs.Int z) e) (λ e. cc e)
one_msg (msgs.Int i) y = no (λ e. absurd (cc e))
one_msg (msgs.Bool a) (msgs.Bool b) = made_of (Bool-discrete a b) (λ e. ap (λ z. msgs.Bool z) e) (λ e. cc e)
one_msg (msgs.Bool a) y = no (λ e. absurd (cc e))
one_msg (msgs.Text a) (msgs.Text b) = made_of (ℕ_discrete a b) (λ e. ap (λ z. msgs.Text z) e) (λ e. cc e)
one_msg (msgs.Text a) y = no (λ e. absurd (cc e))
one_msg (msgs.Label a) (msgs.Label b) = made_of (ℕ_discrete a b) (λ e. ap (λ z. msgs.Label z) e) (λ e. cc e)
one_msg (msgs.Label a) y = no (λ e. absurd (cc e))
one_msg (msgs.More a) (msgs.More b) = made_of (Bool-discrete a b) (λ e. ap (λ z. msgs.More z) e) (λ e. cc e)
one_msg (msgs.More a) y = no (λ e. absurd (cc e))
one_msg (msgs.Sess a b c) (msgs.Sess u v w) = made_of (one_list (a ∷ b ∷ c ∷ []) (u ∷ v ∷ w ∷ [])) (λ e. cc e) (λ e. cc e)
one_msg (msgs.Sess a b c) y = no (λ e. absurd (cc e))

-- what a note is made of
data Parts : Type 0 where
  parts : EndId → List ℕ → Option Msg → Option ℕ → Parts

one_parts : (x y : Parts) → Dec (x ≡ y)
one_parts (parts e xs m r) (parts f ys n s) = by (one_end e f) (one_list xs ys) (one_option one_msg m n) (one_option ℕ_discrete r s)
  where
    by : Dec (e ≡ f) → Dec (xs ≡ ys) → Dec (m ≡ n) → Dec (r ≡ s) → Dec (parts e xs m r ≡ parts f ys n s)
    by (yes a) (yes b) (yes c) (yes d) = yes (ap₂ (λ x y. parts x y m r) a b ∙ ap₂ (λ x y. parts f ys x y) c d)
    by (no k) b c d = no (λ h. k (cc h))
    by (yes a) (no k) c d = no (λ h. k (cc h))
    by (yes a) (yes b) (no k) d = no (λ h. k (cc h))
    by (yes a) (yes b) (yes c) (no k) = no (λ h. k (cc h))

one_note : (x y : NoteAt) → Dec (x ≡ y)
one_note Local Local = yes (cc)
one_note Local y = no (λ e. absurd (cc e))
one_note (Sent e m) (Sent f n) = made_of (one_parts (parts e [] (Some m) None) (parts f [] (Some n) None)) (λ h. cc h) (λ h. cc h)
one_note (Sent e m) y = no (λ h. absurd (cc h))
one_note (Took e m) (Took f n) = made_of (one_parts (parts e [] (Some m) None) (parts f [] (Some n) None)) (λ h. cc h) (λ h. cc h)
one_note (Took e m) y = no (λ h. absurd (cc h))
one_note (Shut e) (Shut f) = made_of (one_end e f) (λ h. ap (λ z. Shut z) h) (λ h. cc h)
one_note (Shut e) y = no (λ h. absurd (cc h))
one_note (Carry e a b c m) (Carry f u v w n) = made_of (one_parts (parts e (a ∷ b ∷ c ∷ []) (Some m) None) (parts f (u ∷ v ∷ w ∷ []) (Some n) None)) (λ h. cc h) (λ h. cc h)
one_note (Carry e a b c m) y = no (λ h. absurd (cc h))
one_note (Fin e a b) (Fin f u v) = made_of (one_parts (parts e (a ∷ b ∷ []) None None) (parts f (u ∷ v ∷ []) None None)) (λ h. cc h) (λ h. cc h)
one_note (Fin e a b) y = no (λ h. absurd (cc h))
one_note (Claim e) (Claim f) = made_of (one_end e f) (λ h. ap (λ z. Claim z) h) (λ h. cc h)
one_note (Claim e) y = no (λ h. absurd (cc h))
one_note (Signal e a b c) (Signal f u v w) = made_of (one_parts (parts e (a ∷ b ∷ c ∷ []) None None) (parts f (u ∷ v ∷ w ∷ []) None None)) (λ h. cc h) (λ h. cc h)
one_note (Signal e a b c) y = no (λ h. absurd (cc h))
one_note (Ack e a) (Ack f u) = made_of (one_parts (parts e (a ∷ []) None None) (parts f (u ∷ []) None None)) (λ h. cc h) (λ h. cc h)
one_note (Ack e a) y = no (λ h. absurd (cc h))
one_note (Give e a b c d g r) (Give f u v w x y s) =
    made_of (one_parts (parts e (a ∷ b ∷ c ∷ d ∷ g ∷ []) None r) (parts f (u ∷ v ∷ w ∷ x ∷ y ∷ []) None s)) (λ h. cc h) (λ h. cc h)
one_note (Give e a b c d g r) y = no (λ h. absurd (cc h))
one_note (Request a b) (Request u v) = made_of (one_list (a ∷ b ∷ []) (u ∷ v ∷ [])) (λ h. cc h) (λ h. cc h)
one_note (Request a b) y = no (λ h. absurd (cc h))
one_note (Accept a b) (Accept u v) = made_of (one_list (a ∷ b ∷ []) (u ∷ v ∷ [])) (λ h. cc h) (λ h. cc h)
one_note (Accept a b) y = no (λ h. absurd (cc h))
one_note (Open a) (Open u) = made_of (ℕ_discrete a u) (λ h. ap Open h) (λ h. cc h)
one_note (Open a) y = no (λ h. absurd (cc h))

one_event : (x y : Event) → Dec (x ≡ y)
one_event Act Act = yes (cc)
one_event Act (Deliver q) = no (λ e. absurd (cc e))
one_event (Deliver p) Act = no (λ e. absurd (cc e))
one_event (Deliver p) (Deliver q) = made_of (ℕ_discrete p q) (λ e. ap (λ z. Deliver z) e) (λ e. cc e)

one_entry : (x y : EntryAt) → Dec (x ≡ y)
one_entry x y = by (ℕ_discrete x.clock y.clock) (one_event x.event y.event) (one_note x.note y.note)
  where
    by : Dec (x.clock ≡ y.clock) → Dec (x.event ≡ y.event) → Dec (x.note ≡ y.note) → Dec (x ≡ y)
    by (yes a) (yes b) (yes c) = yes (λ i. record { clock = a i; event = b i; note = c i })
    by (no k) b c = no (λ h. k (ap (λ (z : EntryAt). z.clock) h))
    by (yes a) (no k) c = no (λ h. k (ap (λ (z : EntryAt). z.event) h))
    by (yes a) (yes b) (no k) = no (λ h. k (ap (λ (z : EntryAt). z.note) h))

one_line : (x y : LineAt) → Dec (x ≡ y)
one_line x y = both_of (ℕ_discrete x.party y.party) (one_entry x.entry y.entry) (λ a b i. record { party = a i; entry = b i }) (λ e. ap (λ (z : LineAt). z.party) e) (λ e. ap (λ (z : LineAt). z.entry) e)

-- the line that is due is that one, or another or none
pub due_or_not : (x y : Option LineAt) → Dec (x ≡ y)
due_or_not x y = one_option one_line x y
