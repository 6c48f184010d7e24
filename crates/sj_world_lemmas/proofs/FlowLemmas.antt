-- What the frames of a session carry, and what waits at a Held end.
use Rattle.std.proofs.Common.{◌≡◌, ℕ, ◌+◌, List, [], ◌∷◌, ◌++◌, length, refl, sym, ap, ◌∙◌, subst, append-nil, inl, inr}
use Rattle.std.specs.Prelude.{Bool, true, false, ◌⊎◌, ◌&&◌, ◌==◌, Option, Some, None}
use Rattle.std.specs.List.{filter, AllByRecursion}
use Rattle.std.proofs.lemmas.Bool.{eqb-true, eqb-false, eq-eqb, ne_eqb}
use Rattle.std.proofs.lemmas.List.Elements.{filter_map-append}
use Rattle.sj_base.specs.declared.EndId.{EndId}
use Rattle.sj_base.specs.declared.Msg.{Msg}
use Rattle.sj_rules.specs.Record.{BodyAt, Carry, Fin, Claim, Signal, Ack, Give, Open, HeldAt, is_same_end}
use Rattle.sj_rules.specs.Seat.{Seat, held, parked, claimed, signalled, given, closed, gone}
use Rattle.sj_rules.specs.Shown.{goes_to}
use Rattle.sj_rules.specs.PlainSide.{PlainSide, untaken_of, IsFront}
use Rattle.sj_rules.specs.Flowing.{IsUnder, carries_under, carried_under}
use Rattle.sj_rules.specs.Numbers.{Pace, level, ahead, behind, by_ack, by_signal, NumbersFit}
use Rattle.sj_rules.specs.Streams.{AreCarries, ComesWhole, ComesToHeld, mark_of}
use Rattle.sj_rules.specs.Coming.{Comes}
use Rattle.sj_world_lemmas.proofs.EventLemmas.{same_end}
use Rattle.sj_world_lemmas.proofs.PaceLemmas.{numbers_ahead}

-- equality of numbers, turned
eq_flip : (a b : ℕ) → (a == b) ≡ (b == a)
eq_flip a b = by (a == b) refl
  where
    by : (k : Bool) → (a == b) ≡ k → (a == b) ≡ (b == a)
    by true e = e ∙ sym (eq-eqb b a (sym (eqb-true a b e)))
    by false e = e ∙ sym (ne_eqb b a (λ i. eqb-false a b e (sym i)))

-- a message or none, as a list
abbrev option_list : Option Msg → List Msg
option_list None = []
option_list (Some m) = m ∷ []

-- one frame more
carries_cons : {P : Type 0} → (id : EndId) (c : ℕ) (b : BodyAt P) (bs : List (BodyAt P)) (msg : Option Msg) → carried_under id c b ≡ msg →
    carries_under id c (b ∷ bs) ≡ option_list msg ++ carries_under id c bs
carries_cons id c b bs None e = rw e refl
carries_cons id c b bs (Some m) e = rw e refl

-- only frames that go to the end carry something for it
unseen_carries : {P : Type 0} → (id : EndId) (c : ℕ) (b : BodyAt P) → goes_to id c b ≡ false → carried_under id c b ≡ None
unseen_carries id c (Carry to conn number taken msg) e = let k : (is_same_end to id && (conn == c)) ≡ false = rw (eq_flip conn c) e in rw k refl
unseen_carries id c (Fin to conn number) e = refl
unseen_carries id c (Claim of) e = refl
unseen_carries id c (Signal to conn party taken) e = refl
unseen_carries id c (Ack of conn) e = refl
unseen_carries id c (Give g resend) e = refl
unseen_carries id c (Open sess) e = refl

-- only the frames that go to an end carry for it
pub carries_seen : {P : Type 0} → (id : EndId) (c : ℕ) (bs : List (BodyAt P)) → carries_under id c bs ≡ carries_under id c (filter (goes_to id c) bs)
carries_seen id c [] = refl
carries_seen {P} id c (b ∷ bs) = by (carries_seen id c bs) (goes_to id c b) refl
  where
    by : carries_under id c bs ≡ carries_under id c (filter (goes_to id c) bs) → (k : Bool) → goes_to id c b ≡ k → carries_under id c (b ∷ bs) ≡ carries_under id c (filter (goes_to id c) (b ∷ bs))
    by below true e = carries_cons id c b bs (carried_under id c b) refl ∙ ap (λ l. option_list (carried_under id c b) ++ l) below ∙ sym (carries_cons id c b (filter (goes_to id c) bs) (carried_under id c b) refl) ∙ rw e refl
    by below false e = carries_cons id c b bs None (unseen_carries id c b e) ∙ below ∙ rw e refl

-- what two lists carry
pub carries_append : {P : Type 0} → (id : EndId) (c : ℕ) (a b : List (BodyAt P)) → carries_under id c (a ++ b) ≡ carries_under id c a ++ carries_under id c b
carries_append id c a b = filter_map-append (carried_under id c) a b

-- what Carries carry
carries_are : {P : Type 0} → (to : EndId) (conn number low high : ℕ) (ms : List Msg) (bs : List (BodyAt P)) → AreCarries to conn number low high ms bs → carries_under to conn bs ≡ ms
carries_are to conn number low high [] [] a = refl
carries_are to conn number low high [] (b ∷ bs) a = absurd a
carries_are to conn number low high (m ∷ ms) [] a = absurd a
carries_are {P} to conn number low high (m ∷ ms) (b ∷ bs) a =
    let one : carried_under to conn b ≡ Some m = ap (carried_under to conn) a.2 ∙ rw (same_end to, eq-eqb conn conn refl) refl in
    carries_cons to conn b bs (Some m) one ∙ ap (λ l. m ∷ l) (carries_are to conn (number + 1) a.0 high ms bs a.3)

-- a mark carries nothing
mark_empty : {P : Type 0} → (to : EndId) (conn sent taken : ℕ) (s : Seat P) → carries_under to conn (mark_of to conn sent taken s) ≡ []
mark_empty to conn sent taken (held a h) = refl
mark_empty to conn sent taken (parked a e) = refl
mark_empty to conn sent taken (claimed a t e) = refl
mark_empty to conn sent taken (signalled a t e ds) = refl
mark_empty to conn sent taken (given a t e r ds) = refl
mark_empty to conn sent taken (closed a e) = refl
mark_empty to conn sent taken gone = refl

-- what comes whole carries these messages
pub whole_carries : {P : Type 0} → (to : EndId) (conn number low high sent taken : ℕ) (s : Seat P) (ms : List Msg) (frames : List (BodyAt P)) →
    ComesWhole to conn number low high (mark_of to conn sent taken s) ms frames → carries_under to conn frames ≡ ms
whole_carries {P} to conn number low high sent taken s ms frames w =
    ap (carries_under to conn) w.split ∙ carries_append to conn w.carries (mark_of to conn sent taken s)
    ∙ rw (carries_are to conn number low high ms w.carries w.are, mark_empty to conn sent taken s) (append-nil ms)

-- Carries go to their end under their number, and a mark is no Carry
are_under : {P : Type 0} → (to : EndId) (conn number low high : ℕ) (ms : List Msg) (bs : List (BodyAt P)) →
    AreCarries to conn number low high ms bs → AllByRecursion (IsUnder to conn) bs
are_under to conn number low high [] [] a = tt
are_under to conn number low high [] (b ∷ bs) a = absurd a
are_under to conn number low high (m ∷ ms) [] a = absurd a
are_under to conn number low high (m ∷ ms) (b ∷ bs) a =
    (subst (IsUnder to conn) (sym a.2) (refl, refl), are_under to conn (number + 1) a.0 high ms bs a.3)

mark_under : {P : Type 0} → (to : EndId) (conn sent taken : ℕ) (s : Seat P) → AllByRecursion (IsUnder to conn) (mark_of to conn sent taken s)
mark_under to conn sent taken (held a h) = tt
mark_under to conn sent taken (parked a e) = tt
mark_under to conn sent taken (claimed a t e) = tt
mark_under to conn sent taken (signalled a t e ds) = (tt, tt)
mark_under to conn sent taken (given a t e r ds) = tt
mark_under to conn sent taken (closed a e) = (tt, tt)
mark_under to conn sent taken gone = (tt, tt)

all_front : {A : Type 0} → (T : A → Type 0) (a b : List A) → AllByRecursion T (a ++ b) → AllByRecursion T a
all_front T [] b h = tt
all_front T (x ∷ a) b h = (h.0, all_front T a b h.1)

all_joined : {A : Type 0} → (T : A → Type 0) (a b : List A) → AllByRecursion T a → AllByRecursion T b → AllByRecursion T (a ++ b)
all_joined T [] b h k = k
all_joined T (x ∷ a) b h k = (h.0, all_joined T a b h.1 k)

-- of what comes whole all Carries go under that number, so those of its front do
pub whole_under : {P : Type 0} → (to : EndId) (conn number low high sent taken : ℕ) (s : Seat P) (ms : List Msg) (front rest : List (BodyAt P)) →
    ComesWhole to conn number low high (mark_of to conn sent taken s) ms (front ++ rest) → AllByRecursion (IsUnder to conn) front
whole_under to conn number low high sent taken s ms front rest w =
    let carries = are_under to conn number low high ms w.carries w.are in
    let both = all_joined (IsUnder to conn) w.carries (mark_of to conn sent taken s) carries (mark_under to conn sent taken s) in
    all_front (IsUnder to conn) front rest (subst (AllByRecursion (IsUnder to conn)) (sym w.split) both)

-- a Held end: what is untaken, and what comes after it, is what waits
pub held_carries : {P : Type 0} → (to : EndId) (h : HeldAt P) (waiting : List Msg) (taken high sent : ℕ) (over : Bool) (s : Seat P) (live : List (BodyAt P)) →
    ComesToHeld to h waiting taken high over (mark_of to h.end.conn sent high s) live → h.untaken ++ carries_under to h.end.conn live ≡ waiting
held_carries {P} to h waiting taken high sent over s live c = by c.comes
  where
    by : (h.fin ≡ false) × ComesWhole to h.end.conn (taken + length h.untaken) h.end.base high (mark_of to h.end.conn sent high s) c.rest live ⊎ (h.fin ≡ true) × (over ≡ true) × (live ≡ []) × (c.rest ≡ []) →
        h.untaken ++ carries_under to h.end.conn live ≡ waiting
    by (inl w) = ap (λ l. h.untaken ++ l) (whole_carries to h.end.conn (taken + length h.untaken) h.end.base high sent high s c.rest live w.1) ∙ sym c.all
    by (inr w) = rw w.2 (ap (λ l. h.untaken ++ l) (sym w.3) ∙ sym c.all)

-- the untaken messages of a Held end are a prefix of what waits for it in the plain world
pub untaken_front : {P : Type 0} → (pace : Pace) (id : EndId) (x y : PlainSide P) (s : Seat P) (b : ℕ) (h : HeldAt P) (live : List (BodyAt P)) → NumbersFit pace s (held b h) → Comes pace id x y s (held b h) live →
    IsFront h.untaken (untaken_of x y)
untaken_front level id x y (given a t e None ds) b h live n c = record { rest = c.1.rest; all = c.1.all }
untaken_front level id x y (given a t e (Some k) ds) b h live n c = record { rest = untaken_of x y; all = rw c.1.0 refl }
untaken_front level id x y s b h live n c = record { rest = c.rest; all = c.all }
untaken_front (ahead k) id x y gone b h live n c = absurd (cc n.0)
untaken_front (ahead k) id x y s b h live n c = absurd (numbers_ahead k s (held b h) tt tt n).1
untaken_front (behind by_ack) id x y s b h live n c = record { rest = []; all = sym c.1.0 ∙ sym (append-nil h.untaken) }
untaken_front (behind by_signal) id x y s b h live n c = record { rest = untaken_of x y; all = rw c.1.0 refl }
