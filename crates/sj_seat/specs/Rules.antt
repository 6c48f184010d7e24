-- The rules by which a call is refused, in their order, and the first that applies.
use Rattle.std.specs.Prelude.{ℕ, ◌^◌, Bool, true, not, ◌&&◌, ◌||◌, nat_lt, nat_le, is_none, List, [], ◌∷◌, Option, Some, None, unwrap_or, if◌then◌else◌}
use Rattle.sj_base.specs.declared.EndId.{EndId}
use Rattle.sj_base.specs.declared.Msg.{Msg}
use Rattle.sj_base.specs.declared.Msg.TheVariants as msgs
use Rattle.sj_lang.specs.ItemCount.{is_done}
use Rattle.sj_lang.specs.Place.{Place, done}
use Rattle.sj_rules.specs.Limits.{limit_of_steps}
use Rattle.sj_rules.specs.Record.{is_same_end}
use Rattle.sj_seat_laws.specs.Calls.{Ends, MayOpen, place_held, place_opened}
use Rattle.sj_seat_laws.specs.Guards.{may_carry, may_send}
use Rattle.sj_seat.specs.Fronts.{begins_with, sends_end, takes_end, takes_no_end}
use Rattle.sj_seat.specs.declared.refusal.SeatRefusal.{SeatRefusal}
use Rattle.sj_seat.specs.declared.refusal.SeatRefusal.TheVariants.{NotHeld, BeginsOtherwise, WrongEnd, WrongKind, NotOpened, AtLimit}

-- ---- of the ends that are held

-- the end isn't held
abbrev pub is_missing : Ends → EndId → Bool
is_missing bs e = is_none (place_held bs e)

-- the place of the end; the empty one where it isn't held
abbrev pub place_at : Ends → EndId → Place
place_at bs e = unwrap_or (place_held bs e) done

-- the first place of a session of that protocol with that party; the empty one where none may be opened
abbrev pub begins_at : List MayOpen → (party protocol : ℕ) → Place
begins_at os q n = unwrap_or (place_opened os q n) done

-- a message names no more texts
abbrev pub limit_of_texts : ℕ
limit_of_texts = 2 ^ 32

-- a text is one of so many
abbrev pub names_text : (texts : ℕ) → Msg → Bool
names_text texts (msgs.Text n) = nat_lt n texts
names_text texts _ = true

-- no further call is made
abbrev pub is_full : (calls : ℕ) → Bool
is_full calls = nat_le limit_of_steps calls

-- ---- the rules of each call, in their order, each with whether it applies

abbrev pub Tests : Type 0
Tests = List (SeatRefusal × Bool)

abbrev pub send_tests : (texts calls : ℕ) → Ends → EndId → Msg → Tests
send_tests texts calls bs e m =
    (NotHeld, is_missing bs e) ∷ (BeginsOtherwise, not (begins_with (place_at bs e) m))
    ∷ (WrongKind, not (may_send (place_at bs e) m && names_text texts m)) ∷ (AtLimit, is_full calls) ∷ []

abbrev pub delegate_tests : (calls : ℕ) → Ends → (carrier e : EndId) → Tests
delegate_tests calls bs c e =
    (NotHeld, is_missing bs c || is_missing bs e) ∷ (BeginsOtherwise, not (sends_end (place_at bs c)))
    ∷ (WrongEnd, is_same_end c e || is_done (place_at bs e)) ∷ (WrongKind, not (may_carry (place_at bs c) (place_at bs e))) ∷ (AtLimit, is_full calls) ∷ []

abbrev pub take_tests : (calls : ℕ) → Ends → EndId → Tests
take_tests calls bs e = (NotHeld, is_missing bs e) ∷ (BeginsOtherwise, not (takes_no_end (place_at bs e))) ∷ (AtLimit, is_full calls) ∷ []

abbrev pub take_end_tests : (calls : ℕ) → Ends → EndId → Tests
take_end_tests calls bs e = (NotHeld, is_missing bs e) ∷ (BeginsOtherwise, not (takes_end (place_at bs e))) ∷ (AtLimit, is_full calls) ∷ []

abbrev pub close_tests : (calls : ℕ) → Ends → EndId → Tests
close_tests calls bs e = (NotHeld, is_missing bs e) ∷ (BeginsOtherwise, not (is_done (place_at bs e))) ∷ (AtLimit, is_full calls) ∷ []

-- whether a message is there: the end is held
abbrev pub ready_tests : Ends → EndId → Tests
ready_tests bs e = (NotHeld, is_missing bs e) ∷ []

-- by where the party's own end begins, if such a session may be opened
abbrev pub open_tests : (calls : ℕ) → Option Place → Tests
open_tests calls begins = (NotOpened, is_none begins) ∷ (AtLimit, is_full calls) ∷ []

-- the first rule that applies
abbrev pub first_refusal : Tests → Option SeatRefusal
first_refusal [] = None
first_refusal (t ∷ ts) = if t.1 then Some t.0 else first_refusal ts
