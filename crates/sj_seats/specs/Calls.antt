-- The calls that a history tells of each party's code, where it is known of which protocol each opened
-- session is.
use Rattle.std.specs.Prelude.{ℕ, ◌==◌, Bool, if◌then◌else◌, List, [], ◌∷◌, ◌++◌, Option, Some, None}
use Rattle.sj_base.specs.declared.EndId.{EndId}
use Rattle.sj_rules.specs.Log as logs
use Rattle.sj_rules.specs.Log.{LineAt, NoteAt}
use Rattle.sj_rules.specs.Record.{offered_end, requested_end}
use Rattle.sj_rules.specs.World.{Act, Deliver, Event}
use Rattle.sj_seat_laws.specs.Calls.{Call}
use Rattle.sj_seat_laws.specs.SeatRows.{call_told}
use Rattle.sj_seat_laws.specs.SeatsStart.{Callers}

-- one call, or none
abbrev pub one_call : Option Call → List Call
one_call None = []
one_call (Some c) = c ∷ []

-- as which protocol each party's code opened the session of that end
abbrev pub OpenedAs : Type 0
OpenedAs = ℕ → EndId → ℕ

-- the own end of the session that an act with that note opens; of others it is no matter
abbrev pub end_in : NoteAt → EndId
end_in (logs.Request s q) = requested_end s
end_in (logs.Accept s q) = offered_end s
end_in _ = requested_end 0

-- the call of an act with that note, whose party opened its sessions as these
abbrev pub call_of_event : (opened : EndId → ℕ) → Event → NoteAt → List Call
call_of_event opened Act note = one_call (call_told (opened (end_in note)) note)
call_of_event opened (Deliver q) note = []

-- the call of that party which the line tells
abbrev pub calls_in : OpenedAs → ℕ → LineAt → List Call
calls_in opened q l = if q == l.party then call_of_event (opened q) l.entry.event l.entry.note else []

-- all of them, in order
abbrev pub calls_told : OpenedAs → ℕ → List LineAt → List Call
calls_told opened q [] = []
calls_told opened q (l ∷ ls) = calls_in opened q l ++ calls_told opened q ls

-- what each party's code calls: those that the lines tell, and then those
abbrev pub then_calls : OpenedAs → List LineAt → (ℕ → List Call) → ℕ → List Call
then_calls opened lines rest q = calls_told opened q lines ++ rest q

-- that of the line, and then those
abbrev pub first_calls : OpenedAs → LineAt → (ℕ → List Call) → ℕ → List Call
first_calls opened l rest q = calls_in opened q l ++ rest q

-- nothing more
abbrev pub no_calls : ℕ → List Call
no_calls q = []

-- these parties are played by code, which calls that
abbrev pub callers_by : (ℕ → Bool) → (ℕ → List Call) → Callers
callers_by seats calls q = if seats q then Some (calls q) else None

-- and exactly what the lines tell
abbrev pub callers_told : (ℕ → Bool) → OpenedAs → List LineAt → Callers
callers_told seats opened lines = callers_by seats (λ q. calls_told opened q lines)
