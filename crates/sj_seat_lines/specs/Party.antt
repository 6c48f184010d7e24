-- A party that is played by lines, and what it sees of its seat.
use Rattle.std.specs.Prelude.{ℕ, ◌^◌, ◌+◌, ◌-◌, min, List, Option, Some, None, option_map}
use Rattle.sj_base.specs.declared.EndId.{EndId}
use Rattle.sj_lang.specs.FileAt.{FileAt}
use Rattle.sj_lang.specs.FileView.{file_of}
use Rattle.sj_seat.specs.Holding.{ends_of}
use Rattle.sj_seat.specs.Opened.{may_of}
use Rattle.sj_seat.specs.declared.guard.Guard.{Guard}
use Rattle.sj_seat.specs.declared.wish.OpenWish.{OpenWish}
use Rattle.sj_seat.specs.declared.wish.Wish.{Wish}
use Rattle.sj_seat_laws.specs.Calls as laws
use Rattle.sj_talk.specs.Names.{Ends}
use Rattle.sj_seat_lines.specs.Names.{named}
use Rattle.sj_seat.specs.declared.ask.Ask.{Ask}
use Rattle.sj_seat.specs.declared.ask.Ask.TheVariants.{Step, Open, TakeAny, Ready}
use Rattle.sj_seat_lines.specs.declared.party.Party.{Party}
use Rattle.sj_seat_lines.specs.declared.party.Pending.{Pending}

-- what the seat is asked for
pub data AskAt : Type 0 where
  step : Wish → AskAt
  opening : OpenWish → AskAt
  take_any : List EndId → AskAt
  ready : EndId → AskAt

abbrev pub ask_at : Ask → AskAt
ask_at (Step wish) = step wish
ask_at (Open wish) = opening wish
ask_at (TakeAny es) = take_any es.items
ask_at (Ready e) = ready e

-- a line that waits for its call: what is asked for, the name that an end gets which comes of it, and how often it waited
pub record PendingAt : Type 0 where
  pub ask : AskAt
  pub name : List ℕ
  pub tries : ℕ

abbrev pub pending_at : Pending → PendingAt
pending_at p = record { ask = ask_at p.ask; name = p.name.items; tries = p.tries }

-- the file, the texts of the run, the names of the ends that are held, how many lines came, how often a call that waits is tried again, and the line that waits
pub record PartyAt : Type 0 where
  pub file : FileAt
  pub texts : List (List ℕ)
  pub names : Ends
  pub number : ℕ
  pub patience : ℕ
  pub pending : Option PendingAt

abbrev pub party_at : Party → PartyAt
party_at p = record { file = file_of p.file.now; texts = p.texts; names = named p.names.items; number = p.number; patience = p.patience; pending = option_map pending_at p.pending }

-- what lines see of the seat: the ends that it holds, at their places, and the sessions that it may open
pub record SeatAt : Type 0 where
  pub ends : laws.Ends
  pub may : laws.Openings

abbrev pub seat_at : Guard → SeatAt
seat_at g = record { ends = ends_of g; may = may_of g }

-- a call that is asked for, the name, and how often it waited
abbrev pub pending_as : Ask → List ℕ → ℕ → PendingAt
pending_as a name tries = record { ask = ask_at a; name = name; tries = tries }

-- the party before its first line
abbrev pub starts_as : FileAt → List (List ℕ) → Ends → ℕ → PartyAt
starts_as file texts names patience = record { file = file; texts = texts; names = names; number = 0; patience = patience; pending = None }

-- the call that the line asks for which waits
abbrev pub asked_of : PartyAt → Option AskAt
asked_of p = option_map (λ q. q.ask) p.pending

-- later lines have this number
abbrev pub last_number : ℕ
last_number = 2 ^ 64 - 1

-- ---- a party with other parts

-- one line more came, and none waits
abbrev pub counted : PartyAt → PartyAt
counted p = record { file = p.file; texts = p.texts; names = p.names; number = min (p.number + 1) last_number; patience = p.patience; pending = None }

abbrev pub with_texts : PartyAt → List (List ℕ) → PartyAt
with_texts p texts = record { file = p.file; texts = texts; names = p.names; number = p.number; patience = p.patience; pending = p.pending }

abbrev pub with_names : PartyAt → Ends → PartyAt
with_names p names = record { file = p.file; texts = p.texts; names = names; number = p.number; patience = p.patience; pending = p.pending }

abbrev pub waits_for : PartyAt → PendingAt → PartyAt
waits_for p q = record { file = p.file; texts = p.texts; names = p.names; number = p.number; patience = p.patience; pending = Some q }

-- no line waits
abbrev pub rests : PartyAt → PartyAt
rests p = record { file = p.file; texts = p.texts; names = p.names; number = p.number; patience = p.patience; pending = None }
