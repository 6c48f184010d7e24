-- What words ask for.
use Rattle.std.specs.Prelude.{◌≡◌, ◌≤◌, ℕ, ⊤, Bool, true, false, List, Option, Some, None, codes, decimal}
use Rattle.clap.specs.Words.{Text}
use Rattle.sj_command.specs.declared.tasks.Task.{Task}
use Rattle.sj_command.specs.declared.tasks.Task.TheVariants.{Check, Show, Forest, Sim, Run, Forward, Replay, Talk, Make, Big}
use Rattle.sj_command.specs.CommandLine.{IsTaken, text_given}

-- what a line has: a command and a number, two flags and two options
pub record ArgumentsAt : Type 0 where
  pub command : Option Text
  pub number : Option Text
  pub log : Option Text
  pub looks : Option Text
  pub workers : Option Text
  pub forward : Option Text

-- what a line has of a flag
abbrev pub flag_text : (text_given : Bool) → Text
flag_text false = codes "false"
flag_text true = codes "true"

-- a line with these parts
abbrev pub arguments_with : (command number log looks workers forward : Option Text) → ArgumentsAt
arguments_with command number log looks workers forward =
    record { command = command; number = number; log = log; looks = looks; workers = workers; forward = forward }

-- one that asks for forwarding, or one that doesn't
abbrev pub arguments_at : (forward : Bool) (command number log looks workers : Option Text) → ArgumentsAt
arguments_at forward command number log looks workers = arguments_with command number log looks workers (Some (flag_text forward))

-- a command of that name with that number alone
abbrev pub alone : Text → Option Text → ArgumentsAt
alone name number = arguments_at false (Some name) number (Some (flag_text false)) None None

-- `run`, with that flag or without it, and with those options or without them
abbrev pub running : (log : Bool) (looks workers : Option Text) → ArgumentsAt
running log looks workers = arguments_at false (Some (codes "run")) None (Some (flag_text log)) looks workers

-- `run` with forwarding, and nothing else
abbrev pub forwarding : ArgumentsAt
forwarding = arguments_at true (Some (codes "run")) None (Some (flag_text false)) None None

-- `replay`, with that flag or without it
abbrev pub replaying : (log : Bool) → ArgumentsAt
replaying log = arguments_at false (Some (codes "replay")) None (Some (flag_text log)) None None

-- the most messages in each loop of the generated file
abbrev pub most_messages : ℕ
most_messages = 1000

-- that many messages can be asked for
abbrev pub IsCount : ℕ → Type 0
IsCount n = (1 ≤ n) × (n ≤ most_messages)

-- the highest number of a party
abbrev pub last_party : ℕ
last_party = 15

-- that party can be asked for
abbrev pub IsParty : ℕ → Type 0
IsParty n = n ≤ last_party

-- the looks of a line without the option
abbrev pub usual_looks : ℕ
usual_looks = 1000

-- the most looks
abbrev pub most_looks : ℕ
most_looks = 1000000

-- the option, or its absence, stands for that many looks
abbrev pub StandsForLooks : Option Text → ℕ → Type 0
StandsForLooks None looks = looks ≡ usual_looks
StandsForLooks (Some text) looks = (text ≡ decimal looks) × (looks ≤ most_looks)

-- the most workers
abbrev pub most_workers : ℕ
most_workers = 16

-- the option stands for that many workers, and its absence for no number of them
abbrev pub StandsForWorkers : Option Text → Option ℕ → Type 0
StandsForWorkers None None = ⊤
StandsForWorkers None (Some workers) = ⊥
StandsForWorkers (Some text) None = ⊥
StandsForWorkers (Some text) (Some workers) = (text ≡ decimal workers) × (1 ≤ workers) × (workers ≤ most_workers)

-- the line asks for that
abbrev pub Means : ArgumentsAt → Task → Type 0
Means line Check = line ≡ alone (codes "check") None
Means line Show = line ≡ alone (codes "show") None
Means line Forest = line ≡ alone (codes "forest") None
Means line Sim = line ≡ alone (codes "sim") None
Means line (Run log looks workers) =
    (line ≡ running log line.looks line.workers) × StandsForLooks line.looks looks × StandsForWorkers line.workers workers
Means line Forward = line ≡ forwarding
Means line (Replay log) = line ≡ replaying log
Means line (Talk n) = (line ≡ alone (codes "talk") (Some (decimal n))) × IsParty n
Means line (Make n) = (line ≡ alone (codes "make") (Some (decimal n))) × IsCount n
Means line (Big n) = (line ≡ alone (codes "big") (Some (decimal n))) × IsCount n

-- the line that the words are
abbrev pub line_in : List Text → ArgumentsAt
line_in words =
    arguments_with (text_given (codes "command") words) (text_given (codes "number") words) (text_given (codes "log") words)
    (text_given (codes "looks") words) (text_given (codes "workers") words) (text_given (codes "forward") words)

-- the words ask for that
abbrev pub Asks : List Text → Task → Type 0
Asks words task = IsTaken words × Means (line_in words) task

-- the words are no command
abbrev pub IsUsage : List Text → Type 0
IsUsage words = (task : Task) → Asks words task → ⊥
