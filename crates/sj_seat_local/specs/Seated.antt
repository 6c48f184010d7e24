-- What comes of a file and lines that play a party of it.
use Rattle.std.specs.Prelude.{◌≡◌, ◌||◌, ◌==◌, ℕ, List, ◌++◌, Option, Some, None, IfSome, IsTrue, codes}
use Rattle.sj_lang.specs.FileAt.{FileAt}
use Rattle.sj_text.specs.Statuses.{no_memory_status, read_fault_status, too_large_status, write_fault_status}
use Rattle.sj_seat_local.specs.Before.{BeginsWith, HasNoTalk, IsNoAccepted, IsTextOf, IsTooLarge}
use Rattle.sj_seat_local.specs.Parties.{NamesParty}
use Rattle.sj_seat_local.specs.Played.{HasPlayed, IsVerdict, SaidSo}
use Rattle.sj_seat_local.specs.declared.playing.Played.{Played}

-- the status where no line is `%%talk`
abbrev pub no_talk_status : ℕ
no_talk_status = 12

-- the status where the file hasn't the party
abbrev pub no_party_status : ℕ
no_party_status = 14

-- what is written then of the word
abbrev pub no_party_text : List ℕ → List ℕ
no_party_text word = codes "no party " ++ (word ++ codes "\n")

-- `sj check` answers a file that isn't accepted so
abbrev pub IsCheckStatus : ℕ → Type 0
IsCheckStatus status = IsTrue (status == 4 || status == 5 || status == write_fault_status || status == no_memory_status)

-- the text was written after what was there, and the status is that one, or the write failed
abbrev pub Says : {K : Type 0} → (written : K → Option (List ℕ)) → Option (List ℕ) → List ℕ → (wanted : ℕ) → Option K → ℕ → Type 0
Says written before text wanted None status = ⊥
Says written before text wanted (Some k) status = SaidSo before (written k) text wanted status

-- what comes of the text of a file and a word: it isn't accepted; it hasn't the party; nothing can be written, or there is no memory; or the party that the word names is played by lines
pub data PlaysText {K : Type 0} (written : K → Option (List ℕ)) (text word : List ℕ) (before : Option (List ℕ)) (p : Played K) : Type 0 where
  unaccepted : IsNoAccepted text → IsCheckStatus p.status → PlaysText written text word before p
  lacks_party : (file : FileAt) → IsTextOf text file → NamesParty file word None → Says written before (no_party_text word) no_party_status p.out p.status → PlaysText written text word before p
  no_write : p.status ≡ write_fault_status → PlaysText written text word before p
  out_of_memory : p.status ≡ no_memory_status → PlaysText written text word before p
  plays : (file : FileAt) (party : ℕ) → IsTextOf text file → NamesParty file word (Some party) → (IsVerdict p.status → HasPlayed written file party p) → PlaysText written text word before p

-- what comes of a source with that left, a word and what was written before
pub data PlaysSource {K : Type 0} (written : K → Option (List ℕ)) (left : Option (List ℕ)) (word : List ℕ) (before : Option (List ℕ)) (p : Played K) : Type 0 where
  no_talk : IfSome left HasNoTalk → Says written before (codes "talk L1 at 0\n") no_talk_status p.out p.status → PlaysSource written left word before p
  too_large : IfSome left IsTooLarge → Says written before (codes "too large\n") too_large_status p.out p.status → PlaysSource written left word before p
  read_fault : Says written before (codes "read fault\n") read_fault_status p.out p.status → PlaysSource written left word before p
  no_memory : p.status ≡ no_memory_status → PlaysSource written left word before p
  has_text : (text : List ℕ) → BeginsWith left text → PlaysText written text word before p → PlaysSource written left word before p

-- the text before the line `%%talk` is that of an accepted file, and what was written last is the transcript of a quiet world of it, in which the party that the word names is played by code
pub record HasSeated {K : Type 0} (written : K → Option (List ℕ)) (left : Option (List ℕ)) (word : List ℕ) (p : Played K) : Type 0 where
  pub text : List ℕ
  pub begins : BeginsWith left text
  pub file : FileAt
  pub is : IsTextOf text file
  pub party : ℕ
  pub named : NamesParty file word (Some party)
  pub played : HasPlayed written file party p
