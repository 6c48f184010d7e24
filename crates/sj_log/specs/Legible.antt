-- Lines that are read as they are printed: numbers within the format's bounds, and names that the file has.
use Rattle.std.specs.Prelude.{◌≡◌, ℕ, ◌≤◌, true, ℤ, pos, negsuc, List, [], ◌∷◌, slice_get, Option, Some, None, ⊤}
use Rattle.std.specs.List.{list_all}
use Rattle.sj_base.specs.declared.EndId.{EndId}
use Rattle.sj_base.specs.declared.Msg.{Msg}
use Rattle.sj_base.specs.declared.Msg.TheVariants as msgs
use Rattle.sj_lang.specs.FileAt.{FileAt}
use Rattle.sj_lang.specs.Words.{first_index}
use Rattle.sj_semantics.specs.Lines.{word_at, name_of}
use Rattle.sj_rules.specs.Log.{NoteAt, LineAt, Local, Sent, Took, Shut, Carry, Fin, Claim, Signal, Ack, Give, Request, Accept, Open}
use Rattle.sj_rules.specs.World.{Event, Act, Deliver}
use Rattle.sj_rules.specs.Limits.{clock_end}
use Rattle.sj_grammar.specs.Bytes.{is_printable}
use Rattle.sj_grammar.specs.Names.{is_word}
use Rattle.sj_log.specs.Names.{party_of_name, last_name}
use Rattle.sj_log.specs.Fields.{last_count, last_int}

abbrev pub IsCount : ℕ → Type 0
IsCount n = n ≤ last_count

abbrev pub IsEnd : EndId → Type 0
IsEnd e = IsCount e.sess × (e.side ≤ 1)

-- 64 bits
abbrev pub IsInt : ℤ → Type 0
IsInt (pos n) = n ≤ last_int
IsInt (negsuc n) = n ≤ last_int

-- the party of that number is the first that is called so
pub record HasParty (file : FileAt) (p : ℕ) : Type 0 where
  pub form : is_word (name_of file p) ≡ true
  pub first : party_of_name file.parties (first_index (name_of file p) file.words) ≡ Some p
  pub small : p ≤ last_name

-- the word of that number stands nowhere before it
pub record HasWord (file : FileAt) (n : ℕ) : Type 0 where
  pub form : is_word (word_at file.words n) ≡ true
  pub first : first_index (word_at file.words n) file.words ≡ Some n
  pub small : n ≤ last_name

-- the text of that number stands nowhere before it
pub record HasText (file : FileAt) (n : ℕ) : Type 0 where
  pub text : List ℕ
  pub here : slice_get file.texts n ≡ Some text
  pub form : list_all is_printable text ≡ true
  pub first : first_index text file.texts ≡ Some n
  pub small : n ≤ last_count

abbrev pub IsMessage : FileAt → Msg → Type 0
IsMessage file (msgs.Int n) = IsInt n
IsMessage file (msgs.Bool b) = ⊤
IsMessage file (msgs.Text n) = HasText file n
IsMessage file (msgs.Label n) = HasWord file n
IsMessage file (msgs.More b) = ⊤
IsMessage file (msgs.Sess s d k) = (IsCount s × (d ≤ 1)) × HasParty file k

abbrev pub IsResend : Option ℕ → Type 0
IsResend None = ⊤
IsResend (Some n) = IsCount n

-- what a party did
abbrev pub IsAct : FileAt → NoteAt → Type 0
IsAct file Local = ⊤
IsAct file (Sent end msg) = IsEnd end × IsMessage file msg
IsAct file (Took end msg) = IsEnd end × IsMessage file msg
IsAct file (Shut end) = IsEnd end
IsAct file (Request sess to) = IsCount sess × HasParty file to
IsAct file (Accept sess from) = IsCount sess × HasParty file from
IsAct file _ = ⊥

-- what a frame said
abbrev pub IsSaid : FileAt → NoteAt → Type 0
IsSaid file (Carry to conn number taken msg) = IsEnd to × (IsCount conn × (IsCount number × (IsCount taken × IsMessage file msg)))
IsSaid file (Fin to conn number) = IsEnd to × (IsCount conn × IsCount number)
IsSaid file (Claim of) = IsEnd of
IsSaid file (Signal to conn party taken) = IsEnd to × (IsCount conn × (HasParty file party × IsCount taken))
IsSaid file (Ack of conn) = IsEnd of × IsCount conn
IsSaid file (Give of conn peer sent taken base resend) =
    IsEnd of × (IsCount conn × (HasParty file peer × (IsCount sent × (IsCount taken × (IsCount base × IsResend resend)))))
IsSaid file (Open sess) = IsCount sess
IsSaid file _ = ⊥

-- an act, or a frame from a party of the file
abbrev pub IsEvent : FileAt → Event → NoteAt → Type 0
IsEvent file Act note = IsAct file note
IsEvent file (Deliver from) note = HasParty file from × IsSaid file note

-- its clock is from 1 to 2^62, and its party and its event are of the file
pub record IsLegible (file : FileAt) (l : LineAt) : Type 0 where
  pub least : 1 ≤ l.entry.clock
  pub most : l.entry.clock ≤ clock_end
  pub party : HasParty file l.party
  pub event : IsEvent file l.entry.event l.entry.note

-- each of the lines
abbrev pub AreLegible : FileAt → List LineAt → Type 0
AreLegible file [] = ⊤
AreLegible file (l ∷ ls) = IsLegible file l × AreLegible file ls
