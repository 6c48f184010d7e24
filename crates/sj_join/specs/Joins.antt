-- The logs of parties, as their lines have them, and joined.
use Rattle.std.specs.Prelude.{◌≡◌, ◌<◌, ◌==◌, ◌⊎◌, ℕ, ◌+◌, List, [], ◌∷◌, length, map, get_or, Some, Vec, ⊤, false}
use Rattle.std.specs.List.{list_all}
use Rattle.std.specs.declared.alloc.Global.{Global}
use Rattle.sj_core.specs.Given.{given_log, line_by}
use Rattle.sj_core.specs.Views.{entry_at}
use Rattle.sj_end.specs.declared.note.Entry.{Entry}
use Rattle.sj_lang.specs.FileAt.{FileAt}
use Rattle.sj_lang.specs.Limits.{source_limit}
use Rattle.sj_log.specs.LogText.{SpellsLog, fault_of, log_read}
use Rattle.sj_rules.specs.Log.{EntryAt, LineAt, IsJoined, IsRising}
use Rattle.sj_join.specs.declared.refusal.JoinRefusal.{JoinRefusal}
use Rattle.sj_join.specs.declared.refusal.JoinRefusal.TheVariants as joins

-- the text is the log of the party with these entries, and its clocks rise
pub record IsLogIn (file : FileAt) (party : ℕ) (text : List ℕ) (entries : List EntryAt) : Type 0 where
  pub spelt : SpellsLog 2 file text (map (line_by party) entries)
  pub rising : IsRising 0 entries

-- the texts are the logs of the parties from that one on
abbrev pub AreLogsFrom : FileAt → (party : ℕ) → (texts : List (List ℕ)) → (logs : List (Vec Entry Global)) → Type 0
AreLogsFrom file party [] [] = ⊤
AreLogsFrom file party [] (log ∷ logs) = ⊥
AreLogsFrom file party (text ∷ texts) (log ∷ logs) = IsLogIn file party text (map entry_at log.items) × AreLogsFrom file (party + 1) texts logs
AreLogsFrom file party (text ∷ texts) [] = ⊥

-- the lines are those of the texts of all parties, by clock and then by party
pub record IsJoinOf (file : FileAt) (texts : List (List ℕ)) (lines : List LineAt) : Type 0 where
  pub logs : List (Vec Entry Global)
  pub read : AreLogsFrom file 0 texts logs
  pub joined : IsJoined (given_log logs) lines

-- these lines aren't all of the party, or their clocks don't rise
abbrev pub IsDisorder : (party : ℕ) → List LineAt → Type 0
IsDisorder party lines = (list_all (λ l. l.party == party) lines ≡ false) ⊎ (IsRising 0 (map (λ l. l.entry) lines) → ⊥)

-- why the text isn't the log of that party: its length, its first line that isn't in the grammar, or its lines; out of memory
-- says nothing
abbrev pub IsNoLogIn : FileAt → (party : ℕ) → (text : List ℕ) → JoinRefusal → Type 0
IsNoLogIn file party text joins.NoMemory = ⊤
IsNoLogIn file party text joins.TooLarge = source_limit < length text
IsNoLogIn file party text (joins.NoLog p rule line) = (p ≡ party) × (fault_of (log_read 2 file text) ≡ Some (rule, line))
IsNoLogIn file party text (joins.Disorder p) = (p ≡ party) × ((lines : List LineAt) × SpellsLog 2 file text lines × IsDisorder party lines)
IsNoLogIn file party text _ = ⊥

-- one of the texts isn't the log of its party
pub record HasNoLog (file : FileAt) (texts : List (List ℕ)) (e : JoinRefusal) : Type 0 where
  pub party : ℕ
  pub there : party < length texts
  pub fault : IsNoLogIn file party (get_or texts party []) e

-- why there is no join
abbrev pub IsNoJoin : FileAt → (texts : List (List ℕ)) → JoinRefusal → Type 0
IsNoJoin file texts joins.NoMemory = ⊤
IsNoJoin file texts e = HasNoLog file texts e
