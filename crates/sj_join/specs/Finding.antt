-- A run as it is found, or why it isn't.
use Rattle.std.specs.Prelude.{◌≡◌, ◌<◌, ℕ, ⊤, true, List, length, map, Option, Some, None, Vec}
use Rattle.std.specs.declared.alloc.Global.{Global}
use Rattle.sj_core.specs.Views.{line_at}
use Rattle.sj_end.specs.declared.note.Line.{Line}
use Rattle.sj_grammar.specs.Files.{IsFile}
use Rattle.sj_lang.specs.FileAt.{FileAt}
use Rattle.sj_lang.specs.FileView.{file_of}
use Rattle.sj_lang.specs.Limits.{IsWithin, file_limit, limits}
use Rattle.sj_lang.specs.declared.file.File.{File}
use Rattle.sj_remote.specs.declared.conn.Conn.{Conn}
use Rattle.sj_streams.specs.Reading.{CameAt}
use Rattle.sj_join.specs.Causes.{IsNoRead, IsNoText, IsUnanswered}
use Rattle.sj_join.specs.Joins.{IsJoinOf, IsNoJoin}
use Rattle.sj_join.specs.Talk.{Brings, Gives, IsAnswered}
use Rattle.sj_join.specs.Texts.{LackLines, has_all, texts_by}
use Rattle.sj_join.specs.declared.refusal.JoinRefusal.{JoinRefusal}
use Rattle.sj_join.specs.declared.refusal.JoinRefusal.TheVariants as joins
use Rattle.sj_join.specs.declared.sources.Found.{Found}

module _ {S K : Type 0} (left : S → Option (List ℕ)) where
  -- one command brought what stands in the streams of so many parties. Each entry has lines, and these are the joined ones
  pub record IsReadRun (old new : Conn S K) (run : List ℕ) (file : FileAt) (parties : ℕ) (lines : List Line) : Type 0 where
    pub came : List CameAt
    pub brought : IsAnswered left old new (Brings run parties came)
    pub all : (party : ℕ) → party < parties → has_all came party ≡ true
    pub joined : IsJoinOf file (texts_by came parties) (map line_at lines)

  -- the text came first, and is that file's
  pub record IsGiven (old new : Conn S K) (text : List ℕ) (file : FileAt) : Type 0 where
    pub given : IsAnswered left old new (Gives text)
    pub spelt : IsFile text file

  -- and then its run
  pub record IsFoundRun (old new : Conn S K) (run text : List ℕ) (file : FileAt) (lines : List Line) : Type 0 where
    pub between : Conn S K
    pub first : IsGiven old between text file
    pub read : IsReadRun between new run file (length file.parties) lines

  -- the text is that of a file, with its run; or of none
  abbrev pub IsFoundIn : (old new : Conn S K) → (run text : List ℕ) → Option (File × Vec Line Global) → Type 0
  IsFoundIn old new run text (Some found) = IsFoundRun old new run text (file_of found.0) found.1.items
  IsFoundIn old new run text None = IsAnswered left old new (Gives text) × ((file : FileAt) → IsFile text file → ⊥)

  abbrev pub IsFound : (old new : Conn S K) → (run : List ℕ) → Found → Type 0
  IsFound old new run f = IsFoundIn old new run f.text.items f.run

  module _ (faults : S → ℕ) (has_ended : S → Type 0) (unwritten : K → ℕ) where
    -- why a run isn't read: the streams don't come, an entry has no lines, or a log is none
    pub data IsNotRead (old new : Conn S K) (run : List ℕ) (file : FileAt) (parties : ℕ) (e : JoinRefusal) : Type 0 where
      NoStreams : IsUnanswered left faults has_ended unwritten old new (IsNoRead run parties) e → IsNotRead old new run file parties e
      NoLines : (came : List CameAt) → IsAnswered left old new (Brings run parties came) → LackLines came parties e → IsNotRead old new run file parties e
      NoLogs : (came : List CameAt) → IsAnswered left old new (Brings run parties came) → IsNoJoin file (texts_by came parties) e → IsNotRead old new run file parties e

    -- why none is found: the text doesn't come, or is too long; or its run isn't read
    pub data IsNotFound (old new : Conn S K) (run : List ℕ) (e : JoinRefusal) : Type 0 where
      NoMemory : e ≡ joins.NoMemory → IsNotFound old new run e
      NoText : IsUnanswered left faults has_ended unwritten old new IsNoText e → IsNotFound old new run e
      TooLarge : (text : List ℕ) → IsAnswered left old new (Gives text) → file_limit < length text → e ≡ joins.TooLarge → IsNotFound old new run e
      NoRun : (between : Conn S K) (text : List ℕ) (file : FileAt) → IsGiven old between text file → IsNotRead between new run file (length file.parties) e → IsNotFound old new run e

-- the file that is found, if one is, is within the limits of files
abbrev pub IsWithinIf : Option (File × Vec Line Global) → Type 0
IsWithinIf (Some found) = IsWithin limits (file_of found.0)
IsWithinIf None = ⊤

abbrev pub IsFoundWithin : Found → Type 0
IsFoundWithin f = IsWithinIf f.run
