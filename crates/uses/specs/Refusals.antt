-- Why a text has no accepted file.
use Rattle.std.specs.Prelude.{◌≡◌, ℕ, List, [], Some, ⊤}
use Rattle.sj_acceptance.specs.Faults.{first_fault}
use Rattle.sj_acceptance.specs.FileTests.{tests_of}
use Rattle.sj_check.specs.Rules.{number_of}
use Rattle.sj_check.specs.declared.refusal.CheckRefusal.{CheckRefusal}
use Rattle.sj_check.specs.declared.refusal.CheckRefusal.TheVariants as checks
use Rattle.sj_grammar.specs.Faults.{Stuck}
use Rattle.sj_grammar.specs.FileDues.{file_due, file_layer}
use Rattle.sj_grammar.specs.Files.{IsFile}
use Rattle.sj_grammar.specs.Positions.{start}
use Rattle.sj_grammar.specs.declared.refusal.ParseRefusal.{ParseRefusal}
use Rattle.sj_grammar.specs.declared.refusal.ParseRefusal.TheVariants as parses
use Rattle.sj_grammar.specs.declared.tokens.Fault.{Fault}
use Rattle.sj_lang.specs.FileAt.{FileAt}
use Rattle.sj_lang.specs.Limits.{limits}
use Rattle.uses.specs.declared.refusal.TextRefusal.{TextRefusal}
use Rattle.uses.specs.declared.refusal.TextRefusal.TheVariants as refusals

-- why a text isn't read, as a refusal of it
abbrev pub read_refusal : ParseRefusal → TextRefusal
read_refusal (parses.At f) = refusals.At f
read_refusal parses.NoMemory = refusals.NoMemory

-- why its file isn't accepted, likewise
abbrev pub check_refusal : CheckRefusal → TextRefusal
check_refusal (checks.At rule line) = refusals.Breaks rule line
check_refusal checks.NoMemory = refusals.NoMemory

-- the text stands for no file, and that is its first fault
abbrev pub IsFirstFault : List ℕ → Fault → Type 0
IsFirstFault text f = Stuck file_layer limits 0 (start text [] []) file_due f

-- the text stands for a file whose first fault is on that line, where it breaks that rule
pub record BreaksRule (text : List ℕ) (rule line : ℕ) : Type 0 where
  pub file : FileAt
  pub read : IsFile text file
  pub first : first_fault (tests_of file) ≡ Some (rule, line)

-- why the text has no accepted file; out of memory may come at any time
abbrev pub IsRefusalOf : List ℕ → TextRefusal → Type 0
IsRefusalOf text (refusals.At f) = IsFirstFault text f
IsRefusalOf text (refusals.Breaks rule line) = BreaksRule text (number_of rule) line
IsRefusalOf text refusals.NoMemory = ⊤
