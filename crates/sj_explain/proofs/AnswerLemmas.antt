-- What is known of a file that a text stands for is an answer to the text. A text that begins with
-- an answer's line says it.
use Rattle.std.proofs.Common.{◌≡◌, ℕ, Bool, List, ◌++◌, Some, refl, ap, sym, ◌∙◌}
use Rattle.std.specs.Prelude.{length}
use Rattle.sj_lang.specs.FileAt.{FileAt}
use Rattle.sj_grammar.specs.Files.{IsFile}
use Rattle.sj_acceptance.specs.Accepted.{IsAccepted}
use Rattle.sj_acceptance.specs.Faults.{first_fault}
use Rattle.sj_acceptance.specs.FileTests.{tests_of}
use Rattle.sj_explain.specs.declared.answers.CheckAnswer.{CheckAnswer}
use Rattle.sj_explain.specs.Answers.{IsFaulty, IsRight, TellsIt, lead_of}

pub faulty : (text : List ℕ) (file : FileAt) (rule line : ℕ) → IsFile text file → first_fault (tests_of file) ≡ Some (rule, line) → IsFaulty text rule line
faulty text file rule line stands fault = record { file = file; stands = stands; fault = fault }

pub right : (text : List ℕ) (file : FileAt) → IsFile text file → IsAccepted file → IsRight text (length file.parties) (length file.connects)
right text file stands accepted = record { file = file; stands = stands; accepted = accepted; parties_are = refl; sessions_are = refl }

pub tells : (answer : CheckAnswer) (drawn : Bool) (text lead more : List ℕ) → lead_of answer drawn ≡ lead → text ≡ lead ++ more → TellsIt answer drawn text
tells answer drawn text lead more same is = record { more = more; is = is ∙ ap (λ l. l ++ more) (sym same) }
