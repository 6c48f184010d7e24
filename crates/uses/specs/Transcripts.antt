-- The transcript of a text's file.
use Rattle.std.specs.Prelude.{◌≡◌, ℕ, List}
use Rattle.sj_acceptance.specs.Accepted.{IsAccepted}
use Rattle.sj_grammar.specs.Files.{IsFile}
use Rattle.sj_lang.specs.FileAt.{FileAt}
use Rattle.sj_semantics.specs.Run.{end_of}
use Rattle.sj_semantics.specs.Transcript.{transcript_of}

-- the text stands for an accepted file, of whose end that is the transcript
pub record IsTranscriptIn (text transcript : List ℕ) : Type 0 where
  pub file : FileAt
  pub read : IsFile text file
  pub accepted : IsAccepted file
  pub is : transcript ≡ transcript_of file (end_of file)
