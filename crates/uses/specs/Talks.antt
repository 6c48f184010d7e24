-- Two protocols of one text.
use Rattle.std.specs.Prelude.{◌≡◌, ◌↔◌, Bool, IsTrue, ℕ, List, [], ◌∷◌, length, ⊤}
use Rattle.sj_grammar.specs.Files.{IsFile}
use Rattle.sj_grammar.specs.declared.refusal.ParseRefusal.{ParseRefusal}
use Rattle.sj_grammar.specs.declared.refusal.ParseRefusal.TheVariants as parses
use Rattle.sj_lang.specs.FileAt.{FileAt, ProtocolAt}
use Rattle.sj_lang.specs.Meet.{Meets}
use Rattle.uses.specs.Refusals.{IsFirstFault}
use Rattle.uses.specs.declared.protocols.TalkRefusal.{TalkRefusal}
use Rattle.uses.specs.declared.protocols.TalkRefusal.TheVariants as refusals

-- the text stands for two protocols, and it is answered whether they meet
pub record CanTalk (text : List ℕ) (answer : Bool) : Type 0 where
  pub file : FileAt
  pub read : IsFile text file
  pub own : ProtocolAt
  pub peers : ProtocolAt
  pub two : file.protocols ≡ own ∷ peers ∷ []
  pub meet : IsTrue answer ↔ Meets own.body peers.body

-- the text stands for a file with so many protocols, which aren't two
pub record HasProtocols (text : List ℕ) (many : ℕ) : Type 0 where
  pub file : FileAt
  pub read : IsFile text file
  pub many_are : length file.protocols ≡ many
  pub not_two : many ≡ 2 → ⊥

-- why a text isn't read, as a refusal to answer
abbrev pub talk_refusal : ParseRefusal → TalkRefusal
talk_refusal (parses.At f) = refusals.At f
talk_refusal parses.NoMemory = refusals.NoMemory

-- why there is no answer: the text's first fault, or another number of protocols; out of memory
-- may come at any time
abbrev pub IsNoTalk : List ℕ → TalkRefusal → Type 0
IsNoTalk text (refusals.At f) = IsFirstFault text f
IsNoTalk text (refusals.Protocols many) = HasProtocols text many
IsNoTalk text refusals.NoMemory = ⊤
