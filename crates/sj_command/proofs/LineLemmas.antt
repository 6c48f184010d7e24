-- What clap's error says of the words.
use Rattle.std.proofs.Common.{◌≡◌, ◌∙◌, List, inl, inr, ap, refl, subst}
use Rattle.std.specs.Prelude.{true}
use Rattle.clap.specs.declared.error.Error.{Error}
use Rattle.clap.specs.declared.error.kind.ErrorKind.TheVariants as kind
use Rattle.clap.specs.Kinds.{HasKind, IsAmong, Kinds}
use Rattle.clap.specs.Values.{kind_of}
use Rattle.clap.specs.Words.{App, Text, fault_of, is_simple_and_free}
use Rattle.sj_command.specs.CommandLine.{IsTaken, line}

line_is_simple : is_simple_and_free line ≡ true
line_is_simple = refl

-- an error of another kind than out of memory comes of words that break a rule of the line
pub broken_by : (app : App) (words : List Text) (e : Error) → app ≡ line → (is_simple_and_free app ≡ true → HasKind (fault_of app words) e)
    → (kind_of e ≡ kind.OutOfMemory → ⊥) → IsTaken words → ⊥
broken_by app words e is fails other taken =
    elim (fails (ap is_simple_and_free is ∙ line_is_simple)) [
      | inl memory ↦ other memory
      | inr among ↦ subst (λ (ks : Kinds). IsAmong (kind_of e) ks) (ap (λ (a : App). fault_of a words) is ∙ taken) among
    ]
