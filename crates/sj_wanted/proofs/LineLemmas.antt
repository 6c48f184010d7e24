-- The line of the tokens that may stand at a place.
use Rattle.std.proofs.Common.{◌≡◌, ◌∙◌, ℕ, Bool, List, ◌++◌, ap, append_assoc}
use Rattle.std.specs.Prelude.{codes}
use Rattle.sj_wanted.specs.Table.{chosen, shown, wanted_line}

-- its lead, the words and its end, put one after another
pub line_is : (old led named all : List ℕ) (marks slice : List Bool) → led ≡ old ++ codes "wanted one of:" → slice ≡ marks → named ≡ led ++ chosen slice shown → all ≡ named ++ codes "\n"
    → all ≡ old ++ wanted_line marks
line_is old led named all marks slice lead same words end =
    end ∙ ap (λ t. t ++ codes "\n") (words ∙ ap (λ m. led ++ chosen m shown) same ∙ ap (λ t. t ++ chosen marks shown) lead)
    ∙ append_assoc (old ++ codes "wanted one of:") (chosen marks shown) (codes "\n")
    ∙ append_assoc old (codes "wanted one of:") (chosen marks shown ++ codes "\n")
