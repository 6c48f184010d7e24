-- Where the first fault of a text with a token after it stands.
use Rattle.std.proofs.Common.{◌≡◌, ◌∙◌, ℕ, ◌+◌, ◌≤◌, true, false, ◌&&◌, ◌==◌, List, [], ◌++◌, length, length-append, ap, sym, arith}
use Rattle.std.specs.Prelude.{codes}
use Rattle.std.proofs.lemmas.Bool.{eq-eqb}
use Rattle.sj_lang.specs.FileAt.{FileAt}
use Rattle.sj_lang.specs.Limits.{limits, file_limit}
use Rattle.sj_grammar.specs.declared.tokens.Fault.{Fault}
use Rattle.sj_grammar.specs.Positions.{start}
use Rattle.sj_grammar.specs.Reading.{line_number}
use Rattle.sj_grammar.specs.Files.{IsFile}
use Rattle.sj_grammar.specs.FileDues.{file_layer, file_due}
use Rattle.sj_grammar.specs.Faults.{Stuck}
use Rattle.sj_party.proofs.Faultless.{no_fault}
use Rattle.sj_party_laws.proofs.OneFault.{one_fault}
use Rattle.sj_wanted.specs.Trial.{HasFaultThere, MayStand, begins_line, front_limit, token_limit, with_token}

-- such a text isn't too long to be read
pub short : (front token : List ℕ) → length front ≤ front_limit → length token ≤ token_limit → length (with_token front token) ≤ file_limit
short front token few less = omega (arith, length-append front (codes "\n" ++ token), length-append (codes "\n") token)

-- a whole file has no fault
pub whole : (front token : List ℕ) (file : FileAt) → IsFile (with_token front token) file → MayStand front token
whole front token file is there = no_fault (with_token front token) file there.fault is there.first

-- the first fault stands elsewhere
pub elsewhere : (front token : List ℕ) (f : Fault) → Stuck file_layer limits 0 (start (with_token front token) [] []) file_due f
    → begins_line f (line_number front + 1) ≡ false → MayStand front token
elsewhere front token f first off there =
    let same : f ≡ there.fault = one_fault (with_token front token) f there.fault first there.first in
    let line : (f.line == (line_number front + 1)) ≡ true = eq-eqb f.line (line_number front + 1) (ap (λ g. g.line) same ∙ there.line) in
    let column : (f.column == 1) ≡ true = eq-eqb f.column 1 (ap (λ g. g.column) same ∙ there.column) in
    let on : begins_line f (line_number front + 1) ≡ true = λ i. line i && column i in
    let both : true ≡ false = sym on ∙ off in cc

-- or it is there
pub there : (front token : List ℕ) (f : Fault) → Stuck file_layer limits 0 (start (with_token front token) [] []) file_due f
    → begins_line f (line_number front + 1) ≡ true → HasFaultThere front token
there front token f first on = record { fault = f; first = first; line = grind arith; column = grind arith }
