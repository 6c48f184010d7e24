-- A protocol from its `begin` on.
use Rattle.std.proofs.Common.{◌≡◌, ◌≢◌, ℕ, false, List, ◌∷◌, refl}
use Rattle.std.specs.Prelude.{codes}
use Rattle.sj_lang.specs.Place.{Place, done, message, choice, repeat}
use Rattle.sj_lang.specs.declared.file.Names.{Names}
use Rattle.sj_grammar.specs.declared.tokens.Fault.{Fault}
use Rattle.sj_lang.specs.Limits.{limits}
use Rattle.sj_grammar.specs.Reading.{Reading}
use Rattle.sj_grammar.specs.Names.{is_name, is_reserved}
use Rattle.sj_grammar.specs.Positions.{Takes}
use Rattle.sj_grammar.specs.Protocols.{dotted, seq_pieces}
use Rattle.sj_grammar.specs.ProtocolDues.{body, more, seq}
use Rattle.sj_grammar.specs.FileDues.{Due, proto, file_layer}
use Rattle.sj_grammar.specs.Faults.{Stuck}
use Rattle.sj_grammar.specs.Asked.{TakesText}
use Rattle.sj_grammar.proofs.StucknessLemmas.{stuck_cons}
use Rattle.sj_proto.specs.Parsed.{standing}
use Rattle.sj_proto.proofs.ExitLemmas.{plain}

pub no_name_begin : is_name (codes "begin") ≡ false
unfolding is_reserved
no_name_begin = refl

pub took_begin : (r q : Reading) (names : Names) → TakesText r (codes "begin") q → Takes (standing r names) (codes "begin") (standing q names)
took_begin r q names t = plain r q names (codes "begin") no_name_begin refl t

pub dotted_some : (word : ℕ → List ℕ) (p : Place) → p ≢ done → codes "." ∷ seq_pieces word p ≡ dotted word p
dotted_some word done some = absurd (some refl)
dotted_some word (message w k rest) some = refl
dotted_some word (choice w k rest) some = refl
dotted_some word (repeat w k rest) some = refl

-- after the `begin` and a dot
pub begun_stuck : (r q u : Reading) (names : Names) (n : ℕ) → TakesText r (codes "begin") q → TakesText q (codes ".") u → (ds : List Due) (f : Fault) → Stuck file_layer limits 0 (standing u names) (proto (seq 0) ∷ ds) f
    → Stuck file_layer limits n (standing r names) (proto body ∷ ds) f
begun_stuck r q u names n t v ds f st =
    stuck_cons file_layer limits n 0 (standing r names) (standing q names) (codes "begin") (proto body ∷ ds) (proto (more 0) ∷ ds) f (took_begin r q names t) refl
    (stuck_cons file_layer limits 0 0 (standing q names) (standing u names) (codes ".") (proto (more 0) ∷ ds) (proto (seq 0) ∷ ds) f (plain q u names (codes ".") refl refl v) refl st)
