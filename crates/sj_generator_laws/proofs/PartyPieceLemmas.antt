-- The generated file as pieces of the grammar.
use Rattle.std.proofs.Common.{◌≡◌, ℕ, ◌+◌, ◌<◌, true, pos, List, [], ◌∷◌, ◌++◌, refl, sym, subst, arith}
use Rattle.std.specs.Prelude.{codes}
use Rattle.std.specs.Str.Parse.{digits_value}
use Rattle.sj_lang.specs.declared.party.Op.TheVariants.{Add}
use Rattle.sj_lang.specs.Term as term
use Rattle.sj_lang.specs.FileAt.{PartyAt}
use Rattle.sj_grammar.specs.Lexis.{most}
use Rattle.sj_lang.specs.Limits.{limits}
use Rattle.sj_grammar.specs.Literals.{is_number}
use Rattle.sj_grammar.specs.Tables.{Spelling, IsNamed}
use Rattle.sj_grammar.specs.Positions.{Piece, plain, first_on}
use Rattle.sj_grammar.specs.Expressions.{Spelt, factor, IsExpression}
use Rattle.sj_grammar.specs.Expressions as spelt
use Rattle.sj_grammar.specs.Statements.{braced, IsCode}
use Rattle.sj_grammar.specs.Statements as code
use Rattle.sj_grammar.specs.Files.{AreParties, names_of}
use Rattle.sj_grammar.specs.Files as files
use Rattle.sj_generator_laws.specs.GeneratedFile as file
use Rattle.sj_generator_laws.specs.GeneratedFile.{generated_file}
use Rattle.sj_generator_laws.proofs.NameLemmas.{name_v, name_x, name_r, name_z, name_y, name_u, name_s, name_k}

-- the file's names
abbrev pub names : Spelling
names = names_of (generated_file 0)

-- ---- expressions

-- digits that stand for that number
pub record Spell (d : List ℕ) (n : ℕ) : Type 0 where
  pub number : is_number d ≡ true
  pub value : digits_value 10 d ≡ n
  pub small : n < most

int_spelt : (d : List ℕ) (n : ℕ) → Spell d n → IsExpression limits names (term.int (pos n)) (d ∷ [])
int_spelt d n h = record {
  spelt = spelt.of_sum (spelt.of_term (spelt.of_factor (subst (λ (v : ℕ). Spelt limits names factor 0 (term.int (pos v)) (d ∷ [])) h.value
      (spelt.of_number h.number (subst (λ (v : ℕ). v < most) (sym h.value) h.small)))));
  few = omega arith;
}

zero_spelt : IsExpression limits names (term.int (pos 0)) (codes "0" ∷ [])
zero_spelt = int_spelt (codes "0") 0 (record { number = refl; value = refl; small = omega arith })

sum_spelt : IsExpression limits names (term.var 12) (codes "s" ∷ [])
sum_spelt = record { spelt = spelt.of_sum (spelt.of_term (spelt.of_factor (spelt.of_name name_s))); few = omega arith }

added_spelt : IsExpression limits names (term.two Add (term.var 12) (term.var 13)) (codes "s" ∷ codes "+" ∷ codes "k" ∷ [])
added_spelt = record { spelt = spelt.of_sum (spelt.of_addition (spelt.of_term (spelt.of_factor (spelt.of_name name_s))) (spelt.of_factor (spelt.of_name name_k))); few = omega arith }

-- ---- parties

abbrev sender_pieces : ℕ → List ℕ → List ℕ → List Piece
sender_pieces line d v =
    first_on (line + 1) (codes "outwhile") ∷ plain (codes "x") ∷ plain d ∷ plain (codes "{") ∷ first_on (line + 2) (codes "send") ∷
    plain (codes "x") ∷ plain v ∷ plain (codes ";") ∷ plain (codes "}") ∷ first_on (line + 4) (codes "recv") ∷ plain (codes "x") ∷
    plain (codes "r") ∷ plain (codes "int") ∷ plain (codes ";") ∷ first_on (line + 5) (codes "close") ∷ plain (codes "x") ∷ plain (codes ";") ∷ []

sender_code : (line a n number : ℕ) (d v : List ℕ) → Spell d n → Spell v number → IsCode limits names 0 (file.sender line a n number).code (sender_pieces line d v)
sender_code line a n number d v h k =
    code.one_more (code.of_outwhile name_x (int_spelt d n h) (code.of_code (omega arith) (code.one_more (code.of_send name_x (int_spelt v number k)) code.none)))
    (code.one_more (code.of_take name_x name_r) (code.one_more (code.of_close name_x) code.none))

abbrev giver_pieces : ℕ → List Piece
giver_pieces line =
    first_on (line + 8) (codes "delegate") ∷ plain (codes "z") ∷ plain (codes "y") ∷ plain (codes ";") ∷ first_on (line + 9) (codes "close") ∷
    plain (codes "z") ∷ plain (codes ";") ∷ []

giver_code : (line b : ℕ) → IsCode limits names 0 (file.giver line b).code (giver_pieces line)
giver_code line b = code.one_more (code.of_delegate name_z name_y) (code.one_more (code.of_close name_z) code.none)

abbrev adder_pieces : ℕ → List Piece
adder_pieces line =
    first_on (line + 12) (codes "recv") ∷ plain (codes "u") ∷ plain (codes "y") ∷ plain (codes "session") ∷ plain (codes "v") ∷ plain (codes ";") ∷
    first_on (line + 13) (codes "let") ∷ plain (codes "s") ∷ plain (codes "=") ∷ plain (codes "0") ∷ plain (codes ";") ∷
    first_on (line + 14) (codes "inwhile") ∷ plain (codes "y") ∷ plain (codes "{") ∷ first_on (line + 15) (codes "recv") ∷ plain (codes "y") ∷
    plain (codes "k") ∷ plain (codes "int") ∷ plain (codes ";") ∷ first_on (line + 16) (codes "let") ∷ plain (codes "s") ∷ plain (codes "=") ∷
    plain (codes "s") ∷ plain (codes "+") ∷ plain (codes "k") ∷ plain (codes ";") ∷ plain (codes "}") ∷ first_on (line + 18) (codes "send") ∷
    plain (codes "y") ∷ plain (codes "s") ∷ plain (codes ";") ∷ first_on (line + 19) (codes "close") ∷ plain (codes "y") ∷ plain (codes ";") ∷
    first_on (line + 20) (codes "close") ∷ plain (codes "u") ∷ plain (codes ";") ∷ []

adder_code : (line c : ℕ) → IsCode limits names 0 (file.adder line c).code (adder_pieces line)
adder_code line c =
    code.one_more (code.of_take_end name_u name_y name_v) (code.one_more (code.of_let name_s zero_spelt)
    (code.one_more (code.of_inwhile name_y (code.of_code (omega arith) (code.one_more (code.of_take name_y name_k) (code.one_more (code.of_let name_s added_spelt) code.none))))
    (code.one_more (code.of_send name_y sum_spelt) (code.one_more (code.of_close name_y) (code.one_more (code.of_close name_u) code.none)))))

-- three parties, and those after them
abbrev pub group_pieces : ℕ → ℕ → ℕ → ℕ → List ℕ → List ℕ → List Piece → List Piece
group_pieces line a b c d v rest =
    first_on line (codes "party") ∷ plain (names.word a) ∷ (braced (sender_pieces line d v)
    ++ first_on (line + 7) (codes "party") ∷ plain (names.word b) ∷ (braced (giver_pieces line)
    ++ first_on (line + 11) (codes "party") ∷ plain (names.word c) ∷ (braced (adder_pieces line) ++ rest)))

pub group_spelled : (line a b c n number : ℕ) (d v : List ℕ) (others : List PartyAt) (rest : List Piece) → IsNamed limits names.word a → IsNamed limits names.word b → IsNamed limits names.word c
    → Spell d n → Spell v number → AreParties limits names others rest → AreParties limits names (file.group line a b c n number others) (group_pieces line a b c d v rest)
group_spelled line a b c n number d v others rest first second third h k more =
    files.one_party first (sender_code line a n number d v h k) (files.one_party second (giver_code line b) (files.one_party third (adder_code line c) more))
