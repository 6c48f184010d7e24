-- The generated text is the canonical text of the generated file.
use Rattle.std.proofs.Common.{◌≡◌, ℕ, List, [], ◌∷◌, ◌++◌, refl, ap, sym, ◌∙◌, append_assoc, append-nil}
use Rattle.std.specs.Prelude.{codes}
use Rattle.std.specs.Fmt.{digits}
use Rattle.sj_lang.specs.FileAt.{PartyAt}
use Rattle.sj_grammar.specs.Tables.{Spelling}
use Rattle.sj_grammar.specs.Files.{names_of}
use Rattle.sj_party.specs.CanonicalCode.{in_block, named_text, pair_text, valued_text, given_text}
use Rattle.sj_party.specs.CanonicalFile.{end_text, party_text, protocols_text, parties_text, connects_text, file_text}
use Rattle.sj_generator.specs.Generated as text
use Rattle.sj_generator.specs.Generated.{of_each, generated}
use Rattle.sj_generator_laws.specs.GeneratedFile as file
use Rattle.sj_generator_laws.specs.GeneratedFile.{generated_file}
use Rattle.sj_generator_laws.proofs.PartLemmas.{zero_is, one_is, two_is, three_is, four_is, connections_by, connections_text, group_text}

-- the file's names
abbrev names : Spelling
names = names_of (generated_file 0)

-- three parties and those after them
then_group : (p q r : PartyAt) (g rest : List ℕ) (others : List PartyAt) → g ≡ party_text names p ++ (party_text names q ++ party_text names r) → rest ≡ parties_text names others
    → g ++ rest ≡ parties_text names (p ∷ q ∷ r ∷ others)
then_group p q r g rest others is same =
    let a = party_text names p in let b = party_text names q in let c = party_text names r in
    ap (λ x. x ++ rest) is ∙ append_assoc a (b ++ c) rest ∙ ap (λ x. a ++ x) (append_assoc b c rest) ∙ ap (λ x. a ++ (b ++ (c ++ x))) same

-- each group, and the parties after it
group_zero : (n : ℕ) (rest : List ℕ) (others : List PartyAt) → rest ≡ parties_text names others → text.group n 0 ++ rest ≡ parties_text names (file.group 5 4 7 10 n 1 others)
unfolding digits in_block named_text pair_text valued_text given_text
group_zero n rest others same =
    then_group (file.sender 5 4 n 1) (file.giver 5 7) (file.adder 5 10) (text.group n 0) rest others (group_text n 0 (codes "0") _ _ _ zero_is refl refl refl) same

group_one : (n : ℕ) (rest : List ℕ) (others : List PartyAt) → rest ≡ parties_text names others → text.group n 1 ++ rest ≡ parties_text names (file.group 27 14 15 16 n 2 others)
unfolding digits in_block named_text pair_text valued_text given_text
group_one n rest others same =
    then_group (file.sender 27 14 n 2) (file.giver 27 15) (file.adder 27 16) (text.group n 1) rest others (group_text n 1 (codes "1") _ _ _ one_is refl refl refl) same

group_two : (n : ℕ) (rest : List ℕ) (others : List PartyAt) → rest ≡ parties_text names others → text.group n 2 ++ rest ≡ parties_text names (file.group 49 17 18 19 n 3 others)
unfolding digits in_block named_text pair_text valued_text given_text
group_two n rest others same =
    then_group (file.sender 49 17 n 3) (file.giver 49 18) (file.adder 49 19) (text.group n 2) rest others (group_text n 2 (codes "2") _ _ _ two_is refl refl refl) same

group_three : (n : ℕ) (rest : List ℕ) (others : List PartyAt) → rest ≡ parties_text names others → text.group n 3 ++ rest ≡ parties_text names (file.group 71 20 21 22 n 4 others)
unfolding digits in_block named_text pair_text valued_text given_text
group_three n rest others same =
    then_group (file.sender 71 20 n 4) (file.giver 71 21) (file.adder 71 22) (text.group n 3) rest others (group_text n 3 (codes "3") _ _ _ three_is refl refl refl) same

group_four : (n : ℕ) (rest : List ℕ) (others : List PartyAt) → rest ≡ parties_text names others → text.group n 4 ++ rest ≡ parties_text names (file.group 93 23 24 25 n 5 others)
unfolding digits in_block named_text pair_text valued_text given_text
group_four n rest others same =
    then_group (file.sender 93 23 n 5) (file.giver 93 24) (file.adder 93 25) (text.group n 4) rest others (group_text n 4 (codes "4") _ _ _ four_is refl refl refl) same

-- the connections of each group
connections_zero : text.connections 0 ≡ connects_text names (file.connections 115 4 7 10 [])
unfolding named_text pair_text end_text
connections_zero = connections_text 0 ∙ ap connections_by zero_is

connections_one : text.connections 1 ≡ connects_text names (file.connections 117 14 15 16 [])
unfolding named_text pair_text end_text
connections_one = connections_text 1 ∙ ap connections_by one_is

connections_two : text.connections 2 ≡ connects_text names (file.connections 119 17 18 19 [])
unfolding named_text pair_text end_text
connections_two = connections_text 2 ∙ ap connections_by two_is

connections_three : text.connections 3 ≡ connects_text names (file.connections 121 20 21 22 [])
unfolding named_text pair_text end_text
connections_three = connections_text 3 ∙ ap connections_by three_is

connections_four : text.connections 4 ≡ connects_text names (file.connections 123 23 24 25 [])
unfolding named_text pair_text end_text
connections_four = connections_text 4 ∙ ap connections_by four_is

-- the three parts of a file
protocols_same : text.protocols ≡ protocols_text names file.protocols
unfolding text.protocols
protocols_same = refl

parties_same : (n : ℕ) → of_each (text.group n) ≡ parties_text names (generated_file n).parties
parties_same n =
    let four = sym (append-nil (text.group n 4)) ∙ group_four n [] [] refl in
    let three = group_three n (text.group n 4) (file.group 93 23 24 25 n 5 []) four in
    let two = group_two n (text.group n 3 ++ text.group n 4) (file.group 71 20 21 22 n 4 (file.group 93 23 24 25 n 5 [])) three in
    let one = group_one n (text.group n 2 ++ (text.group n 3 ++ text.group n 4)) (file.group 49 17 18 19 n 3 (file.group 71 20 21 22 n 4 (file.group 93 23 24 25 n 5 []))) two in
    group_zero n (text.group n 1 ++ (text.group n 2 ++ (text.group n 3 ++ text.group n 4)))
    (file.group 27 14 15 16 n 2 (file.group 49 17 18 19 n 3 (file.group 71 20 21 22 n 4 (file.group 93 23 24 25 n 5 [])))) one

connects_same : of_each text.connections ≡ connects_text names (generated_file 0).connects
unfolding end_text pair_text named_text
connects_same = λ i. connections_zero i ++ (connections_one i ++ (connections_two i ++ (connections_three i ++ connections_four i)))

pub text_is_canonical : (n : ℕ) → generated n ≡ file_text (generated_file n)
text_is_canonical n = λ i. protocols_same i ++ (parties_same n i ++ connects_same i)
