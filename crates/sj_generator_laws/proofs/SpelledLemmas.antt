-- The generated file is spelled as its tokens.
use Rattle.std.proofs.Common.{ℕ, List, [], ◌++◌, refl, arith}
use Rattle.std.specs.Prelude.{codes}
use Rattle.std.specs.List.{All}
use Rattle.std.proofs.lemmas.List.Elements.{All-from_recursion}
use Rattle.sj_lang.specs.Limits.{limits}
use Rattle.sj_grammar.specs.Files.{IsProtocolDef, IsConnect, AreParties, IsSpelled}
use Rattle.sj_grammar.specs.Files as files
use Rattle.sj_generator_laws.specs.GeneratedFile as file
use Rattle.sj_generator_laws.specs.GeneratedFile.{generated_file}
use Rattle.sj_generator_laws.proofs.TokenRunLemmas.{Tok, pieces_of}
use Rattle.sj_generator_laws.proofs.GroupTokenLemmas.{protocol_tokens, sender_tokens, giver_tokens, adder_tokens, connect_tokens}
use Rattle.sj_generator_laws.proofs.NameLemmas.{name_w, name_v, name_g, name_h, name_a0, name_x, name_b0, name_z, name_y, name_c0, name_u, name_a1, name_b1, name_c1, name_a2, name_b2, name_c2, name_a3, name_b3, name_c3, name_a4, name_b4, name_c4}
use Rattle.sj_generator_laws.proofs.PartyPieceLemmas.{names, Spell, group_pieces, group_spelled}

-- ---- all tokens

abbrev pub group_tokens : List ℕ → List ℕ → List ℕ → List Tok → List Tok
group_tokens e d v ks = sender_tokens e d v ++ (giver_tokens e ++ (adder_tokens e ++ ks))

abbrev pub parties_tokens : List ℕ → List Tok → List Tok
parties_tokens d ks =
    group_tokens (codes "0") d (codes "1") (group_tokens (codes "1") d (codes "2") (group_tokens (codes "2") d (codes "3")
    (group_tokens (codes "3") d (codes "4") (group_tokens (codes "4") d (codes "5") ks))))

abbrev pub connects_tokens : List Tok
connects_tokens =
    connect_tokens (codes "0") ++ (connect_tokens (codes "1") ++ (connect_tokens (codes "2") ++ (connect_tokens (codes "3") ++ connect_tokens (codes "4"))))

abbrev pub all_tokens : List ℕ → List Tok
all_tokens d = protocol_tokens ++ parties_tokens d connects_tokens

-- ---- what the grammar asks of them

protocols_are : All (IsProtocolDef limits names) file.protocols
protocols_are = All-from_recursion (IsProtocolDef limits names) file.protocols (
  record { name = name_w; body = record { given = (omega arith, (omega arith, tt, tt), (omega arith, tt, tt)); few = omega arith } },
  (
    record { name = name_v; body = record { given = (omega arith, (omega arith, tt, tt), (omega arith, tt, tt)); few = omega arith } },
    (
      record { name = name_g; body = record { given = (omega arith, (λ e. absurd (cc), (omega arith, (omega arith, tt, tt), (omega arith, tt, tt))), tt); few = omega arith } },
      (
        record { name = name_h; body = record { given = (omega arith, (λ e. absurd (cc), (omega arith, (omega arith, tt, tt), (omega arith, tt, tt))), tt); few = omega arith } },
        tt,
      ),
    ),
  ),
)

connects_are : All (IsConnect limits names) (generated_file 0).connects
connects_are = All-from_recursion (IsConnect limits names) (generated_file 0).connects (
  record { first = record { party = name_a0; name = name_x; protocol = name_w }; second = record { party = name_b0; name = name_y; protocol = name_v } },
  (
    record { first = record { party = name_b0; name = name_z; protocol = name_g }; second = record { party = name_c0; name = name_u; protocol = name_h } },
    (
      record { first = record { party = name_a1; name = name_x; protocol = name_w }; second = record { party = name_b1; name = name_y; protocol = name_v } },
      (
        record { first = record { party = name_b1; name = name_z; protocol = name_g }; second = record { party = name_c1; name = name_u; protocol = name_h } },
        (
          record { first = record { party = name_a2; name = name_x; protocol = name_w }; second = record { party = name_b2; name = name_y; protocol = name_v } },
          (
            record { first = record { party = name_b2; name = name_z; protocol = name_g }; second = record { party = name_c2; name = name_u; protocol = name_h } },
            (
              record { first = record { party = name_a3; name = name_x; protocol = name_w }; second = record { party = name_b3; name = name_y; protocol = name_v } },
              (
                record { first = record { party = name_b3; name = name_z; protocol = name_g }; second = record { party = name_c3; name = name_u; protocol = name_h } },
                (
                  record { first = record { party = name_a4; name = name_x; protocol = name_w }; second = record { party = name_b4; name = name_y; protocol = name_v } },
                  (
                    record { first = record { party = name_b4; name = name_z; protocol = name_g }; second = record { party = name_c4; name = name_u; protocol = name_h } },
                    tt,
                  ),
                ),
              ),
            ),
          ),
        ),
      ),
    ),
  ),
)

parties_are : (n : ℕ) (d : List ℕ) → Spell d n → AreParties limits names (generated_file n).parties (pieces_of 4 (parties_tokens d []))
parties_are n d h =
    let p4 = group_pieces 93 23 24 25 d (codes "5") [] in
    let q4 = group_spelled 93 23 24 25 n 5 d (codes "5") [] [] name_a4 name_b4 name_c4 h (record { number = refl; value = refl; small = omega arith }) files.no_party in
    let p3 = group_pieces 71 20 21 22 d (codes "4") p4 in
    let q3 = group_spelled 71 20 21 22 n 4 d (codes "4") (file.group 93 23 24 25 n 5 []) p4 name_a3 name_b3 name_c3 h (record { number = refl; value = refl; small = omega arith }) q4 in
    let p2 = group_pieces 49 17 18 19 d (codes "3") p3 in
    let q2 = group_spelled 49 17 18 19 n 3 d (codes "3") (file.group 71 20 21 22 n 4 (file.group 93 23 24 25 n 5 [])) p3 name_a2 name_b2 name_c2 h (record { number = refl; value = refl; small = omega arith }) q3 in
    let p1 = group_pieces 27 14 15 16 d (codes "2") p2 in
    let q1 = group_spelled 27 14 15 16 n 2 d (codes "2") (file.group 49 17 18 19 n 3 (file.group 71 20 21 22 n 4 (file.group 93 23 24 25 n 5 []))) p2 name_a1 name_b1 name_c1 h (record { number = refl; value = refl; small = omega arith }) q2 in
    let p0 = group_pieces 5 4 7 10 d (codes "1") p1 in
    let q0 = group_spelled 5 4 7 10 n 1 d (codes "1") (file.group 27 14 15 16 n 2 (file.group 49 17 18 19 n 3 (file.group 71 20 21 22 n 4 (file.group 93 23 24 25 n 5 [])))) p1 name_a0 name_b0 name_c0 h (record { number = refl; value = refl; small = omega arith }) q1 in
    q0

pub file_spelled : (n : ℕ) (d : List ℕ) → Spell d n → IsSpelled limits (generated_file n) (pieces_of 1 (all_tokens d))
file_spelled n d h = record {
  parties = pieces_of 4 (parties_tokens d []);
  same = refl;
  all_protocols = protocols_are;
  all_parties = parties_are n d h;
  all_connects = connects_are;
  few_protocols = omega arith;
  few_parties = omega arith;
  few_connects = omega arith;
}
