-- The generated text stands for the generated file, by any digits that stand
-- for the number of messages.
use Rattle.std.proofs.Common.{◌≡◌, ℕ, true, false, List, [], ◌∷◌, ◌++◌, take, drop, refl, ap, sym, subst, ◌∙◌}
use Rattle.std.specs.Prelude.{codes, if◌then◌else◌}
use Rattle.std.specs.List.{list_all}
use Rattle.sj_grammar.specs.Bytes.{is_word_byte}
use Rattle.sj_grammar.specs.Files.{IsFile}
use Rattle.sj_grammar.specs.Literals.{is_number, is_text, inner}
use Rattle.sj_grammar.specs.Names.{is_name, is_reserved}
use Rattle.sj_grammar.specs.Positions.{Pieces, at, spellings, start, BeginsOnLines}
use Rattle.sj_grammar.specs.Tables.{with_entry}
use Rattle.sj_grammar.proofs.LexingLemmas.{read}
use Rattle.sj_grammar.proofs.LexedTableLemmas.{words_behind, texts_behind}
use Rattle.sj_generator_laws.specs.GeneratedFile.{words, generated_file}
use Rattle.sj_generator_laws.proofs.TokenRunLemmas.{Tok, text_of, pieces_of, AreTaken, begins, taken_append}
use Rattle.sj_generator_laws.proofs.GroupTokenLemmas.{nl, protocol_tokens, sender_tokens, giver_tokens, adder_tokens, connect_tokens}
use Rattle.sj_generator_laws.proofs.TakenTokenLemmas.{AreRead, sender_taken, giver_taken, adder_taken, connect_taken, protocol_taken}
use Rattle.sj_generator_laws.proofs.PartyPieceLemmas.{Spell}
use Rattle.sj_generator_laws.proofs.SpelledLemmas.{group_tokens, parties_tokens, connects_tokens, all_tokens, file_spelled}

-- ---- all tokens are taken

group_taken : (e d v : List ℕ) (ks : List Tok) (rest : List ℕ) → list_all is_word_byte e ≡ true → AreRead d → AreRead v → AreTaken ks rest → AreTaken (group_tokens e d v ks) rest
group_taken e d v ks rest named is_d is_v more =
    let adders = adder_tokens e ++ ks in
    let givers = giver_tokens e ++ adders in
    taken_append (sender_tokens e d v) givers rest (sender_taken e named (text_of givers ++ rest) d v is_d is_v)
    (taken_append (giver_tokens e) adders rest (giver_taken e named (text_of adders ++ rest)) (taken_append (adder_tokens e) ks rest (adder_taken e named (text_of ks ++ rest)) more))

connects_taken : AreTaken connects_tokens nl
connects_taken =
    let four = connect_tokens (codes "4") in
    let three = connect_tokens (codes "3") ++ four in
    let two = connect_tokens (codes "2") ++ three in
    let one = connect_tokens (codes "1") ++ two in
    taken_append (connect_tokens (codes "0")) one nl (connect_taken (codes "0") refl (text_of one ++ nl))
    (taken_append (connect_tokens (codes "1")) two nl (connect_taken (codes "1") refl (text_of two ++ nl))
    (taken_append (connect_tokens (codes "2")) three nl (connect_taken (codes "2") refl (text_of three ++ nl))
    (taken_append (connect_tokens (codes "3")) four nl (connect_taken (codes "3") refl (text_of four ++ nl)) (connect_taken (codes "4") refl nl))))

module _ (reads : (s : List ℕ) → is_number s ≡ true → AreRead s) where
  parties_taken : (d : List ℕ) (ks : List Tok) (rest : List ℕ) → AreRead d → AreTaken ks rest → AreTaken (parties_tokens d ks) rest
  parties_taken d ks rest is_d more =
      let last = group_tokens (codes "4") d (codes "5") ks in
      let fourth = group_tokens (codes "3") d (codes "4") last in
      let third = group_tokens (codes "2") d (codes "3") fourth in
      let second = group_tokens (codes "1") d (codes "2") third in
      group_taken (codes "0") d (codes "1") second rest refl is_d (reads (codes "1") refl) (group_taken (codes "1") d (codes "2") third rest refl is_d (reads (codes "2") refl)
      (group_taken (codes "2") d (codes "3") fourth rest refl is_d (reads (codes "3") refl) (group_taken (codes "3") d (codes "4") last rest refl is_d (reads (codes "4") refl)
      (group_taken (codes "4") d (codes "5") ks rest refl is_d (reads (codes "5") refl) more))))

  all_taken : (d : List ℕ) → AreRead d → AreTaken (all_tokens d) nl
  all_taken d is_d =
      let parties = parties_tokens d connects_tokens in
      taken_append protocol_tokens parties nl (protocol_taken (drop 1 (text_of parties ++ nl))) (parties_taken d connects_tokens nl is_d connects_taken)

-- ---- the tables

abbrev all_spelled : List ℕ → Pieces
all_spelled d = spellings (pieces_of 1 (all_tokens d))

words_are : (d : List ℕ) → is_name d ≡ false → words_behind [] (all_spelled d) ≡ words
unfolding is_reserved
words_are d none =
    let all = all_spelled d in
    past (take 6 words) (drop 88 all) ∙ past (take 15 words) (drop 161 all) ∙ past (take 18 words) (drop 234 all) ∙ past (take 21 words) (drop 307 all) ∙ past (take 24 words) (drop 380 all)
  where
    past : (ws : List (List ℕ)) (ps : Pieces) → words_behind ws (d ∷ ps) ≡ words_behind ws ps
    past ws ps = ap (λ b. words_behind (if b then with_entry ws d else ws) ps) none

texts_are : (d : List ℕ) → is_text d ≡ false → texts_behind [] (all_spelled d) ≡ []
texts_are d none =
    let all = all_spelled d in
    past (drop 88 all) ∙ past (drop 161 all) ∙ past (drop 234 all) ∙ past (drop 307 all) ∙ past (drop 380 all)
  where
    past : (ps : Pieces) → texts_behind [] (d ∷ ps) ≡ texts_behind [] ps
    past ps = ap (λ b. texts_behind (if b then with_entry [] (inner d) else []) ps) none

-- ---- the file

pub is_file : (reads : (s : List ℕ) → is_number s ≡ true → AreRead s) (n : ℕ) (d bytes : List ℕ) → Spell d n → is_name d ≡ false → is_text d ≡ false → bytes ≡ text_of (all_tokens d) ++ nl → IsFile bytes (generated_file n)
is_file reads n d bytes h no_name no_text whole =
    let ks = all_tokens d in
    let pieces = pieces_of 1 ks in
    let end = at (read (text_of ks) nl) (words_behind [] (spellings pieces)) (texts_behind [] (spellings pieces)) in
    record {
      pieces = pieces;
      spelled = file_spelled n d h;
      end = end;
      begins = subst (λ (xs : List ℕ). BeginsOnLines (start xs [] []) pieces end) (sym whole) (begins ks [] nl 1 [] [] refl (all_taken reads d (reads d h.number)));
      whole = refl;
      words = words_are d no_name;
      texts = texts_are d no_text;
    }
