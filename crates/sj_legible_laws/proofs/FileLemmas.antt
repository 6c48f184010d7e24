-- In a file that a text stands for each name is a word and the first of its table. Each text that
-- was read is the first of its own.
use Rattle.std.proofs.Common.{◌≡◌, ℕ, ◌<◌, ◌≤◌, true, List, [], ◌∷◌, length, slice_get, Some, ap, ◌∙◌, arith}
use Rattle.std.specs.Prelude.{not}
use Rattle.std.proofs.lemmas.Bool.{and_parts}
use Rattle.std.proofs.lemmas.Option.{slice_get_within}
use Rattle.sj_lang.specs.FileAt.{FileAt}
use Rattle.sj_lang.specs.Limits.{limits, file_limit}
use Rattle.sj_lang.specs.Words.{first_index}
use Rattle.sj_grammar.specs.Names.{is_word, is_name, is_reserved}
use Rattle.sj_grammar.specs.Tables.{entry_of, IsNamed, IsLiteral}
use Rattle.sj_grammar.specs.Positions.{start}
use Rattle.sj_grammar.specs.Files.{IsFile, names_of}
use Rattle.sj_semantics.specs.Lines.{or_number, word_at}
use Rattle.sj_log.specs.Legible.{HasWord, HasText}
use Rattle.sj_legible_laws.proofs.TableLemmas.{Stands, entry_there, first_there, index_there}
use Rattle.sj_legible_laws.proofs.ReadingLemmas.{few_entries}

-- a word isn't empty
word_some : (s : List ℕ) → is_word s ≡ true → 0 < length s
word_some [] h = let none : ⊥ = cc in absurd none
word_some (b ∷ bs) h = omega arith

pub name_word : (s : List ℕ) → is_name s ≡ true → is_word s ≡ true
name_word s h = (and_parts (is_word s) (not (is_reserved s)) h).0

module _ (bytes : List ℕ) (file : FileAt) (few : length bytes ≤ file_limit) (is : IsFile bytes file) where
  few_words : length file.words ≤ 65536
  few_words =
      let n = (few_entries is.pieces (start bytes [] []) is.end is.begins).0 in
      let same : length is.end.words ≡ length file.words = ap length is.words in
      omega (arith, n, same, few)

  few_texts : length file.texts ≤ 65536
  few_texts =
      let n = (few_entries is.pieces (start bytes [] []) is.end is.begins).1 in
      let same : length is.end.texts ≡ length file.texts = ap length is.texts in
      omega (arith, n, same, few)

  -- the number of a name stands in the table, and is the first of it
  pub name_there : (n : ℕ) → IsNamed limits (names_of file).word n → slice_get file.words n ≡ Some (entry_of file.words n)
  name_there n named = entry_there file.words n (word_some (entry_of file.words n) (name_word (entry_of file.words n) named.name))

  pub word_is : (n : ℕ) → IsNamed limits (names_of file).word n → word_at file.words n ≡ entry_of file.words n
  word_is n named = ap (or_number n) (name_there n named)

  pub name_first : (n : ℕ) → IsNamed limits (names_of file).word n → first_index (entry_of file.words n) file.words ≡ Some n
  name_first n named = index_there file.words n (entry_of file.words n) (name_there n named) named.first

  pub has_word : (n : ℕ) → IsNamed limits (names_of file).word n → HasWord file n
  has_word n named =
      let same : word_at file.words n ≡ entry_of file.words n = word_is n named in
      let inside : n < length file.words = slice_get_within file.words n (entry_of file.words n) (name_there n named) in
      record {
        form = ap is_word same ∙ name_word (entry_of file.words n) named.name;
        first = ap (λ (s : List ℕ). first_index s file.words) same ∙ name_first n named;
        small = omega (arith, inside, few_words);
      }

  pub has_text : (n : ℕ) → IsLiteral limits (names_of file).text n → Stands file.texts (entry_of file.texts n) → HasText file n
  has_text n literal there =
      let here : slice_get file.texts n ≡ Some (entry_of file.texts n) = first_there file.texts n literal.first there in
      let inside : n < length file.texts = slice_get_within file.texts n (entry_of file.texts n) here in
      record {
        text = entry_of file.texts n;
        here = here;
        form = literal.printable;
        first = index_there file.texts n (entry_of file.texts n) here literal.first;
        small = omega (arith, inside, few_texts);
      }
