-- Each party of an accepted file that a text stands for is the first of its name, and its code names only what the file has.
use Rattle.std.proofs.Common.{◌≡◌, ℕ, zero, suc, ◌<◌, ◌≤◌, Bool, true, List, [], ◌∷◌, ◌++◌, length, slice_get, Some, None, refl, ap, ◌∙◌, subst, arith}
use Rattle.std.specs.Prelude.{nat_lt, if◌then◌else◌, codes}
use Rattle.std.specs.List.{AllByRecursion, list_all}
use Rattle.std.proofs.lemmas.Bool.{lt-ltb}
use Rattle.std.proofs.lemmas.Option.{slice_get_within}
use Rattle.sj_lang.specs.FileAt.{FileAt, PartyAt, party_named}
use Rattle.sj_lang.specs.Limits.{limits, file_limit}
use Rattle.sj_lang.specs.Words.{first_index}
use Rattle.sj_acceptance.specs.Accepted.{IsAccepted}
use Rattle.sj_acceptance_laws.proofs.NameLaws.{OtherParty}
use Rattle.sj_acceptance_laws.proofs.PairLemmas.{pairs_from_all}
use Rattle.sj_acceptance_laws.proofs.PartyLemmas.{number_of}
use Rattle.sj_grammar.specs.Bytes.{is_printable}
use Rattle.sj_grammar.specs.Names.{is_word}
use Rattle.sj_grammar.specs.Literals.{quoted}
use Rattle.sj_grammar.specs.Tables.{entry_of, IsNamed}
use Rattle.sj_grammar.specs.Positions.{Piece, plain, start}
use Rattle.sj_grammar.specs.Statements.{braced}
use Rattle.sj_grammar.specs.Files.{IsFile, names_of, protocols_pieces, connects_pieces, AreParties}
use Rattle.sj_grammar.specs.Files as files
use Rattle.sj_semantics.specs.Lines.{name_if, name_of}
use Rattle.sj_log.specs.Names.{party_of_name}
use Rattle.sj_log.specs.Legible.{HasParty}
use Rattle.sj_legible_laws.proofs.CodeParts.{CodeTold}
use Rattle.sj_legible_laws.proofs.TableLemmas.{Stands}
use Rattle.sj_legible_laws.proofs.ReadingLemmas.{IsKept, texts_kept}
use Rattle.sj_legible_laws.proofs.CodeLemmas.{all_apart, code_told}
use Rattle.sj_legible_laws.proofs.FileLemmas.{name_word, word_is, name_first, has_word, has_text}

module _ (bytes : List ℕ) (file : FileAt) (few : length bytes ≤ file_limit) (is : IsFile bytes file) where
  kept : AllByRecursion (IsKept file.texts) is.pieces
  kept = subst (λ (t : List (List ℕ)). AllByRecursion (IsKept t) is.pieces) is.texts (texts_kept is.pieces (start bytes [] []) is.end is.begins)

  party_pieces : AllByRecursion (IsKept file.texts) is.spelled.parties
  party_pieces =
      let ps = protocols_pieces (entry_of file.words) file.protocols in let cs = connects_pieces (entry_of file.words) file.connects in
      (all_apart (IsKept file.texts) is.spelled.parties cs
      (all_apart (IsKept file.texts) ps (is.spelled.parties ++ cs) (subst (λ (t : List Piece). AllByRecursion (IsKept file.texts) t) is.spelled.same kept)).1).0

  -- what holds of each party of a file that is spelled so
  abbrev PartyFits : PartyAt → Type 0
  PartyFits q = IsNamed limits (names_of file).word q.name × CodeTold file q.code

  Kept : List ℕ → Type 0
  Kept s = (t : List ℕ) → list_all is_printable t ≡ true → s ≡ quoted t → Stands file.texts t

  parties_fit : (qs : List PartyAt) (ps : List Piece) → AreParties limits (names_of file) qs ps → AllByRecursion (IsKept file.texts) ps → AllByRecursion PartyFits qs
  unfolding Kept
  parties_fit _ _ files.no_party kept = tt
  parties_fit _ _ (files.one_party {code = code} {a = a} {qs = qs} {b = b} named spelt later) kept =
      let k = all_apart (IsKept file.texts) (braced a) b kept.1.1 in
      let body = all_apart (IsKept file.texts) a (plain (codes "}") ∷ []) k.0.1 in (
        (named, code_told file limits (names_of file) Kept (λ n literal own. has_text bytes file few is n literal (own (entry_of file.texts n) literal.printable refl)) (has_word bytes file few is) 0 code a spelt body.0),
        parties_fit qs b later k.1,
      )

  at_party : (qs : List PartyAt) (p : ℕ) (q : PartyAt) → AllByRecursion PartyFits qs → slice_get qs p ≡ Some q → PartyFits q
  at_party [] p q all h = cc
  at_party (x ∷ qs) zero q all h = let it : x ≡ q = cc in subst PartyFits it all.0
  at_party (x ∷ qs) (suc p) q all h = at_party qs p q all.1 h

  party_fits : (p : ℕ) (q : PartyAt) → slice_get file.parties p ≡ Some q → PartyFits q
  party_fits p q h = at_party file.parties p q (parties_fit file.parties is.spelled.parties is.spelled.all_parties party_pieces) h

  pub code_of_party : (p : ℕ) (q : PartyAt) → slice_get file.parties p ≡ Some q → CodeTold file q.code
  code_of_party p q h = (party_fits p q h).1

  module _ (accepted : IsAccepted file) where
    number_is : (p : ℕ) (q : PartyAt) → slice_get file.parties p ≡ Some q → party_named file.parties q.name ≡ p
    number_is p q h = number_of file.parties p q (pairs_from_all OtherParty file.parties accepted.parties_once) h

    party_at : (p : ℕ) (q : PartyAt) → slice_get file.parties p ≡ Some q → HasParty file p
    party_at p q h =
        let named = (party_fits p q h).0 in
        let own : name_of file p ≡ entry_of file.words q.name = ap (name_if file p) h ∙ word_is bytes file few is q.name named in
        let inside : p < length file.parties = slice_get_within file.parties p q h in
        let number : party_named file.parties q.name ≡ p = number_is p q h in
        let below : nat_lt p (length file.parties) ≡ true = lt-ltb p (length file.parties) inside in
        record {
          form = ap is_word own ∙ name_word (entry_of file.words q.name) named.name;
          first = ap (λ (s : List ℕ). party_of_name file.parties (first_index s file.words)) own ∙ ap (party_of_name file.parties) (name_first bytes file few is q.name named)
              ∙ ap (λ (k : ℕ). if nat_lt k (length file.parties) then Some k else None) number ∙ ap (λ (b : Bool). if b then Some p else None) below;
          small = let most = accepted.within.parties in omega (arith, inside, most);
        }

    pub has_party : (p : ℕ) → p < length file.parties → HasParty file p
    has_party p lt = elim (slice_get file.parties p) as (λ o. slice_get file.parties p ≡ o → HasParty file p) [
      | None ↦ λ h. absurd (there p file.parties lt h)
      | Some q ↦ λ h. party_at p q h
    ] refl
      where
        there : (p : ℕ) (qs : List PartyAt) → p < length qs → slice_get qs p ≡ None → ⊥
        there p [] lt h = omega (arith, lt)
        there zero (q ∷ qs) lt h = cc
        there (suc p) (q ∷ qs) lt h = there p qs (omega arith) h

    pub few_parties : length file.parties ≤ 16
    few_parties = accepted.within.parties
