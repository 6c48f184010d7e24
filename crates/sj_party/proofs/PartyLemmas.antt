-- Parties as what was read, and where a text is stuck in them.
use Rattle.std.proofs.Common.{◌≡◌, ℕ, suc, ◌+◌, ◌<◌, ◌≤◌, true, false, List, [], ◌∷◌, ◌++◌, length, refl, ap, sym, subst, ◌∙◌, arith, append_assoc}
use Rattle.std.specs.Prelude.{codes, map, nat_le}
use Rattle.std.proofs.lemmas.Bool.{lt-leb}
use Rattle.std.proofs.lemmas.List.{map_push}
use Rattle.sj_lang.specs.declared.file.Party.{Party}
use Rattle.sj_lang.specs.declared.file.Names.{Names}
use Rattle.sj_lang.specs.Code.{Code}
use Rattle.sj_lang.specs.FileAt.{PartyAt}
use Rattle.sj_lang.specs.FileView.{party_of}
use Rattle.sj_grammar.specs.declared.tokens.Fault.{Fault}
use Rattle.sj_lang.specs.Limits.{limits}
use Rattle.sj_grammar.specs.Lexis.{Ahead, next_of}
use Rattle.sj_grammar.specs.Names.{is_name, is_reserved}
use Rattle.sj_grammar.specs.Reading.{Reading, line_number, before_next}
use Rattle.sj_grammar.specs.Tables.{Spelling, IsNamed, entry_of}
use Rattle.sj_grammar.specs.Positions.{Piece, At, Takes, BeginsOnLines, plain, first_on, spellings}
use Rattle.sj_grammar.specs.Statements.{braced}
use Rattle.sj_grammar.specs.Files.{AreParties}
use Rattle.sj_grammar.specs.Files as files
use Rattle.sj_grammar.specs.FileDues.{Due, name, fixed, stmts, parties, file_layer}
use Rattle.sj_grammar.specs.Faults.{Stuck}
use Rattle.sj_grammar.specs.Asked.{TakesText, is_next, Refuses, Passes}
use Rattle.sj_grammar.proofs.StucknessLemmas.{stuck_cons, skip}
use Rattle.sj_proto.specs.Choices.{but_first}
use Rattle.sj_proto.specs.Parsed.{standing, Gives}
use Rattle.sj_proto.proofs.ReadLemmas.{itself}
use Rattle.sj_proto.proofs.ExitLemmas as exits
use Rattle.sj_proto.proofs.LineLemmas.{off_lines, OnLines-append}
use Rattle.sj_proto.proofs.NamedPieceLemmas.{name_stuck}
use Rattle.sj_expr.proofs.ReadLemmas.{agrees_back, agrees_itself, same_piece}
use Rattle.sj_party.specs.Read.{ReadsOnLines, ReadsCode}
use Rattle.sj_party.proofs.FileLineLemmas.{leads_stuck, first_fault}
use Rattle.sj_party.proofs.FileRunLemmas.{parties_leads}
use Rattle.sj_party.proofs.RunLemmas.{code_leads}
use Rattle.sj_proto.proofs.FrontLemmas.{spelling_at}

no_name_party : is_name (codes "party") ≡ false
unfolding is_reserved
no_name_party = refl

-- what is due after a party's brace, and after its first word
abbrev pub behind_code : ℕ → List Due → List Due
behind_code k ds = fixed (codes "}") ∷ parties (suc k) ∷ ds

abbrev pub behind_party : ℕ → List Due → List Due
behind_party k ds = name ∷ fixed (codes "{") ∷ stmts 0 ∷ behind_code k ds

abbrev pub ReadsParties : At → At → List PartyAt → Type 0
ReadsParties a b qs = ReadsOnLines a b (λ names ps. AreParties limits names qs ps)

-- one party too many
pub party_fault : (a : At) (k n : ℕ) (ds : List Due) (f : Fault) → is_next (codes "party") (next_of a.text.ahead) ≡ true → Refuses (but_first (codes "party") (nat_le 16 k)) a.text f → Stuck file_layer limits n a (parties k ∷ ds) f
party_fault a k n ds f here r = first_fault a (codes "party") (nat_le 16 k) n (parties k ∷ ds) (behind_party k ds) f refl refl refl here r

module _ (r q : Reading) (names : Names) (k : ℕ) (room : k < 16) (first : TakesText r (codes "party") q) where
  took_party : Takes (standing r names) (codes "party") (standing q names)
  took_party = exits.plain r q names (codes "party") no_name_party refl first

  pub party_stuck : (n : ℕ) (ds : List Due) (f : Fault) → Stuck file_layer limits n (standing q names) (behind_party k ds) f → Stuck file_layer limits n (standing r names) (parties k ∷ ds) f
  party_stuck n ds f st = stuck_cons file_layer limits n n (standing r names) (standing q names) (codes "party") (parties k ∷ ds) (behind_party k ds) f took_party (rw (lt-leb 16 k room) refl) st

  -- after the name too
  module _ (t : Reading) (new : Names) (l : ℕ) (named : Gives (standing q names) (standing t new) (λ word. word l ∷ []) (λ word. IsNamed limits word l)) where
    pub named_stuck : (n : ℕ) (ds : List Due) (f : Fault) → Stuck file_layer limits n (standing t new) (fixed (codes "{") ∷ stmts 0 ∷ behind_code k ds) f → Stuck file_layer limits n (standing r names) (parties k ∷ ds) f
    named_stuck n ds f st = party_stuck n ds f (name_stuck (standing q names) (standing t new) l n (fixed (codes "{") ∷ stmts 0 ∷ behind_code k ds) f named st)

    -- and after the brace
    module _ (u : Reading) (opened : TakesText t (codes "{") u) where
      took_brace : Takes (standing t new) (codes "{") (standing u new)
      took_brace = exits.plain t u new (codes "{") refl refl opened

      pub opened_stuck : (n : ℕ) (ds : List Due) (f : Fault) → Stuck file_layer limits n (standing u new) (stmts 0 ∷ behind_code k ds) f → Stuck file_layer limits n (standing r names) (parties k ∷ ds) f
      opened_stuck n ds f st =
          named_stuck n ds f (stuck_cons file_layer limits n n (standing t new) (standing u new) (codes "{") (fixed (codes "{") ∷ stmts 0 ∷ behind_code k ds) (stmts 0 ∷ behind_code k ds) f took_brace refl st)

      module _ (v : Reading) (last : Names) (code : Code) (reads : ReadsCode 0 (standing u new) (standing v last) code) where
        pub coded_stuck : Passes file_layer (stmts 0) (next_of v.ahead) → (n : ℕ) (ds : List Due) (f : Fault) → ((m : ℕ) → Stuck file_layer limits m (standing v last) (behind_code k ds) f) → Stuck file_layer limits n (standing r names) (parties k ∷ ds) f
        coded_stuck passes n ds f st =
            let b = standing v last in
            opened_stuck n ds f
            (leads_stuck n (standing u new) b reads.pieces (stmts 0 ∷ behind_code k ds) (stmts 0 ∷ behind_code k ds) f reads.begins (code_leads limits (spelling_at b) (reads.are (spelling_at b) (agrees_itself b)) n (behind_code k ds))
            (λ m. skip file_layer limits m b (stmts 0) (behind_code k ds) f refl passes (st m)))

        pub party_reads : (w : Reading) (line : ℕ) → TakesText v (codes "}") w → line ≡ line_number (before_next r (next_of r.ahead)) → ReadsParties (standing r names) (standing w last) (record { line = line; name = l; code = code } ∷ [])
        party_reads w line closed on =
            let b = standing w last in
            let mine = named (entry_of new.words) (itself new.words) in
            let word = entry_of new.words l in
            let inner = braced reads.pieces ++ [] in
            let ending : BeginsOnLines (standing v last) (plain (codes "}") ∷ []) b = (b, record { taken = exits.plain v w last (codes "}") refl refl closed; line = tt }, refl) in
            let within = OnLines-append reads.pieces (plain (codes "}") ∷ []) (standing u new) (standing v last) b reads.begins ending in
            let block : BeginsOnLines (standing t new) inner b = (standing u new, record { taken = took_brace; line = tt }, OnLines-append (reads.pieces ++ plain (codes "}") ∷ []) [] (standing u new) b b within refl) in
            record {
              pieces = first_on line (codes "party") ∷ plain word ∷ inner;
              begins = (
                standing q names,
                record { taken = took_party; line = on ∙ ap (λ (x : Ahead). line_number (before_next r x)) took_party.token },
                (mine.0.0, record { taken = mine.0.1; line = tt }, subst (λ (x : At). BeginsOnLines x inner b) (sym mine.0.2) block),
              );
              are = λ s g.
                  let earlier = agrees_back s (spellings inner) (standing t new) b (off_lines inner (standing t new) b block) g in
                  let theirs = named s.word earlier.words in
                  let same = same_piece (standing q names) theirs.0.0 mine.0.0 word (s.word l) mine.0.1 theirs.0.1 in
                  let inside = reads.are s (record { words = g.words; texts = g.texts }) in
                  subst (λ (x : List ℕ). AreParties limits s (record { line = line; name = l; code = code } ∷ []) (first_on line (codes "party") ∷ plain x ∷ inner)) (sym same) (files.one_party theirs.1 inside files.no_party);
            }

parties_join : {s : Spelling} {qs us : List PartyAt} {a b : List Piece} → AreParties limits s qs a → AreParties limits s us b → AreParties limits s (qs ++ us) (a ++ b)
parties_join files.no_party k = k
parties_join {s} {us} {b} (files.one_party {l} {n} {code} {a} {qs} {b = e} is c more) k =
    let tail = parties_join more k in
    subst (λ (ps : List Piece). AreParties limits s (record { line = l; name = n; code = code } ∷ (qs ++ us)) (first_on l (codes "party") ∷ plain (s.word n) ∷ ps)) (sym (append_assoc (braced a) e b)) (files.one_party is c tail)

pub no_parties : (a : At) → ReadsParties a a []
no_parties a = record { pieces = []; begins = refl; are = λ s g. files.no_party }

-- the parties so far, and one more
pub parties_more : (a m b : At) (xs : List Party) (x : Party) → ReadsParties a m (map party_of xs) → ReadsParties m b (party_of x ∷ []) → ReadsParties a b (map party_of (xs ++ x ∷ []))
parties_more a m b xs x g h = record {
  pieces = g.pieces ++ h.pieces;
  begins = OnLines-append g.pieces h.pieces a m b g.begins h.begins;
  are = λ s agrees.
      let earlier = agrees_back s (spellings h.pieces) m b (off_lines h.pieces m b h.begins) agrees in
      subst (λ (qs : List PartyAt). AreParties limits s qs (g.pieces ++ h.pieces)) (sym (map_push party_of xs x)) (parties_join (g.are s earlier) (h.are s agrees));
}

-- after parties
pub parties_stuck : (a b : At) (qs : List PartyAt) (n : ℕ) (ds : List Due) (f : Fault) → length qs ≤ 16 → ReadsParties a b qs → ((m : ℕ) → Stuck file_layer limits m b (parties (length qs) ∷ ds) f) → Stuck file_layer limits n a (parties 0 ∷ ds) f
parties_stuck a b qs n ds f few reads st =
    let count : length qs ≡ 0 + length qs = omega arith in
    leads_stuck n a b reads.pieces (parties 0 ∷ ds) (parties (0 + length qs) ∷ ds) f reads.begins (parties_leads limits (spelling_at b) (reads.are (spelling_at b) (agrees_itself b)) 0 n ds (omega (arith, few)))
    (λ m. subst (λ (k : ℕ). Stuck file_layer limits m b (parties k ∷ ds) f) count (st m))
