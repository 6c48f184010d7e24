-- Protocols of a file, one after another.
use Rattle.std.proofs.Common.{◌≡◌, ℕ, suc, ◌<◌, true, false, List, [], ◌∷◌, ◌++◌, Some, refl, ap, sym, subst, ◌∙◌}
use Rattle.std.specs.Prelude.{codes, nat_le}
use Rattle.std.proofs.lemmas.Bool.{lt-leb}
use Rattle.sj_lang.specs.ItemCount.{item_count}
use Rattle.sj_lang.specs.Place.{Place}
use Rattle.sj_lang.specs.FileAt.{ProtocolAt}
use Rattle.sj_lang.specs.declared.file.Names.{Names}
use Rattle.sj_grammar.specs.declared.tokens.Fault.{Fault}
use Rattle.sj_grammar.specs.declared.tokens.What.{What}
use Rattle.sj_lang.specs.Limits.{Limits, limits}
use Rattle.sj_grammar.specs.Lexis.{Ahead, token, next_of}
use Rattle.sj_grammar.specs.Names.{is_name, is_reserved}
use Rattle.sj_grammar.specs.Reading.{Reading, line_number, before_next}
use Rattle.sj_grammar.specs.Tables.{Spelling, IsNamed, entry_of}
use Rattle.sj_grammar.specs.Positions.{Pieces, At, Takes, plain, first_on, all_plain, spellings}
use Rattle.sj_grammar.specs.Protocols.{body_pieces, IsBody}
use Rattle.sj_grammar.specs.Files.{protocol_pieces, IsProtocolDef}
use Rattle.sj_grammar.specs.Layers.{goes, step}
use Rattle.sj_grammar.specs.ProtocolDues.{body, more}
use Rattle.sj_grammar.specs.FileDues.{Due, name, fixed, proto, protocols, file_layer}
use Rattle.sj_grammar.specs.Faults.{Stuck, broken}
use Rattle.sj_grammar.specs.Asked.{TakesText, is_next, Refuses, refused, Passes}
use Rattle.sj_grammar.proofs.StepLemmas.{Runs, Runs-cons, Runs-none, Runs-append}
use Rattle.sj_grammar.proofs.StucknessLemmas.{halts_stuck, stuck_cons, stuck_block, skip}
use Rattle.sj_proto.specs.Choices.{but_first}
use Rattle.sj_proto.specs.Parsed.{standing, Gives, GivesOnLines}
use Rattle.sj_proto.proofs.ReadLemmas.{itself}
use Rattle.sj_proto.proofs.ExitLemmas.{next_is}
use Rattle.sj_proto.proofs.ExitLemmas as exits
use Rattle.sj_proto.proofs.WholeRunLemmas.{body_run, in_file}
use Rattle.sj_proto.proofs.LineLemmas.{spellings-append, spellings-plain, Lines-cons, Lines-append, Lines-as, Lines-plain, lines_one}
use Rattle.sj_proto.proofs.NamedPieceLemmas.{name_step, name_stuck}
use Rattle.sj_proto.proofs.RuleLemmas.{over_rule as over_word}

pub no_name_protocol : is_name (codes "protocol") ≡ false
unfolding is_reserved
no_name_protocol = refl

-- what is due after the first word of a protocol
abbrev pub behind_word : ℕ → List Due → List Due
behind_word k ds = name ∷ fixed (codes "{") ∷ proto body ∷ fixed (codes "}") ∷ protocols (suc k) ∷ ds

pub word_step : (L : Limits) (k n : ℕ) (ds : List Due) → k < L.protocols → step file_layer L n (protocols k ∷ ds) (codes "protocol") ≡ goes n (behind_word k ds)
word_step L k n ds room = rw (lt-leb L.protocols k room) refl

pub def_spelled : (word : ℕ → List ℕ) (p : ProtocolAt) → spellings (protocol_pieces word p) ≡ codes "protocol" ∷ word p.name ∷ codes "{" ∷ (body_pieces word p.body ++ codes "}" ∷ [])
def_spelled word p =
    ap (λ ps. codes "protocol" ∷ word p.name ∷ codes "{" ∷ ps)
    (spellings-append (all_plain (body_pieces word p.body)) (plain (codes "}") ∷ []) ∙ ap (λ ps. ps ++ codes "}" ∷ []) (spellings-plain (body_pieces word p.body)))

-- a protocol is what is due
pub def_run : (L : Limits) (names : Spelling) (p : ProtocolAt) (k n : ℕ) (ds : List Due) → k < L.protocols → IsProtocolDef L names p
    → Runs file_layer L n (protocols k ∷ ds) (spellings (protocol_pieces names.word p)) (item_count p.body) (protocols (suc k) ∷ ds)
def_run L names p k n ds room is =
    let m = item_count p.body in
    let after = fixed (codes "}") ∷ protocols (suc k) ∷ ds in
    subst (λ (ps : Pieces). Runs file_layer L n (protocols k ∷ ds) ps m (protocols (suc k) ∷ ds)) (sym (def_spelled names.word p))
    (Runs-cons file_layer L n n m (protocols k ∷ ds) (behind_word k ds) (protocols (suc k) ∷ ds) (codes "protocol") _ (word_step L k n ds room)
    (Runs-cons file_layer L n n m (behind_word k ds) (fixed (codes "{") ∷ proto body ∷ after) (protocols (suc k) ∷ ds) (names.word p.name) _ (name_step L names.word p.name n (fixed (codes "{") ∷ proto body ∷ after) is.name)
    (Runs-cons file_layer L n n m (fixed (codes "{") ∷ proto body ∷ after) (proto body ∷ after) (protocols (suc k) ∷ ds) (codes "{") _ refl
    (Runs-append file_layer L (body_pieces names.word p.body) (codes "}" ∷ []) n m m (proto body ∷ after) (proto (more 0) ∷ after) (protocols (suc k) ∷ ds)
    (in_file L n m (body ∷ []) (more 0 ∷ []) after _ (body_run L names.word p.body n [] is.body))
    (Runs-cons file_layer L m m m (proto (more 0) ∷ after) (protocols (suc k) ∷ ds) (protocols (suc k) ∷ ds) (codes "}") [] refl (Runs-none file_layer L m (protocols (suc k) ∷ ds)))))))

-- one protocol too many
pub word_fault : (a : At) (k n : ℕ) (ds : List Due) (f : Fault) → is_next (codes "protocol") (next_of a.text.ahead) ≡ true → Refuses (but_first (codes "protocol") (nat_le 256 k)) a.text f
    → Stuck file_layer limits n a (protocols k ∷ ds) f
word_fault a k n ds f here r =
    let x = next_is (next_of a.text.ahead) (codes "protocol") here in
    halts_stuck file_layer limits n a (protocols k ∷ ds) f (record { rule = r.rule; breaks = at_word x.0 x.1 x.2 r.refused; fault = r.fault })
  where
    at_word : (what : What) (rest : List ℕ) → next_of a.text.ahead ≡ token what (codes "protocol") rest → refused (but_first (codes "protocol") (nat_le 256 k)) (next_of a.text.ahead) ≡ Some r.rule
        → broken file_layer limits n (protocols k ∷ ds) (next_of a.text.ahead) ≡ Some r.rule
    at_word what rest e h = rw e (over_word (nat_le 256 k) n (behind_word k ds) r.rule (rw e at h))

module _ (r q : Reading) (names : Names) (k : ℕ) (room : k < 256) (first : TakesText r (codes "protocol") q) where
  took_word : Takes (standing r names) (codes "protocol") (standing q names)
  took_word = exits.plain r q names (codes "protocol") no_name_protocol refl first

  pub word_stuck : (n : ℕ) (ds : List Due) (f : Fault) → Stuck file_layer limits n (standing q names) (behind_word k ds) f → Stuck file_layer limits n (standing r names) (protocols k ∷ ds) f
  word_stuck n ds f st = stuck_cons file_layer limits n n (standing r names) (standing q names) (codes "protocol") (protocols k ∷ ds) (behind_word k ds) f took_word (word_step limits k n ds room) st

  -- after the name too
  module _ (t : Reading) (new : Names) (l : ℕ) (named : Gives (standing q names) (standing t new) (λ word. word l ∷ []) (λ word. IsNamed limits word l)) where
    pub named_stuck : (n : ℕ) (ds : List Due) (f : Fault) → Stuck file_layer limits n (standing t new) (fixed (codes "{") ∷ proto body ∷ fixed (codes "}") ∷ protocols (suc k) ∷ ds) f
        → Stuck file_layer limits n (standing r names) (protocols k ∷ ds) f
    named_stuck n ds f st = word_stuck n ds f (name_stuck (standing q names) (standing t new) l n (fixed (codes "{") ∷ proto body ∷ fixed (codes "}") ∷ protocols (suc k) ∷ ds) f named st)

    -- and after the brace
    module _ (u : Reading) (opened : TakesText t (codes "{") u) where
      pub opened_stuck : (n : ℕ) (ds : List Due) (f : Fault) → Stuck file_layer limits n (standing u new) (proto body ∷ fixed (codes "}") ∷ protocols (suc k) ∷ ds) f → Stuck file_layer limits n (standing r names) (protocols k ∷ ds) f
      opened_stuck n ds f st =
          named_stuck n ds f
          (stuck_cons file_layer limits n n (standing t new) (standing u new) (codes "{") (fixed (codes "{") ∷ proto body ∷ fixed (codes "}") ∷ protocols (suc k) ∷ ds) (proto body ∷ fixed (codes "}") ∷ protocols (suc k) ∷ ds) f
          (exits.plain t u new (codes "{") refl refl opened) refl st)

      module _ (v : Reading) (last : Names) (p : Place) (gives : Gives (standing u new) (standing v last) (λ word. body_pieces word p) (λ word. IsBody limits word p)) where
        pub bodied_stuck : Passes file_layer (proto (more 0)) (next_of v.ahead) → (n : ℕ) (ds : List Due) (f : Fault) → ((m : ℕ) → Stuck file_layer limits m (standing v last) (fixed (codes "}") ∷ protocols (suc k) ∷ ds) f)
            → Stuck file_layer limits n (standing r names) (protocols k ∷ ds) f
        bodied_stuck passes n ds f st =
            let word = entry_of last.words in
            let whole = gives word (itself last.words) in
            let after = fixed (codes "}") ∷ protocols (suc k) ∷ ds in
            opened_stuck n ds f
            (stuck_block file_layer limits n (item_count p) (standing u new) (standing v last) (body_pieces word p) (proto body ∷ after) (proto (more 0) ∷ after) f whole.0
            (in_file limits n (item_count p) (body ∷ []) (more 0 ∷ []) after _ (body_run limits word p n [] whole.1))
            (skip file_layer limits (item_count p) (standing v last) (proto (more 0)) after f refl passes (st (item_count p))))

        pub def_gives : (w : Reading) (line : ℕ) → TakesText v (codes "}") w → line ≡ line_number (before_next r (next_of r.ahead))
            → GivesOnLines (standing r names) (standing w last) (λ names. protocol_pieces names.word (record { line = line; name = l; body = p })) (λ names. IsProtocolDef limits names (record { line = line; name = l; body = p }))
        def_gives w line closed on =
            let whole = lines_one (standing v last) (standing w last) (plain (codes "}")) (record { taken = exits.plain v w last (codes "}") refl refl closed; line = tt }) in
            let inner = Lines-append (standing u new) (standing v last) (standing w last) (λ names. all_plain (body_pieces names.word p)) (λ names. plain (codes "}") ∷ []) (λ names. IsBody limits names.word p) (λ names. Unit {0})
            (Lines-plain (standing u new) (standing v last) (λ word. body_pieces word p) (λ word. IsBody limits word p) gives) whole in
            let braced = Lines-cons (standing t new) (standing u new) (standing w last) (plain (codes "{")) (λ names. all_plain (body_pieces names.word p) ++ plain (codes "}") ∷ []) (λ names. IsBody limits names.word p × Unit {0})
            (record { taken = exits.plain t u new (codes "{") refl refl opened; line = tt }) inner in
            let called = Lines-append (standing q names) (standing t new) (standing w last) (λ names. plain (names.word l) ∷ []) (λ names. plain (codes "{") ∷ (all_plain (body_pieces names.word p) ++ plain (codes "}") ∷ []))
            (λ names. IsNamed limits names.word l) (λ names. IsBody limits names.word p × Unit {0}) (Lines-plain (standing q names) (standing t new) (λ word. word l ∷ []) (λ word. IsNamed limits word l) named) braced in
            Lines-as (standing r names) (standing w last) (λ names. first_on line (codes "protocol") ∷ plain (names.word l) ∷ plain (codes "{") ∷ (all_plain (body_pieces names.word p) ++ plain (codes "}") ∷ []))
            (λ names. protocol_pieces names.word (record { line = line; name = l; body = p })) (λ names. IsNamed limits names.word l × (IsBody limits names.word p × Unit {0})) (λ names. IsProtocolDef limits names (record { line = line; name = l; body = p }))
            (λ names. refl) (λ names h. record { name = h.0; body = h.1.0 })
            (Lines-cons (standing r names) (standing q names) (standing w last) (first_on line (codes "protocol")) (λ names. plain (names.word l) ∷ plain (codes "{") ∷ (all_plain (body_pieces names.word p) ++ plain (codes "}") ∷ []))
            (λ names. IsNamed limits names.word l × (IsBody limits names.word p × Unit {0})) (record { taken = took_word; line = on ∙ ap (λ (x : Ahead). line_number (before_next r x)) took_word.token }) called)
