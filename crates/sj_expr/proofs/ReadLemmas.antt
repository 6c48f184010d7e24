-- What was read, one part after another.
use Rattle.std.proofs.Common.{◌≡◌, ℕ, ◌<◌, ◌≤◌, true, false, List, [], ◌∷◌, ◌++◌, length, Some, refl, ap, sym, subst, ◌∙◌, arith}
use Rattle.std.specs.Prelude.{codes}
use Rattle.std.specs.List.{list_all}
use Rattle.std.proofs.lemmas.Option.{slice_get-get_or}
use Rattle.sj_lang.specs.Words.{IsFirstIndex}
use Rattle.sj_lang.specs.declared.party.Op.{Op}
use Rattle.sj_lang.specs.declared.party.Op.TheVariants.{Add, Sub, Mul, Less, LessEq, Equal}
use Rattle.sj_lang.specs.declared.file.Names.{Names}
use Rattle.sj_lang.specs.Term as term
use Rattle.sj_grammar.specs.Bytes.{is_printable}
use Rattle.sj_lang.specs.Limits.{limits}
use Rattle.sj_grammar.specs.Reading.{Reading}
use Rattle.sj_grammar.specs.Names.{is_name}
use Rattle.sj_grammar.specs.Literals.{is_text, inner, quoted}
use Rattle.sj_grammar.specs.Tables.{Spelling, Spells, IsNamed, IsLiteral, with_entry, entry_of}
use Rattle.sj_grammar.specs.Positions.{Pieces, At, at, Takes, Begins}
use Rattle.sj_grammar.specs.Asked.{TakesText}
use Rattle.sj_grammar.specs.Expressions.{Spelt}
use Rattle.sj_grammar.specs.Expressions as level
use Rattle.sj_grammar.proofs.StucknessLemmas.{Begins-append}
use Rattle.sj_proto.specs.Parsed.{Gives, Extends}
use Rattle.sj_proto.proofs.ReadLemmas.{grows_one, Extends-refl, Extends-trans, Begins-grows, spells_less, took_plain}
use Rattle.sj_proto.proofs.TableLemmas.{within_is, here_is}
use Rattle.sj_expr.specs.Read.{Agrees, Reads, ReadsLevel, TextSpelled, Grows, StaysWithin}
use Rattle.sj_expr.specs.Signs.{op_piece}
use Rattle.sj_expr.proofs.TokenLemmas.{text_quoted}
use Rattle.sj_proto.proofs.FrontLemmas.{spelling_at}

pub texts_grow : (ps : Pieces) (a b : At) → Begins a ps b → Extends a.texts b.texts
texts_grow [] a b h = subst (λ (x : At). Extends a.texts x.texts) h (Extends-refl a.texts)
texts_grow (p ∷ ps) a b h =
    let first : Extends a.texts h.0.texts = subst (λ (ts : List (List ℕ)). Extends a.texts ts) (sym (ap (λ (x : At). x.texts) h.1.there)) (grows_one a.texts (inner p) (is_text p)) in
    Extends-trans a.texts h.0.texts b.texts first (texts_grow ps h.0 b h.2)

-- a spelling that agrees with the later tables agrees with the earlier ones
pub agrees_back : (names : Spelling) (ps : Pieces) (a b : At) → Begins a ps b → Agrees names b → Agrees names a
agrees_back names ps a b h g = record {
  words = spells_less names.word a.words b.words (Begins-grows ps a b h) g.words;
  texts = spells_less names.text a.texts b.texts (texts_grow ps a b h) g.texts;
}

pub agrees_itself : (a : At) → Agrees (spelling_at a) a
agrees_itself a = record { words = λ n h. refl; texts = λ n h. refl }

-- one token
pub reads_one : (a b : At) (s : List ℕ) (F : Spelling → Pieces → Type 0) → Takes a s b → ((names : Spelling) → Agrees names b → F names (s ∷ [])) → Reads a b F
reads_one a b s F t f = record { pieces = s ∷ []; begins = (b, t, refl); are = f }

pub reads_cons : (a m b : At) (s : List ℕ) (F G : Spelling → Pieces → Type 0) → Takes a s m → ((names : Spelling) (ps : Pieces) → F names ps → G names (s ∷ ps)) → Reads m b F → Reads a b G
reads_cons a m b s F G t f r = record { pieces = s ∷ r.pieces; begins = (m, t, r.begins); are = λ names g. f names r.pieces (r.are names g) }

-- a piece between
abbrev pub reads_two : (a m u b : At) (s : List ℕ) (F G H : Spelling → Pieces → Type 0) → ((names : Spelling) (ps qs : Pieces) → F names ps → G names qs → H names (ps ++ s ∷ qs)) → Reads a m F → Takes m s u → Reads u b G → Reads a b H
reads_two a m u b s F G H f r t q = record {
  pieces = r.pieces ++ s ∷ q.pieces;
  begins = Begins-append r.pieces (s ∷ q.pieces) a m b r.begins (u, t, q.begins);
  are = λ names g.
      let first = agrees_back names (s ∷ q.pieces) m b (u, t, q.begins) g in
      f names r.pieces q.pieces (r.are names first) (q.are names g);
}

abbrev pub reads_as : (a b : At) (F G : Spelling → Pieces → Type 0) → ((names : Spelling) (ps : Pieces) → F names ps → G names ps) → Reads a b F → Reads a b G
reads_as a b F G f r = record { pieces = r.pieces; begins = r.begins; are = λ names g. f names r.pieces (r.are names g) }

-- a text gets its number
pub took_text : (r q : Reading) (ws ts us : List (List ℕ)) (s : List ℕ) → is_name s ≡ false → is_text s ≡ true → us ≡ with_entry ts (inner s) → TakesText r s q → Takes (at r ws ts) s (at q ws us)
took_text r q ws ts us s name text table t =
    record { what = t.what; rest = t.rest; token = t.token; there = rw (name, text) (λ i. at (t.there i) ws (table i)) }

-- the number of a text, by each spelling that agrees with the table
pub literal_by : (text : ℕ → List ℕ) (table : List (List ℕ)) (s : List ℕ) (n : ℕ) → Spells text table → IsFirstIndex s table n → list_all is_printable s ≡ true → length s ≤ 255 → (text n ≡ s) × IsLiteral limits text n
literal_by text table s n spells place printable short =
    let far = within_is table s n place in
    let same : text n ≡ s = spells n far ∙ here_is table s n place in (
      same,
      record {
        printable = subst (λ (x : List ℕ). list_all is_printable x ≡ true) (sym same) printable;
        short = subst (λ (x : List ℕ). length x ≤ 255) (sym same) short;
        first = λ k h e. place.first k h (slice_get-get_or table k [] (omega arith) ∙ ap Some (sym (spells k (omega arith)) ∙ e ∙ same));
      },
    )

pub text_read : (r q : Reading) (ws ts us : List (List ℕ)) (s : List ℕ) (n : ℕ) → is_name s ≡ false → is_text s ≡ true → length (inner s) ≤ 255 → us ≡ with_entry ts (inner s) → IsFirstIndex (inner s) us n → TakesText r s q
    → Reads (at r ws ts) (at q ws us) (TextSpelled n)
text_read r q ws ts us s n name text short table place t =
    reads_one (at r ws ts) (at q ws us) s (TextSpelled n) (took_text r q ws ts us s name text table t)
    (λ names g.
    let parts = text_quoted s text in
    let h = literal_by names.text us (inner s) n g.texts place parts.1 short in
    (h.1, ap (λ x. x ∷ []) (parts.0 ∙ ap quoted (sym h.0))))

pub same_piece : (a b m : At) (s u : List ℕ) → Takes a s m → Takes a u b → s ≡ u
same_piece a b m s u t v = cc (sym t.token ∙ v.token)

-- a name, from what the reader of names says
pub name_read : (a b : At) (n : ℕ) → Gives a b (λ word. word n ∷ []) (λ word. IsNamed limits word n) → (o : ℕ) → ReadsLevel level.factor o a b (term.var n)
name_read a b n gives o =
    let mine = gives (entry_of b.words) (λ k h. refl) in
    record {
      pieces = entry_of b.words n ∷ [];
      begins = mine.0;
      are = λ names g.
          let theirs = gives names.word g.words in
          let same = same_piece a theirs.0.0 mine.0.0 (entry_of b.words n) (names.word n) mine.0.1 theirs.0.1 in
          subst (λ (x : List ℕ). Spelt limits names level.factor o (term.var n) (x ∷ [])) (sym same) (level.of_name theirs.1);
    }

pub op_taken : (op : Op) (r q : Reading) (ws ts : List (List ℕ)) → TakesText r (op_piece op) q → Takes (at r ws ts) (op_piece op) (at q ws ts)
op_taken Add r q ws ts t = took_plain r q ws ts (codes "+") refl refl t
op_taken Sub r q ws ts t = took_plain r q ws ts (codes "-") refl refl t
op_taken Mul r q ws ts t = took_plain r q ws ts (codes "*") refl refl t
op_taken Less r q ws ts t = took_plain r q ws ts (codes "<") refl refl t
op_taken LessEq r q ws ts t = took_plain r q ws ts (codes "<=") refl refl t
op_taken Equal r q ws ts t = took_plain r q ws ts (codes "==") refl refl t

-- the tables grow, one call after another
pub grows_on : (a b c : Names) → Grows a b → Grows b c → Grows a c
grows_on a b c h k = record { words = Extends-trans a.words b.words c.words h.words k.words; texts = Extends-trans a.texts b.texts c.texts h.texts k.texts }

-- a token between two calls gives the room back
pub stays_on : (a b c : Names) (r q u z : Reading) → StaysWithin a r b q → length u.ahead < length q.ahead → StaysWithin b u c z → StaysWithin a r c z
stays_on a b c r q u z h s k = let i = h.words in let j = h.texts in let l = k.words in let m = k.texts in record { words = omega arith; texts = omega arith }
