-- What was read, one part after another.
use Rattle.std.proofs.Common.{◌≡◌, ℕ, ◌<◌, ◌≤◌, Bool, true, false, IsTrue, List, [], ◌∷◌, ◌++◌, length, get_or, refl, ap, sym, subst, ◌∙◌, arith, append_assoc, append-nil, length-append}
use Rattle.std.specs.Prelude.{codes, if◌then◌else◌}
use Rattle.std.specs.List.{list_any}
use Rattle.std.specs.Str.{bytes_eq}
use Rattle.std.proofs.lemmas.List.{get_or_append_left}
use Rattle.sj_lang.specs.declared.proto.Way.{Way}
use Rattle.sj_lang.specs.declared.proto.Way.TheVariants.{Out, Into}
use Rattle.sj_lang.specs.Words.{IsFirstIndex}
use Rattle.sj_lang.specs.declared.file.Names.{Names}
use Rattle.sj_grammar.specs.Reading.{Reading}
use Rattle.sj_lang.specs.Limits.{limits}
use Rattle.sj_grammar.specs.Names.{is_name}
use Rattle.sj_grammar.specs.Literals.{is_text}
use Rattle.sj_grammar.specs.Tables.{with_entry, Spells, IsNamed, entry_of}
use Rattle.sj_grammar.specs.Positions.{Pieces, At, at, Takes, Begins}
use Rattle.sj_grammar.specs.Protocols.{way_piece, close_piece}
use Rattle.sj_grammar.specs.Asked.{TakesText}
use Rattle.sj_grammar.proofs.StucknessLemmas.{Begins-append}
use Rattle.sj_proto.specs.Parsed.{Gives, Extends, Keeps}
use Rattle.sj_proto.proofs.NameLemmas.{name_no_text}
use Rattle.sj_proto.proofs.TableLemmas.{named_by}

pub Extends-refl : (a : List (List ℕ)) → Extends a a
Extends-refl a = record { more = []; whole = sym (append-nil a) }

pub Extends-trans : (a b c : List (List ℕ)) → Extends a b → Extends b c → Extends a c
Extends-trans a b c h k = record { more = h.more ++ k.more; whole = k.whole ∙ ap (λ (ws : List (List ℕ)). ws ++ k.more) h.whole ∙ append_assoc a h.more k.more }

-- the tables are kept, one call after another
pub kept_on : {a b c : Names} → Keeps a b → Keeps b c → Keeps a c
kept_on {a} {b} {c} h k = record { words = Extends-trans a.words b.words c.words h.words k.words; texts = k.texts ∙ h.texts }

pub grows_one : (ws : List (List ℕ)) (s : List ℕ) (named : Bool) → Extends ws (if named then with_entry ws s else ws)
grows_one ws s false = Extends-refl ws
grows_one ws s true = by_test (list_any (λ w. bytes_eq w s) ws)
  where
    by_test : (b : Bool) → Extends ws (if b then ws else ws ++ s ∷ [])
    by_test true = Extends-refl ws
    by_test false = record { more = s ∷ []; whole = refl }

pub Begins-grows : (ps : Pieces) (a b : At) → Begins a ps b → Extends a.words b.words
Begins-grows [] a b h = subst (λ (x : At). Extends a.words x.words) h (Extends-refl a.words)
Begins-grows (p ∷ ps) a b h =
    let first : Extends a.words h.0.words = subst (λ (ws : List (List ℕ)). Extends a.words ws) (sym (ap (λ (x : At). x.words) h.1.there)) (grows_one a.words p (is_name p)) in
    Extends-trans a.words h.0.words b.words first (Begins-grows ps h.0 b h.2)

pub spells_less : (word : ℕ → List ℕ) (old new : List (List ℕ)) → Extends old new → Spells word new → Spells word old
spells_less word old new grown spells n within =
    let far : n < length new = rw grown.whole (omega (arith, length-append old grown.more)) in
    spells n far ∙ ap (λ (ws : List (List ℕ)). get_or ws n []) grown.whole ∙ get_or_append_left old grown.more [] n within

-- a spelling that agrees with the later table agrees with the earlier one
pub spells_back : (word : ℕ → List ℕ) (ps : Pieces) (a b : At) → Begins a ps b → Spells word b.words → Spells word a.words
spells_back word ps a b h spells = spells_less word a.words b.words (Begins-grows ps a b h) spells

-- the table spells itself
pub itself : (words : List (List ℕ)) → Spells (entry_of words) words
itself words n h = refl

pub Gives-cons : (a m b : At) (s : List ℕ) (p : (ℕ → List ℕ) → Pieces) (F : (ℕ → List ℕ) → Type 0) → Takes a s m → Gives m b p F → Gives a b (λ word. s ∷ p word) F
Gives-cons a m b s p F t g = λ word spells. let h = g word spells in ((m, t, h.0), h.1)

pub Gives-append : (a m b : At) (p q : (ℕ → List ℕ) → Pieces) (F G : (ℕ → List ℕ) → Type 0) → Gives a m p F → Gives m b q G → Gives a b (λ word. p word ++ q word) (λ word. F word × G word)
Gives-append a m b p q F G g h = λ word spells.
    let second = h word spells in
    let first = g word (spells_back word (q word) m b second.0 spells) in
    (Begins-append (p word) (q word) a m b first.0 second.0, (first.1, second.1))

-- the same pieces and facts, said in another way
pub Gives-as : (a b : At) (p q : (ℕ → List ℕ) → Pieces) (F G : (ℕ → List ℕ) → Type 0) → ((word : ℕ → List ℕ) → p word ≡ q word) → ((word : ℕ → List ℕ) → F word → G word) → Gives a b p F → Gives a b q G
Gives-as a b p q F G same facts g = λ word spells.
    let h = g word spells in
    (subst (λ (ps : Pieces). Begins a ps b) (same word) h.0, facts word h.1)

pub takes_one : (a m : At) (s : List ℕ) → Takes a s m → Gives a m (λ word. s ∷ []) (λ word. Unit {0})
takes_one a m s t = λ word spells. ((m, t, refl), tt)

pub Gives-nothing : (a : At) → Gives a a (λ word. []) (λ word. Unit {0})
Gives-nothing a = λ word spells. (refl, tt)

-- a piece that gets no number
pub took_plain : (r q : Reading) (ws ts : List (List ℕ)) (s : List ℕ) → is_name s ≡ false → is_text s ≡ false → TakesText r s q → Takes (at r ws ts) s (at q ws ts)
took_plain r q ws ts s name text t = record { what = t.what; rest = t.rest; token = t.token; there = rw (name, text) (ap (λ (x : Reading). at x ws ts) t.there) }

pub took_name : (r q : Reading) (ws vs ts : List (List ℕ)) (s : List ℕ) → IsTrue (is_name s) → vs ≡ with_entry ws s → TakesText r s q → Takes (at r ws ts) s (at q vs ts)
took_name r q ws vs ts s name table t =
    record { what = t.what; rest = t.rest; token = t.token; there = rw (name, name_no_text s name) (λ i. at (t.there i) (table i) ts) }

-- a name was read, and got its number
pub gives_name : (r q : Reading) (ws vs ts : List (List ℕ)) (s : List ℕ) (n : ℕ) → IsTrue (is_name s) → length s ≤ 64 → vs ≡ with_entry ws s → IsFirstIndex s vs n → TakesText r s q
    → Gives (at r ws ts) (at q vs ts) (λ word. word n ∷ []) (λ word. IsNamed limits word n)
gives_name r q ws vs ts s n name short table place t = λ word spells.
    let h = named_by word vs s n spells place name short in
    ((at q vs ts, subst (λ (x : List ℕ). Takes (at r ws ts) x (at q vs ts)) (sym h.0) (took_name r q ws vs ts s name table t), refl), h.1)

pub took_way : (w : Way) (r q : Reading) (ws ts : List (List ℕ)) → TakesText r (way_piece w) q → Takes (at r ws ts) (way_piece w) (at q ws ts)
took_way Out r q ws ts t = took_plain r q ws ts (codes "!") refl refl t
took_way Into r q ws ts t = took_plain r q ws ts (codes "?") refl refl t

pub took_close : (w : Way) (r q : Reading) (ws ts : List (List ℕ)) → TakesText r (close_piece w) q → Takes (at r ws ts) (close_piece w) (at q ws ts)
took_close Out r q ws ts t = took_plain r q ws ts (codes ">") refl refl t
took_close Into r q ws ts t = took_plain r q ws ts (codes ")") refl refl t
