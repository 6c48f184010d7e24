-- The tables of a reader have each name and each text that it read.
use Rattle.std.proofs.Common.{◌≡◌, ℕ, Bool, true, false, List, [], ◌∷◌, ◌++◌, length, refl, ap, sym, subst, ◌∙◌, append_assoc}
use Rattle.std.specs.Prelude.{if◌then◌else◌, ◌||◌}
use Rattle.std.specs.List.{list_any}
use Rattle.std.specs.Str.{bytes_eq}
use Rattle.std.proofs.Math.Seq.{get_or-append_seam}
use Rattle.sj_grammar.specs.Literals.{inner}
use Rattle.sj_grammar.specs.Positions.{Pieces, At, Takes, Begins}
use Rattle.sj_grammar.specs.Tables.{with_entry, entry_of}
use Rattle.sj_grammar.proofs.SpellingLemmas.{HasFirst, AllHeld, first_of}
use Rattle.sj_proto.specs.Parsed.{Extends}
use Rattle.sj_proto.proofs.ReadLemmas.{Begins-grows}
use Rattle.sj_proto.proofs.NameLemmas.{test_is}
use Rattle.sj_party_laws.proofs.TermLemmas.{IsKnown}
use Rattle.sj_expr.proofs.ReadLemmas.{texts_grow}
use Rattle.sj_proto.proofs.FrontLemmas.{spelling_at as names_at}

-- the entry stands in the table
pub record Has (table : List (List ℕ)) (s : List ℕ) : Type 0 where
  pub before : List (List ℕ)
  pub behind : List (List ℕ)
  pub whole : table ≡ before ++ s ∷ behind

-- what is found stands there, what is added does, and stays
has_any : (table : List (List ℕ)) (s : List ℕ) → list_any (λ w. bytes_eq w s) table ≡ true → Has table s
has_any [] s e = let no : ⊥ = cc in absurd no
has_any (w ∷ table) s e = by_test (bytes_eq w s) refl (has_any table s) e
  where
    by_test : (b : Bool) → bytes_eq w s ≡ b → (list_any (λ w. bytes_eq w s) table ≡ true → Has table s) → (b || list_any (λ w. bytes_eq w s) table) ≡ true → Has (w ∷ table) s
    by_test true eb later f = record { before = []; behind = table; whole = ap (λ x. x ∷ table) (test_is w s eb) }
    by_test false eb later f = let rest = later f in record { before = w ∷ rest.before; behind = rest.behind; whole = ap (λ t. w ∷ t) rest.whole }

has_entry : (table : List (List ℕ)) (s : List ℕ) → Has (with_entry table s) s
has_entry table s = by_test (list_any (λ w. bytes_eq w s) table) refl
  where
    by_test : (b : Bool) → list_any (λ w. bytes_eq w s) table ≡ b → Has (if b then table else table ++ s ∷ []) s
    by_test true e = has_any table s e
    by_test false e = record { before = table; behind = []; whole = refl }

has_on : (old new : List (List ℕ)) (s : List ℕ) → Extends old new → Has old s → Has new s
has_on old new s grown h = record {
  before = h.before;
  behind = h.behind ++ grown.more;
  whole = grown.whole ∙ ap (λ (t : List (List ℕ)). t ++ grown.more) h.whole ∙ append_assoc h.before (s ∷ h.behind) grown.more;
}

-- and so it has a first number there
has_first : (table : List (List ℕ)) (s : List ℕ) → Has table s → HasFirst (entry_of table) s
has_first table s h =
    let here : entry_of table (length h.before) ≡ s = ap (λ (t : List (List ℕ)). entry_of t (length h.before)) h.whole ∙ get_or-append_seam h.before s h.behind [] in
    subst (λ (x : List ℕ). HasFirst (entry_of table) x) here (first_of (entry_of table) (length h.before))

known : (a m b : At) (s : List ℕ) (ps : Pieces) → Takes a s m → Begins m ps b → IsKnown (names_at b) s
known a m b s ps t h = record {
  name = λ e.
      let table : with_entry a.words s ≡ m.words = (λ i. if sym e i then with_entry a.words s else a.words) ∙ sym (ap (λ (x : At). x.words) t.there) in
      has_first b.words s (has_on m.words b.words s (Begins-grows ps m b h) (subst (λ (ws : List (List ℕ)). Has ws s) table (has_entry a.words s)));
  text = λ e.
      let table : with_entry a.texts (inner s) ≡ m.texts = (λ i. if sym e i then with_entry a.texts (inner s) else a.texts) ∙ sym (ap (λ (x : At). x.texts) t.there) in
      has_first b.texts (inner s) (has_on m.texts b.texts (inner s) (texts_grow ps m b h) (subst (λ (ts : List (List ℕ)). Has ts (inner s)) table (has_entry a.texts (inner s))));
}

-- each piece that was read is known
pub all_known : (ps : Pieces) (a b : At) → Begins a ps b → AllHeld (IsKnown (names_at b)) ps
all_known [] a b h = tt
all_known (s ∷ ps) a b h = (known a h.0 b s ps h.1 h.2, all_known ps h.0 b h.2)
