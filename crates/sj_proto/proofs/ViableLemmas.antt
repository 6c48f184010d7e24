-- Where something is due a protocol can go on so, and with no other token.
use Rattle.std.proofs.Common.{◌≡◌, ℕ, true, false, IsTrue, List, [], ◌∷◌, ◌++◌, length, get_or, Some, None, refl, ap, sym, subst, ◌∙◌, append_assoc, append-nil}
use Rattle.std.specs.Prelude.{codes}
use Rattle.std.proofs.Math.Seq.{get_or-append_seam}
use Rattle.sj_lang.specs.Place.{Place}
use Rattle.sj_lang.specs.ItemCount.{item_count}
use Rattle.sj_lang.specs.Limits.{Limits}
use Rattle.sj_grammar.specs.Names.{is_name, is_reserved}
use Rattle.sj_grammar.specs.Positions.{Pieces}
use Rattle.sj_grammar.specs.Protocols.{body_pieces}
use Rattle.sj_grammar.specs.Layers.{goes, step, run, may_end}
use Rattle.sj_grammar.specs.ProtocolDues.{ProtocolDue, body, more, protocol_layer}
use Rattle.sj_grammar.specs.Viable.{IsViable}
use Rattle.sj_grammar.proofs.StepLemmas.{run_split, onward_goes, step_due, one_due, due_behind}
use Rattle.sj_grammar.proofs.SpellingLemmas.{AllHeld}
use Rattle.sj_grammar.proofs.CompletionLemmas.{due_back, run_back, ends_back, some_alls}
use Rattle.sj_proto.specs.Writable.{IsWritable, IsSomeProtocol}
use Rattle.sj_proto.proofs.DuePieceLemmas.{Spelled, AllSpelled}
use Rattle.sj_proto.proofs.CompletionLemmas.{HasNumber, spelled_back, none_spelled, some_spelled}
use Rattle.sj_proto.proofs.WithinLemmas.{wide}
use Rattle.sj_proto.proofs.WholeRunLemmas.{wide_run}

abbrev spelling_of : Pieces → ℕ → List ℕ
spelling_of ps n = get_or ps n []

abbrev pub Held : (ℕ → List ℕ) → Pieces → Type 0
Held word ps = AllHeld (HasNumber word) ps

held_in : (pre ps post : Pieces) → Held (spelling_of (pre ++ (ps ++ post))) ps
held_in pre [] post = tt
held_in pre (s ∷ ps) post = (
  (length pre, get_or-append_seam pre s (ps ++ post) []),
  subst (λ (qs : Pieces). Held (spelling_of qs) ps) (append_assoc pre (s ∷ []) (ps ++ post)) (held_in (pre ++ s ∷ []) ps post),
)

pub x_is_a_name : IsTrue (is_name (codes "x"))
unfolding is_reserved
x_is_a_name = refl

-- up to where something is due a protocol can go on so
completed : (word : ℕ → List ℕ) (L : Limits) (ps : Pieces) (n : ℕ) (due : List ProtocolDue) (ts : Pieces) → Held word ps → run protocol_layer L 0 (body ∷ []) ps ≡ goes n due → AllSpelled word due ts
    → (p : Place) × IsWritable word p × (ps ++ ts ≡ body_pieces word p)
completed word L ps n due ts held e h =
    let whole = run_back protocol_layer (Spelled word) (HasNumber word) (spelled_back word) (none_spelled word) L ps 0 n (body ∷ []) due ts held e h in
    (whole.2.0, whole.2.1, whole.4 ∙ ap (λ x. whole.0 ++ x) whole.3 ∙ append-nil whole.0 ∙ whole.2.2)

module _ (L : Limits) (ps : Pieces) (n : ℕ) (due : List ProtocolDue) (e : run protocol_layer L 0 (body ∷ []) ps ≡ goes n due) where
  pub viable : IsViable IsSomeProtocol ps
  viable =
      let word = spelling_of (ps ++ codes "x" ∷ []) in
      let named : IsTrue (is_name (word (length ps))) = subst (λ (s : List ℕ). IsTrue (is_name s)) (sym (get_or-append_seam ps (codes "x") [] [])) x_is_a_name in
      let ends = some_alls protocol_layer (Spelled word) (some_spelled word (length ps) named) due in
      let whole = completed word L ps n due ends.0 (held_in [] ps (codes "x" ∷ [])) e ends.1 in
      record { later = ends.0; all = record { word = word; place = whole.0; writable = whole.1; same = whole.2 } }

  -- and with a token that is due
  pub viable_next : (es : List ProtocolDue) (s : List ℕ) → due_behind protocol_layer due s ≡ Some es → IsViable IsSomeProtocol (ps ++ s ∷ [])
  viable_next es s f =
      let word = spelling_of (ps ++ (s ∷ codes "x" ∷ [])) in
      let again : (ps ++ s ∷ []) ++ codes "x" ∷ [] ≡ ps ++ (s ∷ codes "x" ∷ []) = append_assoc ps (s ∷ []) (codes "x" ∷ []) in
      let at_x : word (length (ps ++ s ∷ [])) ≡ codes "x" = ap (λ (qs : Pieces). spelling_of qs (length (ps ++ s ∷ []))) (sym again) ∙ get_or-append_seam (ps ++ s ∷ []) (codes "x") [] [] in
      let named : IsTrue (is_name (word (length (ps ++ s ∷ [])))) = subst (λ (t : List ℕ). IsTrue (is_name t)) (sym at_x) x_is_a_name in
      let ends = some_alls protocol_layer (Spelled word) (some_spelled word (length (ps ++ s ∷ [])) named) es in
      let next = due_back protocol_layer (Spelled word) (HasNumber word) (spelled_back word) (none_spelled word) due es s ends.0 (length ps, get_or-append_seam ps s (codes "x" ∷ []) []) f ends.1 in
      let whole = completed word L ps n due (s ∷ ends.0) (held_in [] ps (s ∷ codes "x" ∷ [])) e next in
      record { later = ends.0; all = record { word = word; place = whole.0; writable = whole.1; same = append_assoc ps (s ∷ []) ends.0 ∙ whole.2 } }

  -- where the text may end it is whole
  pub whole : may_end protocol_layer due ≡ true → IsSomeProtocol ps
  whole f =
      let word = spelling_of (ps ++ []) in
      let is = completed word L ps n due [] (held_in [] ps []) e (ends_back protocol_layer (Spelled word) (none_spelled word) due f) in
      record { word = word; place = is.0; writable = is.1; same = sym (append-nil ps) ∙ is.2 }

  -- with a token that isn't due no protocol goes on
  pub not_viable : (s : List ℕ) → due_behind protocol_layer due s ≡ None → IsViable IsSomeProtocol (ps ++ s ∷ []) → ⊥
  not_viable s stop v =
      let M = wide v.all.word v.all.place in
      let split : ps ++ (s ∷ v.later) ≡ body_pieces v.all.word v.all.place = sym (append_assoc ps (s ∷ []) v.later) ∙ v.all.same in
      let r = run_split protocol_layer M ps (s ∷ v.later) 0 (item_count v.all.place) (body ∷ []) (more 0 ∷ []) (ap (run protocol_layer M 0 (body ∷ [])) split ∙ wide_run v.all.word v.all.place v.all.writable) in
      let same : r.1 ≡ due = one_due protocol_layer M L ps 0 0 r.0 n (body ∷ []) r.1 due r.2 e in
      let x = onward_goes protocol_layer M (step protocol_layer M r.0 r.1 s) (λ j gs. run protocol_layer M j gs v.later) (item_count v.all.place) (more 0 ∷ []) r.3 in
      let goes_on = step_due protocol_layer M r.0 x.0 r.1 x.1 s x.2 in
      let stopped : due_behind protocol_layer r.1 s ≡ None = ap (λ (ds : List ProtocolDue). due_behind protocol_layer ds s) same ∙ stop in
      let none : ⊥ = cc in
      none

  -- and where something is due the text is not whole
  pub not_whole : may_end protocol_layer due ≡ false → IsSomeProtocol ps → ⊥
  not_whole stop v =
      let M = wide v.word v.place in
      let runs = ap (run protocol_layer M 0 (body ∷ [])) v.same ∙ wide_run v.word v.place v.writable in
      let same : (more 0 ∷ []) ≡ due = one_due protocol_layer M L ps 0 0 (item_count v.place) n (body ∷ []) (more 0 ∷ []) due runs e in
      let ends : may_end protocol_layer due ≡ true = ap (may_end protocol_layer) (sym same) in
      let none : ⊥ = cc in
      none

-- what a protocol begins with is taken, limits aside
pub viable_run : (ps : Pieces) (v : IsViable IsSomeProtocol ps) → (n : ℕ) × (due : List ProtocolDue) × (run protocol_layer (wide v.all.word v.all.place) 0 (body ∷ []) ps ≡ goes n due)
viable_run ps v =
    let M = wide v.all.word v.all.place in
    let r = run_split protocol_layer M ps v.later 0 (item_count v.all.place) (body ∷ []) (more 0 ∷ []) (ap (run protocol_layer M 0 (body ∷ [])) v.all.same ∙ wide_run v.all.word v.all.place v.all.writable) in
    (r.0, r.1, r.2)
