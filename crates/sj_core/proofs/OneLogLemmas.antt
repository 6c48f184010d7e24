-- A log merged into lines of other parties.
use Rattle.std.proofs.Common.{◌≡◌, ℕ, List, [], ◌∷◌, ◌++◌, refl, ap, ◌∙◌, inl, inr, append-nil, map}
use Rattle.std.specs.Prelude.{◌⊎◌, Bool, true, false, ◌==◌}
use Rattle.std.proofs.lemmas.Bool.{eqb-true, eq-eqb}
use Rattle.sj_rules.specs.Log.{LineAt, IsMerged, part_of}
use Rattle.sj_end.specs.declared.note.Entry.{Entry}
use Rattle.sj_core.specs.Views.{entry_at, line_at, line_of}
use Rattle.sj_core.specs.Merged.{AreApart, AreMerged}

-- the lines of a party's log are its entries
own_part : (party : ℕ) (log : List Entry) → part_of party (map line_at (map (line_of party) log)) ≡ map entry_at log
own_part party [] = refl
own_part party (e ∷ es) = let here : (party == party) ≡ true = eq-eqb party party refl in rw here (ap (λ ds. entry_at e ∷ ds) (own_part party es))

-- and no other party's
no_part : (p party : ℕ) (log : List Entry) → (p == party) ≡ false → part_of p (map line_at (map (line_of party) log)) ≡ []
no_part p party [] at = refl
no_part p party (e ∷ es) at = rw at (no_part p party es at)

-- the lines of a log beside lines of other parties
pub log_apart : (so_far : List LineAt) (party : ℕ) (log : List Entry) → part_of party so_far ≡ [] → AreApart so_far (map line_at (map (line_of party) log))
log_apart so_far party log none p = by (p == party) refl
  where
    by : (b : Bool) → (p == party) ≡ b → (part_of p so_far ≡ []) ⊎ (part_of p (map line_at (map (line_of party) log)) ≡ [])
    by true at = inl (let here : p ≡ party = eqb-true p party at in rw here none)
    by false at = inr (no_part p party log at)

-- merged, they are the log merged in
pub log_merged : (so_far lines : List LineAt) (party : ℕ) (log : List Entry) → part_of party so_far ≡ [] →
    AreMerged so_far (map line_at (map (line_of party) log)) lines → IsMerged so_far party (map entry_at log) lines
log_merged so_far lines party log none m = record {
  order = m.order;
  own = m.parts party ∙ ap (λ es. es ++ part_of party (map line_at (map (line_of party) log))) none ∙ own_part party log;
  others = λ p at. m.parts p ∙ ap (λ es. part_of p so_far ++ es) (no_part p party log at) ∙ append-nil (part_of p so_far);
}
