-- Nodes that are begun one after another are those of the file before any event.
use Rattle.std.proofs.Common.{◌≡◌, ◌⊎◌, ℕ, zero, suc, ◌+◌, List, [], ◌∷◌, ◌++◌, length, max, slice_get, unwrap_or, Some, None, option_map, refl, ap, sym, ◌∙◌, subst, inl, inr, length-append}
use Rattle.sj_lang.specs.Place.{Place}
use Rattle.sj_lang.specs.FileAt.{FileAt, body_named}
use Rattle.sj_semantics.specs.Program.{Program}
use Rattle.sj_plain.specs.SharedFile.{without_words}
use Rattle.sj_plain.proofs.BeginLemmas.{start_same}
use Rattle.sj_rules.specs.History.{IsHistory, IsLog, IsMisfit}
use Rattle.sj_rules.specs.Log.{LineAt}
use Rattle.sj_rules.specs.Party.{nobody, play_of}
use Rattle.sj_rules.specs.Start.{core_start, first_main, first_node}
use Rattle.sj_rules.specs.World.{WorldAt}
use Rattle.sj_table.specs.declared.table.Table.{Table}
use Rattle.sj_table.specs.Spots.{start_in}
use Rattle.sj_node.specs.declared.node.Node.{Node}
use Rattle.sj_node.specs.Reading.{table_of}
use Rattle.sj_node.specs.Starting.{Begins}
use Rattle.sj_core.specs.Nodes.{AreBegun, AreFirst}
use Rattle.sj_core.specs.Replaying.{IsMisfitFrom}
use Rattle.sj_core.specs.Views.{line_at}
use Rattle.sj_core.specs.declared.refusal.ReplayRefusal.{ReplayRefusal}
use Rattle.sj_core.specs.declared.refusal.ReplayRefusal.TheVariants as refusals

-- an element of a list with one more is one of the list, or the last
pub behind : {X : Type 0} (xs : List X) (x : X) (p : ℕ) (y : X) → slice_get (xs ++ x ∷ []) p ≡ Some y → (slice_get xs p ≡ Some y) ⊎ ((p ≡ length xs) × (y ≡ x))
behind [] x zero y is = inr (refl, sym (cc is))
behind [] x (suc p) y is = absurd (cc is)
behind (z ∷ xs) x zero y is = inl is
behind (z ∷ xs) x (suc p) y is = elim (behind xs x p y is) [ inl there ↦ inl there | inr last ↦ inr (ap suc last.0, last.1) ]

module _ (file : FileAt) (over : Table) where
  pub none_begun : AreBegun file over 0 []
  none_begun = record { count = refl; each = λ p n is. absurd (cc is) }

  -- with the next party's
  pub one_more : (k : ℕ) (nodes : List Node) (new : Node) → AreBegun file over k nodes → Begins file k 0 new → table_of new ≡ over → AreBegun file over (k + 1) (nodes ++ new ∷ [])
  one_more k nodes new begun begins table = record {
    count = length-append nodes (new ∷ []) ∙ ap (λ n. n + 1) begun.count;
    each = λ p n is.
        elim (behind nodes new p n is) [
          | inl there ↦ begun.each p n there
          | inr last ↦ (
            subst (λ q. Begins file q 0 n) (sym (last.0 ∙ begun.count)) (subst (Begins file k 0) (sym last.1) begins),
            ap table_of last.1 ∙ table,
          )
        ];
  }

-- a party before any event needs no words
pub first_same : (file : FileAt) (p : ℕ) → first_node (without_words file) p ≡ first_node file p
first_same file p = λ i. record {
  program = unwrap_or (slice_get (start_same file i).parties p) nobody;
  clock = 0;
  requests = 0;
  offers = λ from. [];
  main = first_main file p;
  old = λ e. None;
}

-- nor does the core world
pub core_start_same : (file : FileAt) → core_start (without_words file) ≡ core_start file
core_start_same file = λ i. record { nodes = λ p. first_same file p i; lanes = λ from to. [] }

-- where all parties have theirs
pub all_first : (file : FileAt) (over : Table) (nodes : List Node) → AreBegun file over (length file.parties) nodes → ((q : ℕ) → start_in over q ≡ body_named file.protocols q) → AreFirst (without_words file) nodes
all_first file over nodes begun starts = record {
  seats = record {
    table = over;
    starts = starts;
    count = begun.count;
    each = λ p n is. let b = begun.each p n is in record { party = b.0.party; parties = b.0.parties; table = b.1; connects = b.0.connects; log = b.0.log };
  };
  first = λ p n is. (begun.each p n is).0.node ∙ sym (first_same file p);
  boxes = λ p n is. (begun.each p n is).0.boxes;
}

-- a history needs no words
pub history_same : (file kept : FileAt) (lines all : List LineAt) (w : WorldAt Place Program) → kept ≡ without_words file → all ≡ lines → IsHistory max kept all w → IsHistory max file lines w
history_same file kept lines all w same listed run =
    subst (λ (v : WorldAt Place Program). IsLog (play_of file) max v lines w) (core_start_same file)
    (subst (λ (ls : List LineAt). IsHistory max (without_words file) ls w) listed (subst (λ (f : FileAt). IsHistory max f all w) same run))

-- nor does a misfit
pub misfit_kept : (file kept : FileAt) (lines : List LineAt) (r : ReplayRefusal) → kept ≡ without_words file → IsMisfitFrom kept lines r → IsMisfitFrom file lines r
misfit_kept file kept lines (refusals.Misfit x) same m =
    subst (λ (v : WorldAt Place Program). IsMisfit (play_of file) max v lines x.number (line_at x.logged) (option_map line_at x.due)) (core_start_same file)
    (subst (λ (f : FileAt). IsMisfit (play_of f) max (core_start f) lines x.number (line_at x.logged) (option_map line_at x.due)) same m)
misfit_kept file kept lines refusals.NoMemory same m = tt
