-- How a party stands, by its node or by what its code holds and called.
use Rattle.std.proofs.Common.{◌≡◌, ℕ, ◌+◌, List, [], ◌∷◌, ◌++◌, length, slice_get, Option, Some, None, option_map, refl, ap, sym, ◌∙◌, subst, inl, inr}
use Rattle.std.proofs.lemmas.List.{length-append}
use Rattle.sj_core.specs.Nodes.{node_or}
use Rattle.sj_core.specs.ToldWorld.{stand_seen}
use Rattle.sj_core.proofs.FirstLemmas.{behind}
use Rattle.sj_lang.specs.FileAt.{FileAt}
use Rattle.sj_machine.specs.Sound.{program_at}
use Rattle.sj_node.specs.declared.node.Node.{Node}
use Rattle.sj_rules.specs.Node.{ended}
use Rattle.sj_rules.specs.Start.{first_node}
use Rattle.sj_seat.specs.Holding.{ends_at}
use Rattle.sj_seat_laws.specs.Calls.{Ends}
use Rattle.sj_seat_laws.specs.SeatedPlay.{Player, seated, written}
use Rattle.sj_seat_laws.specs.SeatsWorld.{SeatsWorld, player_by}
use Rattle.sj_seat_told.specs.Quiet.{IsEndOf, IsQuietOf}
use Rattle.sj_seat_told.specs.Standing.{AreNodeStands, IsNodeStand}
use Rattle.sj_seat_told_laws.specs.FirstOpen.{first_open}
use Rattle.sj_seat_told_laws.specs.SeatsStands.{AreSeatsStands}
use Rattle.sj_seat_told_laws.specs.StillSeats.{IsStandOf, still_by_open}
use Rattle.sj_seats.specs.Core.{chair_of, seat_by}
use Rattle.sj_seats.specs.Played.{chairs_in, file_in}
use Rattle.sj_seats.specs.Seated.{calls_by, calls_of, core_of, ends_of, nodes_of, party_count, table_of}
use Rattle.sj_seats.specs.declared.played.Chair.{Chair}
use Rattle.sj_seats.specs.declared.seated.SeatedWorld.{SeatedWorld}
use Rattle.sj_told.specs.declared.told.Stand.{Stand}

module _ (w : SeatedWorld) (p : ℕ) where
  program_by : Option Chair → Option Node → Player
  program_by c n = player_by (option_map (seat_by (table_of w) []) c) (node_or (first_node (file_in w) p) n).program

  -- one that goes by the file
  pub by_file : (n : Node) → slice_get (nodes_of w) p ≡ Some n → ends_of w p ≡ None → IsNodeStand w p (stand_seen n)
  by_file n there none = at (chair_of (chairs_in w) p) refl none
    where
      at : (o : Option Chair) → chair_of (chairs_in w) p ≡ o → option_map (λ (c : Chair). ends_at (table_of w) c.ends.items) o ≡ None → IsNodeStand w p (stand_seen n)
      at (Some c) is held = cc held
      at None is held =
          let own : ((core_of w).nodes p).program ≡ written (program_at n.machine) = λ i. player_by (option_map (seat_by (table_of w) []) (is i)) (node_or (first_node (file_in w) p) (there i)).program in
          subst (λ (g : Player). IsStandOf g (stand_seen n)) (sym own) (record { steps = refl; state = refl })

  -- one that is played by code
  pub by_code : (bs : Ends) (s : Stand) → ends_of w p ≡ Some bs → s.steps ≡ calls_of w p → s.state ≡ still_by_open s.steps ended (first_open bs) → IsNodeStand w p s
  by_code bs s held steps state = at (chair_of (chairs_in w) p) refl held steps
    where
      at : (o : Option Chair) → chair_of (chairs_in w) p ≡ o → option_map (λ (c : Chair). ends_at (table_of w) c.ends.items) o ≡ Some bs → s.steps ≡ calls_by o → IsNodeStand w p s
      at None is kept same = cc kept
      at (Some c) is kept same =
          let ends : bs ≡ ends_at (table_of w) c.ends.items = cc kept in
          let own : ((core_of w).nodes p).program ≡ seated (seat_by (table_of w) [] c) = ap (λ (o : Option Chair). player_by (option_map (seat_by (table_of w) []) o) (node_or (first_node (file_in w) p) (slice_get (nodes_of w) p)).program) is in
          subst (λ (g : Player). IsStandOf g s) (sym own) (record { steps = same; state = state ∙ (λ i. still_by_open (same i) ended (first_open (ends i))) })

-- ---- all of them

-- those of the first parties, so many
pub record AreFirstStands (w : SeatedWorld) (many : ℕ) (stands : List Stand) : Type 0 where
  pub count : length stands ≡ many
  pub each : (p : ℕ) (s : Stand) → slice_get stands p ≡ Some s → IsNodeStand w p s

pub no_stands : (w : SeatedWorld) (stands : List Stand) → stands ≡ [] → AreFirstStands w 0 stands
no_stands w stands none = subst (AreFirstStands w 0) (sym none) (record { count = refl; each = λ p s there. cc there })

pub one_stands : (w : SeatedWorld) (many : ℕ) (before after : List Stand) (s : Stand) → AreFirstStands w many before → IsNodeStand w many s → after ≡ before ++ s ∷ [] → AreFirstStands w (many + 1) after
one_stands w many before after s are own put = subst (AreFirstStands w (many + 1)) (sym put) (record {
  count = length-append before (s ∷ []) ∙ ap (λ (n : ℕ). n + 1) are.count;
  each = λ p x there.
      elim (behind before s p x there) [
        | inl old ↦ are.each p x old
        | inr last ↦ subst (λ (y : Stand). IsNodeStand w p y) (sym last.1) (subst (λ (k : ℕ). IsNodeStand w k s) (sym (last.0 ∙ are.count)) own)
      ];
})

pub all_stands : (w : SeatedWorld) (many : ℕ) (stands : List Stand) → many ≡ party_count w → AreFirstStands w many stands → AreNodeStands w stands
all_stands w many stands all are = record { count = are.count ∙ all; each = are.each }

-- where nothing is left to do, they stand so at the end
pub stands_at_end : (file : FileAt) (w : SeatedWorld) (t : SeatsWorld) (stands : List Stand) → IsQuietOf file w → IsEndOf file w t → AreNodeStands w stands → AreSeatsStands t stands
stands_at_end file w t stands q end are = end.stands stands (are.count ∙ q.parties ∙ ap (λ (f : FileAt). length f.parties) q.kept) are.each
