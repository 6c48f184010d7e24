-- A world in which a code made no call.
use Rattle.std.proofs.Common.{◌≡◌, ℕ, ◌<◌, List, length, slice_get, unwrap_or, Option, Some, None, option_map, ap, sym, ◌∙◌, subst, inl, inr}
use Rattle.std.specs.Prelude.{is_some}
use Rattle.std.proofs.Math.ListN.{set}
use Rattle.std.proofs.lemmas.Bool.Decides.{eqb_tells}
use Rattle.std.proofs.lemmas.List.{length-set}
use Rattle.std.proofs.lemmas.Option.{slice_get_within}
use Rattle.sj_core.proofs.NodesLemmas.{seen_same, still_seated}
use Rattle.sj_core.specs.Nodes.{AreSeated}
use Rattle.sj_lang.specs.FileAt.{FileAt}
use Rattle.sj_node.specs.declared.node.Node.{Node}
use Rattle.sj_seat.specs.Opened.{openings_at}
use Rattle.sj_seat_laws.specs.Calls.{Call}
use Rattle.sj_table.specs.declared.table.Table.{Table}
use Rattle.sj_seats.specs.Calling.{Sits}
use Rattle.sj_seats.specs.Core.{AreOver, chair_of, core_by, is_seat, played, seat_by, seats_by}
use Rattle.sj_seats.specs.Played.{HasParties, Rests, chairs_in, file_in, nodes_in}
use Rattle.sj_seats.specs.declared.played.Chair.{Chair}
use Rattle.sj_seats.specs.declared.played.PlayedWorld.{PlayedWorld}
use Rattle.sj_seats.proofs.ChairLemmas.{chair_here, chair_there, over_set, seats_same}
use Rattle.sj_seats.specs.Played.{opened_in}

-- the code made no call
module _ (c d : PlayedWorld) (p : ℕ) (old new : Node) (before after : Chair) (x : Sits c.table old before new after) (parties : HasParties c)
    (there : slice_get (nodes_in c) p ≡ Some old) (sits : slice_get (chairs_in c) p ≡ Some (Some before))
    (file : file_in d ≡ file_in c) (table : d.table ≡ c.table) (told : opened_in d ≡ opened_in c) (nodes : nodes_in d ≡ set (nodes_in c) p new) (chairs : chairs_in d ≡ set (chairs_in c) p (Some after)) where
  held_is : chair_of (chairs_in c) p ≡ Some before
  held_is = ap (λ (o : Option (Option Chair)). unwrap_or o None) sits

  chairs_within : p < length (chairs_in c)
  chairs_within = slice_get_within (chairs_in c) p (Some before) sits

  same_seats : (rest : ℕ → List Call) (q : ℕ) → seats_by c.table (set (chairs_in c) p (Some after)) rest q ≡ seats_by c.table (chairs_in c) rest q
  same_seats rest q =
      elim (eqb_tells q p) [
        | inl s ↦
            ap (seats_by c.table (set (chairs_in c) p (Some after)) rest) s.1
            ∙ ap (option_map (seat_by c.table (rest p))) (chair_here (chairs_in c) p (Some after) chairs_within)
            ∙ (λ i. Some (record { ends = x.ends i; steps = x.calls i; calls = rest p; may = openings_at c.table (x.may i) }))
            ∙ sym (ap (option_map (seat_by c.table (rest p))) held_is) ∙ ap (seats_by c.table (chairs_in c) rest) (sym s.1)
        | inr s ↦ ap (option_map (seat_by c.table (rest q))) (chair_there (chairs_in c) p (Some after) chairs_within q s.1)
      ]

  pub call_rests : Rests c d
  call_rests = record {
    world = λ rest.
        (λ i. core_by (file i) (table i) (nodes i) (chairs i) rest)
        ∙ (λ i. played (λ q. same_seats rest q i) (seen_same (file_in c) (nodes_in c) p old new there x.node.node x.node.posts i));
    parties = record {
      seats = subst (λ (f : FileAt). AreSeated f (nodes_in d)) (sym file)
          (subst (AreSeated (file_in c)) (sym nodes) (still_seated (file_in c) (nodes_in c) p old new there parties.seats x.node.party x.node.parties x.node.table x.node.connects x.node.log));
      over = subst (λ (u : Table). AreOver u (nodes_in d)) (sym table)
          (subst (AreOver c.table) (sym nodes) (over_set c.table (nodes_in c) p new (slice_get_within (nodes_in c) p old there) parties.over (x.node.table ∙ parties.over p old there)));
      carries = subst Rattle.sj_seat.specs.Places.CarriesPlaces (sym table) parties.carries;
      count = ap length chairs ∙ length-set (chairs_in c) p (Some after) ∙ parties.count ∙ sym (ap length nodes ∙ length-set (nodes_in c) p new);
    };
    keeps = record {
      file = file;
      table = table;
      opened = told;
      seats = λ q. ap (λ (cs : List (Option Chair)). is_seat cs q) chairs ∙ seats_same (chairs_in c) p (Some after) chairs_within (sym (ap is_some held_is)) q;
      count = ap length nodes ∙ length-set (nodes_in c) p new;
    };
  }
