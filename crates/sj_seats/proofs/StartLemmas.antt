-- The world with seats before any event is that of the laws.
use Rattle.std.proofs.Common.{◌≡◌, ℕ, ◌+◌, ◌<◌, Bool, true, false, if◌then◌else◌, List, [], ◌∷◌, ◌++◌, length, map, slice_get, unwrap_or, Option, Some, None, option_map, refl, ap, sym, ◌∙◌, subst, inl, inr, arith}
use Rattle.std.specs.Prelude.{is_some}
use Rattle.std.proofs.lemmas.Bool.{cases_lt}
use Rattle.sj_core.proofs.FirstLemmas.{first_same}
use Rattle.sj_core.specs.NodeWorld.{IsOfAccepted}
use Rattle.sj_core.specs.Nodes.{AreSeated, IsSeated, box_or, node_or}
use Rattle.sj_lang.specs.FileAt.{ConnectAt, FileAt, body_named, end_of_party, ends_from}
use Rattle.sj_lang.specs.Place.{Place}
use Rattle.sj_node.specs.declared.node.Node.{Node}
use Rattle.sj_node.specs.Node.{node_at, outbox_of}
use Rattle.sj_node.specs.Starting.{nothing_to_do}
use Rattle.sj_plain.specs.SharedFile.{without_words}
use Rattle.sj_rules.specs.Node.{NodeAt}
use Rattle.sj_rules.specs.Start.{first_node}
use Rattle.sj_seat.specs.Places.{CarriesPlaces}
use Rattle.sj_seat_laws.specs.Calls.{Call, SeatedAt}
use Rattle.sj_seat_laws.specs.SeatedPlay.{seated}
use Rattle.sj_seat_laws.specs.SeatedStart.{connected_ends, seat_start}
use Rattle.sj_seat_laws.specs.SeatRows.{with_player}
use Rattle.sj_seat_laws.specs.SeatsStart.{Callers, seats_core, seats_start}
use Rattle.sj_seat_laws.specs.SeatsWorld.{player_by, seat_of}
use Rattle.sj_semantics.specs.Ends.{end_at}
use Rattle.sj_semantics.specs.World.{start_of}
use Rattle.sj_table.specs.declared.table.Table.{Table}
use Rattle.sj_table.specs.Spots.{start_in}
use Rattle.sj_seats.specs.Beginning.{AreBegun, HasBegun, Sat, SitsSo}
use Rattle.sj_seats.specs.Calls.{OpenedAs, callers_by, then_calls}
use Rattle.sj_seats.specs.Core.{AreOver, chair_of, core_by, is_seat, seat_by, seats_by}
use Rattle.sj_seats.specs.Played.{IsReached, chairs_in, core_in, file_in, history_in, nodes_in, opened_in}
use Rattle.sj_seats.specs.Seated.{seat_in}
use Rattle.sj_seats.specs.declared.played.Chair.{Chair}
use Rattle.sj_seats.specs.declared.played.PlayedWorld.{PlayedWorld}
use Rattle.sj_seats.proofs.BeginningLemmas.{item_at, none_from, nothing_at, seat_at}

-- the ends that connections give need no words
ends_same : (file : FileAt) (p n : ℕ) (cs : List ConnectAt) → ends_from (without_words file) p n cs ≡ ends_from file p n cs
ends_same file p n [] = refl
ends_same file p n (c ∷ cs) =
    ap (λ t. end_of_party file p c.first (record { sess = n; side = 0 }) ++ end_of_party file p c.second (record { sess = n; side = 1 }) ++ t) (ends_same file p (n + 1) cs)

connected_same : (file : FileAt) (p : ℕ) → connected_ends (without_words file) p ≡ connected_ends file p
connected_same file p = ap (map (λ b. (b.1, (end_at (start_of file).sessions b.1).place))) (ends_same file p 0 file.connects)

module _ (file : FileAt) (t : Table) (seats : List Bool) (nodes : List Node) (chairs : List (Option Chair)) (all : AreBegun file t seats nodes chairs) (count : length seats ≡ length file.parties)
    (starts : (q : ℕ) → start_in t q ≡ body_named file.protocols q) where
  abbrev kept : FileAt
  kept = without_words file

  -- ---- nodes and chairs

  seated_by : (p : ℕ) (b : Bool) (n : Node) → HasBegun file t p b n → IsSeated kept t p n
  seated_by p true n h = record { party = h.0.party; parties = h.0.parties; table = h.1; connects = h.0.connects; log = h.0.log }
  seated_by p false n h = record { party = h.0.party; parties = h.0.parties; table = h.1; connects = h.0.connects; log = h.0.log }

  within : (p : ℕ) (n : Node) → slice_get nodes p ≡ Some n → p < length seats
  within p n is = let lt = Rattle.std.proofs.lemmas.Option.slice_get_within nodes p n is in let e = all.node_count in omega (arith, lt, e)

  pub first_seats : AreSeated kept nodes
  first_seats = record {
    table = t;
    starts = starts;
    count = all.node_count ∙ count;
    each = λ p n is. let b = item_at seats p (within p n is) in seated_by p b.item n (all.each p b.item n b.is is);
  }

  pub first_over : AreOver t nodes
  first_over p n is = let b = item_at seats p (within p n is) in (all.each p b.item n b.is is).1

  boxes_by : (p : ℕ) (b : Bool) (n : Node) → HasBegun file t p b n → (q : ℕ) → outbox_of n q ≡ []
  boxes_by p true n h q = h.0.boxes q
  boxes_by p false n h q = h.0.boxes q

  lane_is : (p q : ℕ) (o : Option Node) → slice_get nodes p ≡ o → box_or o q ≡ []
  lane_is p q None is = refl
  lane_is p q (Some n) is = let b = item_at seats p (within p n is) in boxes_by p b.item n (all.each p b.item n b.is is) q

  seat_so : (p : ℕ) (b : Bool) (o : Option Chair) → SitsSo file t p b o → is_some o ≡ b
  seat_so p true None h = absurd h
  seat_so p true (Some c) h = refl
  seat_so p false None h = refl
  seat_so p false (Some c) h = absurd h

  -- which parties are played by code
  pub seats_are : (q : ℕ) → is_seat chairs q ≡ seat_in seats q
  seats_are q =
      elim (cases_lt q (length seats)) [
        | inl lt ↦
            (let b = item_at seats q lt in
            let o = item_at chairs q (let e = all.chair_count in omega (arith, lt, e)) in
            ap (λ (x : Option (Option Chair)). is_some (unwrap_or x None)) o.is ∙ seat_so q b.item o.item (all.sits q b.item o.item b.is o.is) ∙ sym (ap (λ (x : Option Bool). unwrap_or x false) b.is))
        | inr le ↦
            ap (λ (x : Option (Option Chair)). is_some (unwrap_or x None)) (nothing_at chairs q (let e = all.chair_count in omega (arith, le, e)))
            ∙ sym (ap (λ (x : Option Bool). unwrap_or x false) (nothing_at seats q le))
      ]

  -- ---- the world

  module _ (opened : OpenedAs) (rest : ℕ → List Call) where
    abbrev calls : Callers
    calls = callers_by (is_seat chairs) (then_calls opened [] rest)

    abbrev laws : ℕ → Option SeatedAt
    laws q = seat_of (seats_start kept calls).seats q

    abbrev own : ℕ → NodeAt Place Rattle.sj_semantics.specs.Program.Program
    own = first_node kept

    -- nobody's code plays it
    unseated : (q : ℕ) → chair_of chairs q ≡ None → laws q ≡ None
    unseated q none =
        elim (cases_lt q (length file.parties)) [
          | inl lt ↦ seat_at kept calls q lt ∙ ap (λ (o : Option Chair). option_map (seat_start kept q) (if is_some o then Some (rest q) else None)) none
          | inr le ↦ none_from kept calls 0 file.parties q le
        ]

    written_by : (q : ℕ) (n : NodeAt Place Rattle.sj_semantics.specs.Program.Program) → chair_of chairs q ≡ None → n ≡ own q → with_player (player_by (laws q) (own q).program) (own q) ≡ with_player (player_by (seats_by t chairs rest q) n.program) n
    written_by q n none is =
        ap (λ (o : Option SeatedAt). with_player (player_by o (own q).program) (own q)) (unseated q none ∙ sym (ap (option_map (seat_by t (rest q))) none))
        ∙ ap (λ (m : NodeAt Place Rattle.sj_semantics.specs.Program.Program). with_player (player_by (seats_by t chairs rest q) m.program) m) (sym is)

    -- a code plays it
    seat_is : (q : ℕ) (c : Chair) → q < length file.parties → chair_of chairs q ≡ Some c → Sat file t q c → laws q ≡ seats_by t chairs rest q
    seat_is q c lt is sat =
        seat_at kept calls q lt
        ∙ ap (λ (o : Option Chair). option_map (seat_start kept q) (if is_some o then Some (rest q) else None)) is
        ∙ (λ i. Some (record { ends = (connected_same file q ∙ sym sat.ends) i; steps = sym sat.calls i; calls = rest q; may = sym sat.may i }))
        ∙ sym (ap (option_map (seat_by t (rest q))) is)

    seated_by_code : (q : ℕ) (c : Chair) (n : NodeAt Place Rattle.sj_semantics.specs.Program.Program) → q < length file.parties → chair_of chairs q ≡ Some c → Sat file t q c
        → n ≡ record (own q) { program = nothing_to_do file; clock = 0 } → with_player (player_by (laws q) (own q).program) (own q) ≡ with_player (player_by (seats_by t chairs rest q) n.program) n
    seated_by_code q c n lt is sat here =
        let s : SeatedAt = seat_by t (rest q) c in
        let both : seats_by t chairs rest q ≡ Some s = ap (option_map (seat_by t (rest q))) is in
        ap (λ (o : Option SeatedAt). with_player (player_by o (own q).program) (own q)) (seat_is q c lt is sat ∙ both)
        ∙ ap (with_player (seated s)) (sym here)
        ∙ sym (ap (λ (o : Option SeatedAt). with_player (player_by o n.program) n) both)

    begins_as : (q : ℕ) (b : Bool) (n : Node) (o : Option Chair) → q < length file.parties → HasBegun file t q b n → SitsSo file t q b o → chair_of chairs q ≡ o
        → with_player (player_by (laws q) (own q).program) (own q) ≡ with_player (player_by (seats_by t chairs rest q) (node_at n).program) (node_at n)
    begins_as q true n None lt begun sits is = absurd sits
    begins_as q true n (Some c) lt begun sits is =
        seated_by_code q c (node_at n) lt is sits (begun.0.node ∙ ap (λ (m : NodeAt Place Rattle.sj_semantics.specs.Program.Program). record m { program = nothing_to_do file; clock = 0 }) (sym (first_same file q)))
    begins_as q false n None lt begun sits is = written_by q (node_at n) is (begun.0.node ∙ ap (λ (m : NodeAt Place Rattle.sj_semantics.specs.Program.Program). record m { clock = 0 }) (sym (first_same file q)))
    begins_as q false n (Some c) lt begun sits is = absurd sits

    node_is : (q : ℕ) → (seats_core kept calls).nodes q ≡ (core_by kept t nodes chairs rest).nodes q
    node_is q =
        elim (cases_lt q (length seats)) [
          | inl lt ↦
              (let b = item_at seats q lt in
              let n = item_at nodes q (let e = all.node_count in omega (arith, lt, e)) in
              let o = item_at chairs q (let e = all.chair_count in omega (arith, lt, e)) in
              begins_as q b.item n.item o.item (omega (arith, lt, count)) (all.each q b.item n.item b.is n.is) (all.sits q b.item o.item b.is o.is) (ap (λ (x : Option (Option Chair)). unwrap_or x None) o.is)
              ∙ sym (ap (λ (x : Option Node). with_player (player_by (seats_by t chairs rest q) (node_or (own q) x).program) (node_or (own q) x)) n.is))
          | inr le ↦
              (let none : chair_of chairs q ≡ None = ap (λ (x : Option (Option Chair)). unwrap_or x None) (nothing_at chairs q (let e = all.chair_count in omega (arith, le, e))) in
              written_by q (own q) none refl
              ∙ sym (ap (λ (x : Option Node). with_player (player_by (seats_by t chairs rest q) (node_or (own q) x).program) (node_or (own q) x)) (nothing_at nodes q (let e = all.node_count in omega (arith, le, e)))))
        ]

    pub start_is : seats_core kept calls ≡ core_by kept t nodes chairs rest
    start_is = λ i. record { nodes = λ q. node_is q i; lanes = λ p q. sym (lane_is p q (slice_get nodes p) refl) i }

-- the world before any event
pub reached_first : (c : PlayedWorld) (file : FileAt) (seats : List Bool) → IsOfAccepted (file_in c) → file_in c ≡ without_words file → AreBegun file c.table seats (nodes_in c) (chairs_in c) → length seats ≡ length file.parties
    → ((q : ℕ) → start_in c.table q ≡ body_named file.protocols q) → CarriesPlaces c.table → history_in c ≡ [] → IsReached c
reached_first c file seats accepted same all count starts carries none =
    subst (Rattle.sj_seats.specs.Played.IsLedBy c) (sym none)
    (record {
      accepted = accepted;
      parties = record {
        seats = subst (λ (f : FileAt). AreSeated f (nodes_in c)) (sym same) (first_seats file c.table seats (nodes_in c) (chairs_in c) all count starts);
        over = first_over file c.table seats (nodes_in c) (chairs_in c) all count starts;
        carries = carries;
        count = all.chair_count ∙ sym all.node_count;
      };
      run = λ rest.
          subst (λ (f : FileAt). seats_core f (callers_by (is_seat (chairs_in c)) (then_calls (opened_in c) [] rest)) ≡ core_by f c.table (nodes_in c) (chairs_in c) rest) (sym same)
          (start_is file c.table seats (nodes_in c) (chairs_in c) all count starts (opened_in c) rest);
    })
