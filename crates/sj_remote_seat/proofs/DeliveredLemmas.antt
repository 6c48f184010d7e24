-- A frame that comes to a party that code plays.
use Rattle.std.proofs.Common.{◌≡◌, ◌∙◌, ℕ, max, List, [], ◌∷◌, ◌++◌, length, Some, option_map, refl, sym, ap}
use Rattle.sj_end.specs.Lines.{entry_at}
use Rattle.sj_end.specs.declared.note.Entry.{Entry}
use Rattle.sj_engine.specs.declared.in_lane.ByteIn.{ByteIn}
use Rattle.sj_engine.specs.declared.out_lane.ByteOut.{ByteOut}
use Rattle.sj_lang.specs.FileAt.{FileAt}
use Rattle.sj_lang.specs.Place.{Place, done}
use Rattle.sj_node.specs.Node.{log_of, node_at, play_here, wants_of}
use Rattle.sj_node.specs.Play.{next_want}
use Rattle.sj_node.specs.Reading.{parties_of, party_of, table_of}
use Rattle.sj_node.specs.declared.node.Node.{Node}
use Rattle.sj_remote_run.proofs.PostLemmas.{posts_step}
use Rattle.sj_remote_run.specs.Posts.{has_for}
use Rattle.sj_rules.specs.Frames.{FrameAt}
use Rattle.sj_rules.specs.Node.{NodeAt, Play, arrives}
use Rattle.sj_rules.specs.NodeRun.{Came, StepAt, Steps, clock_after, deed_done, deed_note}
use Rattle.sj_rules.specs.Rows.{Worked}
use Rattle.sj_seat.specs.Views.{node_of, seat_of}
use Rattle.sj_seat.specs.declared.guest.Guest.{Guest}
use Rattle.sj_seat_laws.proofs.PlayedLemmas.{arrives_played}
use Rattle.sj_seat_laws.specs.Calls.{Call, SeatedAt}
use Rattle.sj_seat_laws.specs.SeatRows.{with_player, worked_player}
use Rattle.sj_seat_laws.specs.SeatedPlay.{seated, seated_play}
use Rattle.sj_semantics.specs.declared.Want.TheVariants as wants
use Rattle.sj_table.specs.declared.table.Spot.{Spot}
use Rattle.sj_work.proofs.NodeLemmas.{came_stepped}
use Rattle.sj_work.specs.Laned.{entries_of}
use Rattle.sj_remote_seat.specs.Turns.{IsDelivered, Ran, Resembles, Sat, has_of}
use Rattle.sj_remote_seat.proofs.SatLemmas.{ran_none, ran_then}

the_row : {X : Type 0} (x y : X) → Some x ≡ Some y → x ≡ y
the_row x y h = cc

module _ {Q : Type 0} (play : Play Place Q) (party : ℕ) (old mid : NodeAt Place Q) (st : StepAt Place) (from : ℕ) (f : FrameAt Place) (is : st.deed ≡ Came from f) (x : Steps play max party old st mid) where
  row : arrives play.blank play.parties max old from f ≡ Some x.done
  row = ap (deed_done play max party old) (sym is) ∙ x.row

  -- it leaves the program as it was
  program_stays : mid.program ≡ old.program
  program_stays =
      let kept : x.done ≡ worked_player old.program x.done =
      the_row x.done (worked_player old.program x.done) (sym row ∙ arrives_played old.program max old from play.blank play.parties f ∙ ap (option_map (worked_player old.program)) row) in
      ap (λ (n : NodeAt Place Q). n.program) x.after ∙ ap (λ (w : Worked Place (NodeAt Place Q)). w.state.program) kept

  -- and is the same step of the play in which code plays the party
  came_seated : (file : FileAt) → play.blank ≡ done → play.parties ≡ length file.parties → (s : SeatedAt) → Steps (seated_play file) max party (with_player (seated s) old) st (with_player (seated s) mid)
  came_seated file blank parties s =
      let same : arrives done (length file.parties) max old from f ≡ Some x.done = (λ i. arrives (sym blank i) (sym parties i) max old from f) ∙ row in
      record {
        done = worked_player (seated s) x.done;
        row = ap (deed_done (seated_play file) max party (with_player (seated s) old)) is ∙ arrives_played (seated s) max old from done (length file.parties) f ∙ ap (option_map (worked_player (seated s))) same;
        posts = x.posts;
        clock = x.clock ∙ ap (clock_after old) is ∙ sym (ap (clock_after (with_player (seated s) old)) is);
        event = x.event;
        note = ap (deed_note (seated_play file) party (with_player (seated s) old)) is ∙ sym (ap (deed_note play party old) is) ∙ x.note;
        after = ap (with_player (seated s)) x.after;
      }

module _ (m n : Node) (from : ℕ) (f : FrameAt Spot) (d : IsDelivered from f m n) where
  -- a party that had nothing to do of its own has nothing to do
  pub idle_delivered : wants_of m ≡ wants.Ended → wants_of n ≡ wants.Ended
  idle_delivered idle =
      let t = came_stepped m n from f d in
      ap next_want (program_stays (play_here m) (party_of m) (node_at m) (node_at n) t.step from _ t.is t.steps) ∙ idle

  pub table_delivered : table_of n ≡ table_of m
  table_delivered = let t = came_stepped m n from f d in t.keeps.table

  ran_delivered : (file : FileAt) (s : SeatedAt) (e : Entry) (outs : List ByteOut) → length file.parties ≡ parties_of m → log_of m ≡ [] → log_of n ≡ e ∷ [] → Ran file s s m n (has_for outs m) (has_for outs n) (entry_at e ∷ [])
  ran_delivered file s e outs parties empty only =
      let t = came_stepped m n from f d in
      record {
        steps = t.step ∷ [];
        run = (with_player (seated s) (node_at n), came_seated (play_here m) (party_of m) (node_at m) (node_at n) t.step from _ t.is t.steps file refl (sym parties) s, refl);
        noted = sym (ap entries_of only) ∙ t.log ∙ ap (λ l. entries_of l ++ t.step.entry ∷ []) empty;
        posts = λ q other. posts_step (party_of m) t.step outs m n t.box q other;
      }

  -- the same of a guest that was taken apart and put together again
  pub sat_delivered : {G : Type 0} (a b : Guest ByteOut ByteIn G) (e : Entry) (outs : List ByteOut) → log_of m ≡ [] → log_of n ≡ e ∷ [] → Resembles (node_of a) m → Resembles n (node_of b)
      → ((rest : List Call) → seat_of rest b ≡ seat_of rest a) → ((q : ℕ) → (q ≡ party_of (node_of a) → ⊥) → has_for outs m q ≡ has_of a q) → ((q : ℕ) → (q ≡ party_of n → ⊥) → has_of b q ≡ has_for outs n q)
      → Sat a b (entry_at e ∷ [])
  sat_delivered a b e outs empty only x z seats before after =
      let t = came_stepped m n from f d in
      record {
        calls = λ rest. rest;
        went = λ file rest parties.
            let s = seat_of rest a in
            ran_then file s s (seat_of rest b) (node_of a) n (node_of b) (has_of a) (has_for outs n) (has_of b) (entry_at e ∷ []) [] (t.keeps.party ∙ x.party)
            (ran_then file s s s (node_of a) m n (has_of a) (has_for outs m) (has_for outs n) [] (entry_at e ∷ []) x.party
            (ran_none file s s (node_of a) m (has_of a) (has_for outs m) refl x.node before) (ran_delivered file s e outs (parties ∙ sym x.parties) empty only))
            (ran_none file s (seat_of rest b) n (node_of b) (has_for outs n) (has_of b) (seats rest) z.node after);
        same = record { party = z.party ∙ t.keeps.party ∙ x.party; parties = z.parties ∙ t.keeps.parties ∙ x.parties };
      }
