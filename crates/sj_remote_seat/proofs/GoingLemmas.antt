-- Turns of a party that code plays, one after another.
use Rattle.std.proofs.Common.{◌≡◌, ◌∙◌, ℕ, ◌+◌, List, [], ◌∷◌, ◌++◌, Option, Some, ap, append-nil, get_or, length, map, refl, subst, sym}
use Rattle.std.proofs.lemmas.List.Concat.{flat_map-append}
use Rattle.sj_base.proofs.PieceLemmas.{put_behind-nil}
use Rattle.sj_base.specs.Stream.{put_behind}
use Rattle.sj_end.specs.declared.note.Entry.{Entry}
use Rattle.sj_engine.specs.declared.in_lane.ByteIn.{ByteIn}
use Rattle.sj_engine.specs.declared.out_lane.ByteOut.{ByteOut}
use Rattle.sj_lang.specs.FileAt.{FileAt}
use Rattle.sj_lang.specs.Place.{Place}
use Rattle.sj_node.specs.Node.{log_of}
use Rattle.sj_node.specs.Reading.{parties_of, party_of}
use Rattle.sj_remote_run.proofs.SentLemmas.{adds_by, batch_is}
use Rattle.sj_remote_run.specs.Batches.{BatchAt}
use Rattle.sj_remote_run.specs.Sent.{Asks, CommandAt, Reads, text_sent, words_sent}
use Rattle.sj_remote_run.specs.Turns.{added_count, batch_text, next_seen}
use Rattle.sj_resp.specs.Spelling.{command_text}
use Rattle.sj_rules.specs.Frames.{FrameAt}
use Rattle.sj_rules.specs.Node.{NodeAt}
use Rattle.sj_seat.specs.Views.{node_of, seat_of}
use Rattle.sj_seat.specs.declared.guest.Guest.{Guest}
use Rattle.sj_seat_laws.specs.Calls.{Call}
use Rattle.sj_seat_laws.specs.SeatRows.{with_player}
use Rattle.sj_seat_laws.specs.SeatedPlay.{Player, seated}
use Rattle.sj_streams.specs.Commands.{read_words}
use Rattle.sj_work.specs.Laned.{entries_of}
use Rattle.sj_remote_seat.specs.Batches.{AreSent, IsBatch}
use Rattle.sj_remote_seat.specs.Played.{GoesOn}
use Rattle.sj_remote_seat.specs.Turns.{AreHanded, Goes, IsClear, IsSame, Noted, Turns, has_of, played_at}
use Rattle.sj_remote_seat.proofs.HandedLemmas.{are_handed, left_clear}
use Rattle.sj_remote_seat.proofs.SentLemmas.{batch_sent, goes_then, sent_both}

-- a log that is taken leaves what the party is
same_played : {G : Type 0} (rest : List Call) (next new : Guest ByteOut ByteIn G) → Goes next new → played_at (seat_of rest next) (node_of next) ≡ played_at (seat_of rest new) (node_of new)
same_played rest next new g = λ i. with_player (seated (sym (g.still.seats rest) i)) (sym g.still.nodes.node i)

module _ (file : FileAt) (run : List ℕ) (keys : List (List ℕ)) {G : Type 0} where
  -- what was sent since, whatever its code calls later
  pub record Going (first last : ℕ) (old new : Guest ByteOut ByteIn G) (before after : Option (List ℕ)) : Type 0 where
    pub calls : List Call → List Call
    pub goes : (rest : List Call) → GoesOn (text_sent file run keys (party_of (node_of old))) file (party_of (node_of old)) first last (played_at (seat_of (calls rest) old) (node_of old)) (played_at (seat_of rest new) (node_of new)) before after
    pub same : IsSame old new
    pub empty : log_of (node_of new) ≡ []

  pub going_none : (first : ℕ) (old : Guest ByteOut ByteIn G) (before : Option (List ℕ)) → log_of (node_of old) ≡ [] → Going first first old old before before
  going_none first old before empty = record {
    calls = λ rest. rest;
    goes = λ rest. record { commands = []; written = put_behind-nil before; sent = (refl, refl) };
    same = record { party = refl; parties = refl };
    empty = empty;
  }

  module _ (first last : ℕ) (old mid next : Guest ByteOut ByteIn G) (before between after : Option (List ℕ)) (parties : length file.parties ≡ parties_of (node_of old))
      (w : Going first last old mid before between) (t : Turns mid next) (posts : List (List (FrameAt Place))) (clear : IsClear mid) (handed : AreHanded next posts) where
    abbrev noted_by : (rest : List Call) → Noted file (seat_of (t.calls rest) mid) (seat_of rest next) (node_of mid) (node_of next) (has_of mid) (has_of next)
    noted_by rest = t.went file rest (parties ∙ sym w.same.parties)

    -- what the party noted, and the frames with it
    abbrev batch_by : List Call → BatchAt
    batch_by rest = record { steps = (noted_by rest).ran.steps; noted = log_of (node_of next); posts = posts }

    is_batch : (rest : List Call) → IsBatch file (party_of (node_of old)) (played_at (seat_of (t.calls rest) mid) (node_of mid)) (played_at (seat_of rest next) (node_of next)) (batch_by rest)
    is_batch rest =
        let n : Noted file (seat_of (t.calls rest) mid) (seat_of rest next) (node_of mid) (node_of next) (has_of mid) (has_of next) = noted_by rest in
        subst (λ (p : ℕ). IsBatch file p (played_at (seat_of (t.calls rest) mid) (node_of mid)) (played_at (seat_of rest next) (node_of next)) (batch_by rest)) w.same.party
        (record {
          run = n.ran.run;
          notes = n.log ∙ ap (λ (l : List Entry). entries_of l ++ n.entries) w.empty ∙ n.ran.noted;
          frames = are_handed mid next file n.ran.steps posts (parties ∙ sym w.same.parties) t.same clear n.ran.posts handed;
        })

    -- once it is handed over nothing is left
    pub turn_clear : (new : Guest ByteOut ByteIn G) → Goes next new → IsClear new
    turn_clear new g =
        let n : Noted file (seat_of (t.calls []) mid) (seat_of [] next) (node_of mid) (node_of next) (has_of mid) (has_of next) = noted_by [] in
        left_clear (log_of (node_of next)) mid next new n.ran.steps (n.log ∙ ap (λ (l : List Entry). entries_of l ++ n.entries) w.empty ∙ n.ran.noted) clear t.same n.ran.posts g.still g.left

    batch_goes : (rest : List Call) → AreSent file (party_of (node_of old)) last (played_at (seat_of (t.calls rest) mid) (node_of mid))
        (adds_by (last + 1) (log_of (node_of next)) (batch_by rest)) (last + added_count (log_of (node_of next))) (played_at (seat_of rest next) (node_of next))
    batch_goes rest = batch_sent file (party_of (node_of old)) last (played_at (seat_of (t.calls rest) mid) (node_of mid)) (played_at (seat_of rest next) (node_of next)) (batch_by rest) (is_batch rest)

    module _ (seen : List ℕ) (number : last ≡ get_or seen (party_of (node_of old)) 0) where
      text_is : (rest : List Call) → batch_text keys seen file (party_of (node_of old)) (log_of (node_of next)) posts
          ≡ text_sent file run keys (party_of (node_of old)) (adds_by (last + 1) (log_of (node_of next)) (batch_by rest))
      text_is rest = subst (λ (k : ℕ). batch_text keys seen file (party_of (node_of old)) (log_of (node_of next)) posts ≡ text_sent file run keys (party_of (node_of old)) (adds_by (k + 1) (log_of (node_of next)) (batch_by rest)))
          (sym number) (batch_is file run keys (party_of (node_of old)) seen (batch_by rest))

      -- a turn without a read
      pub turn_adds : after ≡ put_behind between (batch_text keys seen file (party_of (node_of old)) (log_of (node_of next)) posts) → (rest : List Call)
          → GoesOn (text_sent file run keys (party_of (node_of old))) file (party_of (node_of old)) first (last + added_count (log_of (node_of next)))
          (played_at (seat_of (w.calls (t.calls rest)) old) (node_of old)) (played_at (seat_of rest next) (node_of next)) before after
      turn_adds wrote rest =
          goes_then file run keys (party_of (node_of old)) first last (last + added_count (log_of (node_of next))) (played_at (seat_of (w.calls (t.calls rest)) old) (node_of old))
          (played_at (seat_of (t.calls rest) mid) (node_of mid)) (played_at (seat_of rest next) (node_of next)) before between after (adds_by (last + 1) (log_of (node_of next)) (batch_by rest))
          (w.goes (t.calls rest)) (batch_goes rest) (wrote ∙ ap (put_behind between) (text_is rest))

      -- and one with it
      pub turn_asks : (wait : ℕ) → after ≡ put_behind between (batch_text keys seen file (party_of (node_of old)) (log_of (node_of next)) posts
          ++ command_text (read_words 512 (Some wait) keys (next_seen (party_of (node_of old)) (log_of (node_of next)) seen))) → (rest : List Call)
          → GoesOn (text_sent file run keys (party_of (node_of old))) file (party_of (node_of old)) first (last + added_count (log_of (node_of next)))
          (played_at (seat_of (w.calls (t.calls rest)) old) (node_of old)) (played_at (seat_of rest next) (node_of next)) before after
      turn_asks wait wrote rest =
          let party : ℕ = party_of (node_of old) in
          let end : ℕ = last + added_count (log_of (node_of next)) in
          let cs : List CommandAt = adds_by (last + 1) (log_of (node_of next)) (batch_by rest) in
          let read : CommandAt = Asks (Reads (Some wait) (next_seen party (log_of (node_of next)) seen)) in
          let b : NodeAt Place Player = played_at (seat_of (t.calls rest) mid) (node_of mid) in
          let c : NodeAt Place Player = played_at (seat_of rest next) (node_of next) in
          goes_then file run keys party first last end (played_at (seat_of (w.calls (t.calls rest)) old) (node_of old)) b c before between after (cs ++ read ∷ []) (w.goes (t.calls rest))
          (sent_both file party cs (read ∷ []) last end end b c c (batch_goes rest) (refl, refl))
          (wrote ∙ ap (put_behind between)
          (ap (λ (t : List ℕ). t ++ command_text (words_sent file run keys party read)) (text_is rest)
          ∙ ap (λ (t : List ℕ). text_sent file run keys party cs ++ t) (sym (append-nil (command_text (words_sent file run keys party read))))
          ∙ sym (flat_map-append (λ c. command_text (words_sent file run keys party c)) cs (read ∷ []))))

      -- and goes on after it with a log that is empty
      pub turn_goes : (wait end : ℕ) (new : Guest ByteOut ByteIn G) → Goes next new → end ≡ last + added_count (log_of (node_of next))
          → after ≡ put_behind between (batch_text keys seen file (party_of (node_of old)) (log_of (node_of next)) posts
          ++ command_text (read_words 512 (Some wait) keys (next_seen (party_of (node_of old)) (log_of (node_of next)) seen))) → Going first end old new before after
      turn_goes wait end new g at wrote = record {
        calls = λ rest. w.calls (t.calls rest);
        goes = λ rest.
            subst (λ (k : ℕ). GoesOn (text_sent file run keys (party_of (node_of old))) file (party_of (node_of old)) first k
            (played_at (seat_of (w.calls (t.calls rest)) old) (node_of old)) (played_at (seat_of rest new) (node_of new)) before after) (sym at)
            (subst (λ (n : NodeAt Place Player). GoesOn (text_sent file run keys (party_of (node_of old))) file (party_of (node_of old)) first (last + added_count (log_of (node_of next)))
            (played_at (seat_of (w.calls (t.calls rest)) old) (node_of old)) n before after) (same_played rest next new g) (turn_asks wait wrote rest));
        same = record { party = g.still.nodes.party ∙ t.same.party ∙ w.same.party; parties = g.still.nodes.parties ∙ t.same.parties ∙ w.same.parties };
        empty = g.log;
      }
