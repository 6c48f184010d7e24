-- What a party does before it must wait, as a batch.
use Rattle.std.proofs.Common.{◌≡◌, ℕ, max, Bool, true, false, List, [], ◌++◌, map, Ok, refl, sym, ap, subst, ◌∙◌}
use Rattle.sj_end.specs.declared.note.Entry.{Entry}
use Rattle.sj_lang.specs.Place.{Place}
use Rattle.sj_node.specs.declared.node.Node.{Node}
use Rattle.sj_node.specs.Node.{log_of, node_at, play_here}
use Rattle.sj_node.specs.Play.{play_with}
use Rattle.sj_node.specs.Reading.{IsFinished, TakesEntry, TakesOut, parties_of, party_of}
use Rattle.sj_rules.specs.Frames.{FrameAt}
use Rattle.sj_rules.specs.Node.{NodeAt}
use Rattle.sj_rules.specs.NodeRun.{NodeRun}
use Rattle.sj_semantics.specs.Program.{Program}
use Rattle.sj_table.specs.Spots.{start_in}
use Rattle.sj_work.specs.Laned.{entries_of}
use Rattle.sj_work.specs.Views.{lanes_of, node_of}
use Rattle.sj_work.specs.declared.worker.Stop.{Stop}
use Rattle.sj_work.specs.declared.worker.Stop.TheVariants as stops
use Rattle.sj_end.specs.Lines.{entry_at}
use Rattle.sj_engine.specs.Lanes.{pushed_on}
use Rattle.sj_engine.specs.declared.in_lane.ByteIn.{ByteIn}
use Rattle.sj_engine.specs.declared.out_lane.ByteOut.{ByteOut}
use Rattle.sj_lane.specs.declared.lane.Lanes.{Lanes}
use Rattle.sj_remote_run.specs.Batches.{BatchAt, IsBatch}
use Rattle.sj_remote_run.specs.Posts.{HandsOver, HasNone, Posts, has_for}
use Rattle.sj_remote_run.specs.Turns.{Goes, node_in, outcome_by, outs_in}
use Rattle.sj_remote_run.specs.declared.outcome.Outcome.{Outcome}
use Rattle.sj_remote_run.specs.declared.outcome.Outcome.TheVariants as outcomes
use Rattle.sj_remote_run.specs.declared.player.Player.{Player}
use Rattle.sj_remote_run.proofs.PostLemmas.{are_frames, hands_none, has_entry, posts_still, rounds_posts}

-- where the log alone goes, the play stays
pub play_taken : (a b : Node) → TakesEntry a b → play_here b ≡ play_here a
play_taken a b t = sym (λ i. play_with (start_in (sym t.table i)) (sym t.connects i) (sym t.parties i))

pub play_out : (a b : Node) → TakesOut a b → play_here b ≡ play_here a
play_out a b t = sym (λ i. play_with (start_in (sym t.table i)) (sym t.connects i) (sym t.parties i))

pub ended_finished : (s : Stop) (finished : Bool) → outcome_by s finished ≡ Ok outcomes.Ended → finished ≡ true
ended_finished s true is = refl
ended_finished stops.Finished false is = absurd cc
ended_finished stops.Idle false is = absurd cc
ended_finished stops.AtLimit false is = absurd cc
ended_finished stops.ClockEnd false is = absurd cc
ended_finished stops.NoMemory false is = absurd cc
ended_finished stops.Fault false is = absurd cc
ended_finished stops.Unfit false is = absurd cc

module _ (old new : Player) (o : Outcome) (noted : List Entry) (g : Goes old new o noted) where
  abbrev pub batch_of : BatchAt
  batch_of = record { steps = g.rounds.steps; noted = noted; posts = map pushed_on (outs_in new) }

  pub goes_play : play_here (node_in new) ≡ play_here (node_in old)
  goes_play = play_out g.apart (node_in new) g.taken_out ∙ play_taken (node_of g.to) g.apart g.taken ∙ g.rounds.play ∙ ap play_here g.node

  pub goes_party : party_of (node_in new) ≡ party_of (node_in old)
  goes_party = g.taken_out.party ∙ g.taken.party ∙ g.rounds.party ∙ ap party_of g.node

  goes_parties : parties_of (node_in new) ≡ parties_of (node_in old)
  goes_parties = g.taken_out.parties ∙ g.taken.parties ∙ g.rounds.parties ∙ ap parties_of g.node

  -- what it has for the others
  goes_posts : Posts (party_of (node_in old)) g.rounds.steps (has_for (outs_in old) (node_in old)) (has_for (outs_in new) (node_in new))
  goes_posts =
      let steps = g.rounds.steps in
      let to : ℕ → List (FrameAt Place) = has_for (lanes_of g.to).outs.items (node_of g.to) in
      let apart : party_of g.apart ≡ party_of (node_in old) = g.taken.party ∙ g.rounds.party ∙ ap party_of g.node in
      posts_still (party_of (node_in old)) steps (has_for (outs_in old) (node_in old)) to (has_for (outs_in new) (node_in new))
      (subst (λ (n : Node). Posts (party_of n) steps (has_for (outs_in old) n) to) g.node
      (subst (λ (l : Lanes ByteOut ByteIn). Posts (party_of (node_of g.from)) steps (has_for l.outs.items (node_of g.from)) to) g.lanes (rounds_posts g.lost g.from g.to g.rounds)))
      (λ q other. g.goes_out.same q (λ is. other (is ∙ apart)) ∙ has_entry (lanes_of g.to).outs.items (node_of g.to) g.apart g.taken q)

  module _ (empty : log_of (node_in old) ≡ []) (none : HasNone (outs_in old) (node_in old)) where
    goes_notes : entries_of noted ≡ map (λ s. s.entry) g.rounds.steps
    goes_notes =
        ap entries_of (sym g.notes) ∙ g.rounds.log
        ∙ ap (λ (n : Node). entries_of (log_of n) ++ map (λ s. s.entry) g.rounds.steps) g.node ∙ ap (λ (l : List Entry). entries_of l ++ map (λ s. s.entry) g.rounds.steps) empty

    pub goes_batch : IsBatch (play_here (node_in old)) (party_of (node_in old)) (node_at (node_in old)) (node_at (node_in new)) batch_of
    goes_batch = record {
      run = subst (λ (n : NodeAt Place Program). NodeRun (play_here (node_in old)) max (party_of (node_in old)) (node_at (node_in old)) g.rounds.steps n) (sym (g.taken_out.node ∙ g.taken.node))
          (subst (λ (n : Node). NodeRun (play_here n) max (party_of n) (node_at n) g.rounds.steps (node_at (node_of g.to))) g.node g.rounds.run);
      notes = goes_notes;
      frames = are_frames (outs_in old) (outs_in new) (node_in old) (node_in new) g.rounds.steps none goes_posts g.goes_out.out goes_parties;
    }

    -- once it is handed over nothing is left
    pub goes_none : (last : List ByteOut) → HandsOver noted (outs_in new) last → HasNone last (node_in new)
    goes_none last hands =
        hands_none (λ s. s.entry) entry_at noted (outs_in old) (outs_in new) last (node_in old) (node_in new) g.rounds.steps goes_notes none goes_posts g.goes_out.out goes_parties goes_party hands

  pub goes_ended : o ≡ outcomes.Ended → IsFinished (node_in new)
  goes_ended is = g.ended (ended_finished g.stop g.finished (g.stands ∙ ap (λ x. Ok x) is))
