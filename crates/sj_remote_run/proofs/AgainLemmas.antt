-- Entries done again, one after another.
use Rattle.std.proofs.Common.{ℕ, max, List, [], ◌∷◌, ◌++◌, map, refl, sym, ap, subst, ◌∙◌, append_assoc, append-nil}
use Rattle.std.proofs.lemmas.List.{map-append}
use Rattle.sj_end.specs.declared.note.Entry.{Entry}
use Rattle.sj_lang.specs.Place.{Place, done}
use Rattle.sj_semantics.specs.Program.{Program}
use Rattle.sj_rules.specs.Node.{Play}
use Rattle.sj_rules.specs.NodeRun.{NodeRun, StepAt}
use Rattle.sj_joined_lemmas.proofs.WorkerLemmas.{runs_joined}
use Rattle.sj_node.specs.declared.node.Node.{Node}
use Rattle.sj_node.specs.Node.{log_of, node_at, play_here}
use Rattle.sj_node.specs.Play.{play_with}
use Rattle.sj_node.specs.Reading.{TakesOut, party_of}
use Rattle.sj_table.specs.Spots.{start_in}
use Rattle.sj_work.specs.Laned.{entries_of}
use Rattle.sj_engine.specs.Redone.{Redone}
use Rattle.sj_engine.specs.declared.out_lane.ByteOut.{ByteOut}
use Rattle.sj_remote_run.specs.Again.{IsRedone, Went, WentFor}
use Rattle.sj_remote_run.specs.Posts.{GoesOut, has_for}
use Rattle.sj_remote_run.proofs.PostLemmas.{posts_none, posts_step, posts_still, posts_then}

-- nothing was done
pub went_none : (a : Node) → Went a a
went_none a = record { steps = []; run = refl; log = sym (append-nil (entries_of (log_of a))); play = refl; party = refl; parties = refl }

module _ (a b : Node) (x : Went a b) where
  -- one more entry
  pub went_more : (c : Node) (e : Entry) → IsRedone b c e → Went a c
  went_more c e r =
      let y : Redone b c r.0 e = r.1 in
      let more : List (StepAt Place) = y.step ∷ [] in
      record {
        steps = x.steps ++ more;
        run = runs_joined (play_here a) max done (party_of a) x.steps more (node_at a) (node_at b) (node_at c) x.run
            (subst (λ (play : Play Place Program). NodeRun play max (party_of a) (node_at b) more (node_at c)) x.play
            (subst (λ (p : ℕ). NodeRun (play_here b) max p (node_at b) more (node_at c)) x.party (node_at c, y.steps, refl)));
        log = y.log ∙ ap (λ l. entries_of (log_of b) ++ l ∷ []) (sym y.noted) ∙ ap (λ l. l ++ map (λ s. s.entry) more) x.log
            ∙ append_assoc (entries_of (log_of a)) (map (λ s. s.entry) x.steps) (map (λ s. s.entry) more)
            ∙ ap (λ l. entries_of (log_of a) ++ l) (sym (map-append (λ (s : StepAt Place). s.entry) x.steps more));
        play = y.play ∙ x.play;
        party = y.party ∙ x.party;
        parties = y.parties ∙ x.parties;
      }

  -- frames that go to lanes change nothing of it
  pub went_out : (c : Node) → TakesOut b c → Went a c
  went_out c t = record {
    steps = x.steps;
    run = subst (λ n. NodeRun (play_here a) max (party_of a) (node_at a) x.steps n) (sym t.node) x.run;
    log = ap entries_of t.log ∙ x.log;
    play = sym (λ i. play_with (start_in (sym t.table i)) (sym t.connects i) (sym t.parties i)) ∙ x.play;
    party = t.party ∙ x.party;
    parties = t.parties ∙ x.parties;
  }

-- the same, with what it has for the others
pub for_none : (outs : List ByteOut) (a : Node) → WentFor outs a outs a
unfolding went_none
for_none outs a = record { went = went_none a; posts = posts_none (party_of a) (has_for outs a) (has_for outs a) (λ q other. refl) }

module _ (outs : List ByteOut) (a : Node) (later : List ByteOut) (b : Node) (x : WentFor outs a later b) where
  pub for_more : (c : Node) (e : Entry) → IsRedone b c e → WentFor outs a later c
  unfolding went_more
  for_more c e r =
      let y : Redone b c r.0 e = r.1 in
      record {
        went = went_more a b x.went c e r;
        posts = posts_then (party_of a) x.went.steps (y.step ∷ []) (has_for outs a) (has_for later b) (has_for later c) x.posts (λ q other. posts_step (party_of a) y.step later b c y.box q other);
      }

  pub for_out : (last : List ByteOut) (c : Node) → TakesOut b c → GoesOut later b last c → WentFor outs a last c
  unfolding went_out
  for_out last c t g = record {
    went = went_out a b x.went c t;
    posts = posts_still (party_of a) x.went.steps (has_for outs a) (has_for later b) (has_for last c) x.posts (λ q other. g.same q (λ is. other (is ∙ x.went.party)));
  }

-- no frame went to a lane
pub takes_none : (a : Node) → TakesOut a a
takes_none a = record { node = refl; log = refl; party = refl; parties = refl; table = refl; connects = refl }
