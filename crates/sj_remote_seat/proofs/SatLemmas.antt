-- What a party that code plays does, one piece after another.
use Rattle.std.proofs.Common.{◌≡◌, ◌∙◌, ℕ, max, List, [], ◌++◌, Option, None, Some, map, refl, sym, ap, subst, append_assoc, append-nil}
use Rattle.std.proofs.lemmas.List.{map-append}
use Rattle.sj_joined_lemmas.proofs.WorkerLemmas.{runs_joined}
use Rattle.sj_engine.specs.Lanes.{pushed_on}
use Rattle.sj_engine.specs.declared.in_lane.ByteIn.{ByteIn}
use Rattle.sj_engine.specs.declared.out_lane.ByteOut.{ByteOut}
use Rattle.sj_lane.specs.declared.lane.InLane.{Ghosts as InLane}
use Rattle.sj_lane.specs.declared.lane.OutLane.{Ghosts as OutLane}
use Rattle.sj_lang.specs.FileAt.{FileAt}
use Rattle.sj_lang.specs.Place.{Place, done}
use Rattle.sj_node.specs.Node.{log_of, node_at}
use Rattle.sj_node.specs.Reading.{TakesEntry, TakesOut, parties_of, party_of}
use Rattle.sj_node.specs.declared.node.Node.{Node}
use Rattle.sj_remote_run.proofs.PostLemmas.{Frames, frames_at, lane_frames, posts_none, posts_then}
use Rattle.sj_remote_run.specs.Posts.{Posts, waits_for}
use Rattle.sj_rules.specs.Log.{EntryAt}
use Rattle.sj_rules.specs.NodeRun.{NodeRun, StepAt, posted_to}
use Rattle.sj_rules.specs.Work.{OutStep}
use Rattle.sj_seat.specs.Holding.{ends_at}
use Rattle.sj_seat.specs.Holdings.{IsHeldBy}
use Rattle.sj_seat.specs.Opened.{openings_at}
use Rattle.sj_seat.specs.Views.{node_of, seat_of, worker_of}
use Rattle.sj_seat.specs.declared.holdings.Holdings.{Holdings}
use Rattle.sj_seat.specs.declared.guest.Guest.{Guest}
use Rattle.sj_seat_laws.specs.Calls.{Call, SeatedAt}
use Rattle.sj_seat_laws.specs.SeatRows.{with_player}
use Rattle.sj_seat_laws.specs.SeatedPlay.{seated, seated_play}
use Rattle.sj_seat_run.specs.Played.{Played}
use Rattle.sj_work.proofs.LaneLemmas.{some_is}
use Rattle.sj_work.specs.Laned.{entries_of}
use Rattle.sj_work.specs.Views.{out_of}
use Rattle.sj_remote_seat.specs.Turns.{Ran, Resembles, Sat, SatBy, Still, Turns, has_of, outs_of, played_at}

-- nothing is done
pub ran_none : (file : FileAt) (s t : SeatedAt) (a b : Node) (f g : ℕ → Frames) → t ≡ s → node_at b ≡ node_at a → ((q : ℕ) → (q ≡ party_of a → ⊥) → g q ≡ f q) → Ran file s t a b f g []
ran_none file s t a b f g seat node same = record {
  steps = [];
  run = λ i. with_player (seated (sym seat i)) (sym node i);
  noted = refl;
  posts = posts_none (party_of a) f g same;
}

-- one piece after another
pub ran_then : (file : FileAt) (s t u : SeatedAt) (a b c : Node) (f g h : ℕ → Frames) (xs ys : List EntryAt) → party_of b ≡ party_of a → Ran file s t a b f g xs → Ran file t u b c g h ys → Ran file s u a c f h (xs ++ ys)
ran_then file s t u a b c f g h xs ys party x y = record {
  steps = x.steps ++ y.steps;
  run = runs_joined (seated_play file) max done (party_of a) x.steps y.steps (with_player (seated s) (node_at a)) (with_player (seated t) (node_at b)) (with_player (seated u) (node_at c)) x.run
      (subst (λ (p : ℕ). NodeRun (seated_play file) max p (with_player (seated t) (node_at b)) y.steps (with_player (seated u) (node_at c))) party y.run);
  noted = (λ i. x.noted i ++ y.noted i) ∙ sym (map-append (λ (e : StepAt Place). e.entry) x.steps y.steps);
  posts = posts_then (party_of a) x.steps y.steps f g h x.posts (subst (λ (p : ℕ). Posts p y.steps g h) party y.posts);
}

pub after_entry : (a b : Node) → TakesEntry a b → Resembles a b
after_entry a b t = record { node = t.node; party = t.party; parties = t.parties }

pub after_out : (a b : Node) → TakesOut a b → Resembles a b
after_out a b t = record { node = t.node; party = t.party; parties = t.parties }

pub resembles_then : (a b c : Node) → Resembles a b → Resembles b c → Resembles a c
resembles_then a b c x y = record { node = y.node ∙ x.node; party = y.party ∙ x.party; parties = y.parties ∙ x.parties }

pub resembles_same : (a b : Node) → b ≡ a → Resembles a b
resembles_same a b e = record { node = ap node_at e; party = ap party_of e; parties = ap parties_of e }

module _ {O I G : Type 0} where
  pub seats_same : (h : Holdings G) (a b : Guest O I G) → IsHeldBy h a → IsHeldBy h b → (rest : List Call) → seat_of rest b ≡ seat_of rest a
  seats_same h a b x y rest =
      let table : b.table ≡ a.table = y.table ∙ sym x.table in
      let ends : b.ends.items ≡ a.ends.items = y.ends ∙ sym x.ends in
      let may : b.may ≡ a.may = y.may ∙ sym x.may in
      let calls : b.calls ≡ a.calls = y.calls ∙ sym x.calls in
      λ i. record { ends = ends_at (table i) (ends i); steps = calls i; calls = rest; may = openings_at (table i) (may i) }

  -- it was taken apart, its node became that one, and it was put together again
  pub put_together : (h : Holdings G) (a b : Guest O I G) (m n : Node) → IsHeldBy h a → IsHeldBy h b → m ≡ node_of a → node_of b ≡ n → Resembles m n → Still a b
  put_together h a b m n x y from to like = record {
    seats = seats_same h a b x y;
    nodes = resembles_then (node_of a) n (node_of b) (resembles_then (node_of a) m n (resembles_same (node_of a) m from) like) (resembles_same n (node_of b) to);
  }

  pub still_itself : (a : Guest O I G) → Still a a
  still_itself a = record { seats = λ rest. refl; nodes = record { node = refl; party = refl; parties = refl } }

  -- a log that is taken, or frames that go to lanes, leave what the party is
  pub still_played : (rest : List Call) (a b : Guest O I G) → Still a b → played_at (seat_of rest a) (node_of a) ≡ played_at (seat_of rest b) (node_of b)
  still_played rest a b x = λ i. with_player (seated (sym (x.seats rest) i)) (sym x.nodes.node i)

-- one lane of a worker, and what waits for it
steps_has : (same : ByteOut → ByteOut → Type 0) (o p : Option ByteOut) (box left posts : Frames) → OutStep (λ x. Some (pushed_on x)) same o p box left posts → lane_frames p ++ left ≡ (lane_frames o ++ box) ++ posts
steps_has same None None box left posts s = s
steps_has same None (Some p) box left posts s = absurd s
steps_has same (Some o) None box left posts s = absurd s
steps_has same (Some o) (Some p) box left posts s =
    let now : Frames = s.1.0 in
    ap (λ (l : Frames). l ++ left) (some_is (pushed_on p) (pushed_on o ++ now) s.1.1) ∙ append_assoc (pushed_on o) now left ∙ ap (λ (l : Frames). pushed_on o ++ l) s.1.2 ∙ sym (append_assoc (pushed_on o) box posts)

module _ {G : Type 0} where
  pub sat_still : (a b : Guest ByteOut ByteIn G) (f g : ℕ → Frames) → Still a b → ((q : ℕ) → (q ≡ party_of (node_of a) → ⊥) → g q ≡ f q) → SatBy a b f g []
  sat_still a b f g x same = record {
    calls = λ rest. rest;
    went = λ file rest parties. ran_none file (seat_of rest a) (seat_of rest b) (node_of a) (node_of b) f g (x.seats rest) x.nodes.node same;
    same = record { party = x.nodes.party; parties = x.nodes.parties };
  }

  pub sat_then : (a b c : Guest ByteOut ByteIn G) (f g h : ℕ → Frames) (xs ys : List EntryAt) → SatBy a b f g xs → SatBy b c g h ys → SatBy a c f h (xs ++ ys)
  sat_then a b c f g h xs ys x y = record {
    calls = λ rest. x.calls (y.calls rest);
    went = λ file rest parties.
        ran_then file (seat_of (x.calls (y.calls rest)) a) (seat_of (y.calls rest) b) (seat_of rest c) (node_of a) (node_of b) (node_of c) f g h xs ys x.same.party
        (x.went file (y.calls rest) parties) (y.went file rest (parties ∙ sym x.same.parties));
    same = record { party = y.same.party ∙ x.same.party; parties = y.same.parties ∙ x.same.parties };
  }

  -- before and after it nothing else happened
  pub sat_between : (a b c d : Guest ByteOut ByteIn G) (f g h k : ℕ → Frames) (xs : List EntryAt) → Still a b → ((q : ℕ) → (q ≡ party_of (node_of a) → ⊥) → g q ≡ f q) → SatBy b c g h xs
      → Still c d → ((q : ℕ) → (q ≡ party_of (node_of c) → ⊥) → k q ≡ h q) → SatBy a d f k xs
  sat_between a b c d f g h k xs x before y z after =
      subst (λ (l : List EntryAt). SatBy a d f k l) (append-nil xs)
      (sat_then a c d f h k xs [] (sat_then a b c f g h [] xs (sat_still a b f g x before) y) (sat_still c d h k z after))

  -- with what is on other lanes before it
  pub sat_after : (a b : Guest ByteOut ByteIn G) (x f g : ℕ → Frames) (xs : List EntryAt) → SatBy a b f g xs → SatBy a b (λ q. x q ++ f q) (λ q. x q ++ g q) xs
  sat_after a b x f g xs y = record {
    calls = y.calls;
    went = λ file rest parties.
        let r = y.went file rest parties in
        record {
          steps = r.steps;
          run = r.run;
          noted = r.noted;
          posts = λ q other. ap (λ (l : Frames). x q ++ l) (r.posts q other) ∙ sym (append_assoc (x q) (f q) (posted_to done q r.steps));
        };
    same = y.same;
  }

  pub turns_none : (a b : Guest ByteOut ByteIn G) → Still a b → log_of (node_of b) ≡ log_of (node_of a) → ((q : ℕ) → (q ≡ party_of (node_of a) → ⊥) → has_of b q ≡ has_of a q) → Turns a b
  turns_none a b x log same = record {
    calls = λ rest. rest;
    went = λ file rest parties. record {
      entries = [];
      ran = ran_none file (seat_of rest a) (seat_of rest b) (node_of a) (node_of b) (has_of a) (has_of b) (x.seats rest) x.nodes.node same;
      log = ap entries_of log ∙ sym (append-nil (entries_of (log_of (node_of a))));
    };
    same = record { party = x.nodes.party; parties = x.nodes.parties };
  }

  pub turns_then : (a b c : Guest ByteOut ByteIn G) → Turns a b → Turns b c → Turns a c
  turns_then a b c x y = record {
    calls = λ rest. x.calls (y.calls rest);
    went = λ file rest parties.
        let p = x.went file (y.calls rest) parties in
        let q = y.went file rest (parties ∙ sym x.same.parties) in
        record {
          entries = p.entries ++ q.entries;
          ran = ran_then file (seat_of (x.calls (y.calls rest)) a) (seat_of (y.calls rest) b) (seat_of rest c) (node_of a) (node_of b) (node_of c) (has_of a) (has_of b) (has_of c)
              p.entries q.entries x.same.party p.ran q.ran;
          log = q.log ∙ ap (λ l. l ++ q.entries) p.log ∙ append_assoc (entries_of (log_of (node_of a))) p.entries q.entries;
        };
    same = record { party = y.same.party ∙ x.same.party; parties = y.same.parties ∙ x.same.parties };
  }

  -- what its code asked for
  pub turns_played : (outward : OutLane ByteOut) (inward : InLane ByteIn) → outward.pushed ≡ (λ x. Some (pushed_on x)) → (a b : Guest ByteOut ByteIn G) → Played outward inward a b → Turns a b
  turns_played outward inward pushed a b x = record {
    calls = x.calls;
    went = λ file rest parties.
        let w = x.went file rest parties in
        record {
          entries = map (λ e. e.entry) w.work.steps;
          ran = record { steps = w.work.steps; run = w.work.run; noted = refl; posts = λ q other. posts_at q w.work.steps (w.work.outs q) };
          log = w.work.log;
        };
    same = record { party = x.keeps.party; parties = x.keeps.parties };
  }
    where
      posts_at : (q : ℕ) (steps : List (StepAt Place)) → OutStep outward.pushed outward.same (out_of (worker_of a) q) (out_of (worker_of b) q) (waits_for (node_of a) q) (waits_for (node_of b) q) (posted_to done q steps)
          → has_of b q ≡ has_of a q ++ posted_to done q steps
      posts_at q steps s =
          ap (λ (l : Frames). l ++ waits_for (node_of b) q) (frames_at (outs_of b) q)
          ∙ steps_has outward.same (out_of (worker_of a) q) (out_of (worker_of b) q) (waits_for (node_of a) q) (waits_for (node_of b) q) (posted_to done q steps)
          (subst (λ (p : ByteOut → Option Frames). OutStep p outward.same (out_of (worker_of a) q) (out_of (worker_of b) q) (waits_for (node_of a) q) (waits_for (node_of b) q) (posted_to done q steps)) pushed s)
          ∙ ap (λ (l : Frames). (l ++ waits_for (node_of a) q) ++ posted_to done q steps) (sym (frames_at (outs_of a) q))

  -- what is in a log that was empty is what was noted
  pub sat_turns : (a b : Guest ByteOut ByteIn G) (xs : List EntryAt) → log_of (node_of a) ≡ [] → entries_of (log_of (node_of b)) ≡ xs → Turns a b → Sat a b xs
  sat_turns a b xs empty all x = record {
    calls = x.calls;
    went = λ file rest parties.
        let p = x.went file rest parties in
        record { steps = p.ran.steps; run = p.ran.run; noted = sym all ∙ p.log ∙ ap (λ l. entries_of l ++ p.entries) empty ∙ p.ran.noted; posts = p.ran.posts };
    same = x.same;
  }
