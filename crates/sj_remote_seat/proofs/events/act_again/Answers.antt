use Rattle.std.proofs.Common.{◌≡◌, ◌∙◌, ℕ, [], ◌∷◌, ◌++◌, ap, refl}
use Rattle.sj_end.specs.Lines.{entry_at}
use Rattle.sj_node.specs.Node.{log_of}
use Rattle.sj_node.specs.Reading as nodes
use Rattle.sj_remote_run.proofs.PostLemmas.{Frames}
use Rattle.sj_remote_run.specs.Posts.{frames_on}
use Rattle.sj_seat.specs.Views.{node_of}
use Rattle.sj_work.specs.Laned.{entries_of}
use Rattle.sj_work.specs.Views as works
use Rattle.sj_remote_seat.proofs.ApartLemmas.{put_back}
use Rattle.sj_remote_seat.proofs.CaughtLemmas.{idle_like}
use Rattle.sj_remote_seat.specs.Turns.{has_of, outs_of}
use Rattle.sj_remote_seat.proofs.HandedLemmas.{bare_after, bare_before}
use Rattle.sj_remote_seat.proofs.SatLemmas.{after_entry, after_out, resembles_same, resembles_then, sat_after, sat_between, sat_turns, turns_played}
use Rattle.sj_remote_seat.proofs.events.act_again.Goals as goal

pub with_worker-guest-requires-clause-same : goal.with_worker-guest-requires-clause-same
with_worker-guest-requires-clause-same g c =
    ap nodes.table_of c.new-bare.ensures.node ∙ c.into_parts-lanes.ensures.node.table ∙ c.into_parts-before.ensures.same

pub with_worker-guest-requires-clause-idle : goal.with_worker-guest-requires-clause-idle
with_worker-guest-requires-clause-idle g c =
    let w = works.node_of c.into_parts-before.result.0 in
    let m = c.into_parts-lanes.result.1 in
    let v = works.node_of c.new-bare.result in
    let like = resembles_then w m v (after_entry w m c.into_parts-lanes.ensures.node) (resembles_same m v c.new-bare.ensures.node) in
    idle_like w v like c.into_parts-before.ensures.idle

pub with_worker-requires-clause-same : goal.with_worker-requires-clause-same
with_worker-requires-clause-same g c =
    ap nodes.table_of c.new-worker.ensures.node ∙ c.push_all.ensures.node.table ∙ c.into_parts-node.ensures.node.table ∙ c.into_parts-after.ensures.same

pub with_worker-requires-clause-idle : goal.with_worker-requires-clause-idle
with_worker-requires-clause-idle g c =
    let w = works.node_of c.into_parts-after.result.0 in
    let m = c.into_parts-node.result.1 in
    let n = c.push_all.new.node in
    let v = works.node_of c.new-worker.result in
    let like = resembles_then w m v (after_entry w m c.into_parts-node.ensures.node) (resembles_then m n v (after_out m n c.push_all.ensures.node) (resembles_same n v c.new-worker.ensures.node)) in
    idle_like w v like c.into_parts-after.ensures.idle

pub returns-clause-sat : goal.returns-clause-sat
returns-clause-sat g c =
    let a = c.args.seat in
    let b = c.with_worker-guest.result in
    let d = c.ask_for.new.guest in
    let z = c.with_worker.result in
    let e = c.args.entry.now in
    let m = c.into_parts-lanes.result.1 in
    let o = c.into_parts-node.result.1 in
    let none : log_of (node_of b) ≡ [] = ap log_of (ap works.node_of c.with_worker-guest.ensures.worker ∙ c.new-bare.ensures.node) ∙ c.into_parts-lanes.ensures.none in
    let first = put_back c.into_parts-before.result.1 a b c.into_parts-before.result.0 c.new-bare.result m m c.into_parts-before.ensures.holds c.with_worker-guest.ensures.holds
    c.into_parts-before.ensures.worker c.into_parts-lanes.ensures.node (resembles_same m m (λ i. m)) c.new-bare.ensures.node c.with_worker-guest.ensures.worker in
    let lanes = c.into_parts-lanes.result.0.outs.items in
    let on : ℕ → Frames = frames_on lanes in
    let asked = sat_after b d on (has_of b) (has_of d) (entry_at e ∷ [])
    (sat_turns b d (entry_at e ∷ []) none (ap entries_of c.in_ok-ask_for.ensures.only) (turns_played _ _ refl b d c.in_ok-ask_for.ensures.played)) in
    let last = put_back c.into_parts-after.result.1 d z c.into_parts-after.result.0 c.new-worker.result o c.push_all.new.node c.into_parts-after.ensures.holds c.with_worker.ensures.holds
    c.into_parts-after.ensures.worker c.into_parts-node.ensures.node (after_out o c.push_all.new.node c.push_all.ensures.node) c.new-worker.ensures.node c.with_worker.ensures.worker in
    let bare : outs_of b ≡ [] = ap (λ v. (works.lanes_of v).outs.items) c.with_worker-guest.ensures.worker ∙ ap (λ l. l.outs.items) c.new-bare.ensures.lanes ∙ c.no_lanes.ensures in
    let before : (q : ℕ) → (q ≡ nodes.party_of (node_of a) → ⊥) → on q ++ has_of b q ≡ has_of a q = λ q other. bare_before a b c.into_parts-before.result.0 c.into_parts-lanes.result.0 m bare
    (ap works.node_of c.with_worker-guest.ensures.worker ∙ c.new-bare.ensures.node) c.into_parts-before.ensures.worker c.into_parts-lanes.ensures.lanes c.into_parts-lanes.ensures.node q in
    let after : (q : ℕ) → (q ≡ nodes.party_of (node_of d) → ⊥) → has_of z q ≡ on q ++ has_of d q = λ q other.
    bare_after b d z c.into_parts-after.result.0 c.new-worker.result lanes c.push_all.new.lanes.outs.items o c.push_all.new.node _ bare c.in_ok-ask_for.ensures.played.counts.outs
    c.into_parts-after.ensures.worker c.into_parts-node.ensures.node c.in_ok-push_all.ensures.out c.with_worker.ensures.worker c.new-worker.ensures.node
    (ap (λ l. l.outs.items) c.new-worker.ensures.lanes) q other in
    sat_between a b d z (has_of a) (λ q. on q ++ has_of b q) (λ q. on q ++ has_of d q) (has_of z) (entry_at e ∷ []) first before asked last after
