-- A call that a worker's node does, or refuses, as the laws see it.
use Rattle.std.proofs.Common.{◌≡◌, ◌∙◌, ℕ, ◌+◌, ◌<◌, max, nat_lt, true, length, List, [], ◌∷◌, ◌++◌, Option, Some, None, Result, Ok, Err, IfOk, OnOk, OnErr, refl, ap, sym, subst, arith, append-nil}
use Rattle.std.specs.Prelude.{is_some, slice_get}
use Rattle.std.proofs.lemmas.Bool.Decides.{nat_tests}
use Rattle.std.proofs.lemmas.List.{map-append}
use Rattle.sj_base.specs.declared.Msg.{Msg}
use Rattle.sj_end.specs.declared.note.Event.TheVariants as events
use Rattle.sj_end.specs.declared.note.Note.{Note}
use Rattle.sj_end.specs.Lines.{entry_at, note_seen}
use Rattle.sj_joined_lemmas.proofs.LaneWorkLemmas.{event_lane_work, in_itself, quiet_lane_work}
use Rattle.sj_lang.specs.FileAt.{FileAt}
use Rattle.sj_lang.specs.Place.{Place, done}
use Rattle.sj_node.specs.declared.node.Node.{Node}
use Rattle.sj_lane.specs.declared.lane.Lanes.{Lanes}
use Rattle.sj_node.specs.Calls.{call_of}
use Rattle.sj_node.specs.declared.refusal.Halt.{Halt}
use Rattle.sj_node.specs.declared.seats.Call.{Call}
use Rattle.sj_node.specs.declared.seats.Call.TheVariants as seats
use Rattle.sj_node.specs.Node.{Does, Stays, clock_of, log_of, next_head, node_at, outbox_of}
use Rattle.sj_node.specs.Reading.{parties_of}
use Rattle.sj_node.specs.Seats.{IsCalled, IsRowOf, call_note, head_taken, is_take, want_at}
use Rattle.sj_node.proofs.SeatLemmas.{call_done, head_there}
use Rattle.sj_rules.specs.Frames.{FrameAt, frames_for}
use Rattle.sj_rules.specs.Limits.{limit_of_steps}
use Rattle.sj_rules.specs.Node.{NodeAt, Want, act_by}
use Rattle.sj_rules.specs.Rows.{Worked}
use Rattle.sj_rules.specs.NodeRun.{Steps, frame_told, told_frames}
use Rattle.sj_rules.specs.Work.{InStep, OutStep}
use Rattle.sj_seat_laws.specs.Calls.{SeatedAt}
use Rattle.sj_seat_laws.specs.Guards.{called, seated_want}
use Rattle.sj_seat_laws.specs.SeatedPlay.{seated, seated_play}
use Rattle.sj_seat_laws.specs.SeatRows.{silent, with_player}
use Rattle.sj_semantics.specs.Program.{Program}
use Rattle.sj_work.specs.Laned.{entries_of}
use Rattle.sj_work.specs.Views.{in_of, out_of}
use Rattle.sj_work.specs.declared.worker.Worker.{Worker}
use Rattle.sj_work.proofs.LaneLaws.{LaneLaws}
use Rattle.sj_work.proofs.LaneLemmas.{out_alone}
use Rattle.sj_seat.specs.Views.{laned_at}
use Rattle.sj_seat.specs.Went.{Keeps, SeatWork}
use Rattle.sj_seat.proofs.CalledLemmas.{Takes, act_step, seated_step}

-- what it takes is there
takes_so : (n : Node) (call : Call) → is_some (head_taken n call) ≡ is_take call → Takes (node_at n) (want_at n call) (head_taken n call)
takes_so n (seats.Send e m) h = refl
takes_so n (seats.Delegate c e) h = refl
takes_so n (seats.Close e) h = refl
takes_so n (seats.Take e spot) h = by (next_head n e) refl h
  where
    by : (o : Option Msg) → next_head n e ≡ o → is_some o ≡ true → Takes (node_at n) (want_at n (seats.Take e spot)) o
    by None is t = absurd (cc t)
    by (Some m) is t = let i = head_there n e m is in record { held = i.held; rest = i.rest; there = i.there; first = i.first }

pub few_so : (m : ℕ) → m < limit_of_steps → nat_lt m limit_of_steps ≡ true
few_so m lt = grind (arith, nat_tests)

abbrev box_of : {O I : Type 0} → Worker O I → ℕ → List (FrameAt Place)
box_of w q = told_frames done (outbox_of w.node q)

-- a node that did a step
did_keeps : (a b : Node) (o : Option (Worked Place (NodeAt Place Program))) (note : Note) → Does a o (clock_of a + 1) events.Act note b → Keeps a b
did_keeps a b None note did = absurd did
did_keeps a b (Some left) note did = record {
  party = did.party;
  parties = did.parties;
  connects = did.connects;
  table = did.table;
  clock = let e : clock_of b ≡ clock_of a + 1 = ap (λ (n : NodeAt Place Program). n.clock) did.node in omega (arith, e);
}

stays_keeps : (a b : Node) → Stays a b → Keeps a b
stays_keeps a b x = record {
  party = x.party;
  parties = x.parties;
  connects = x.connects;
  table = x.table;
  clock = let e : clock_of b ≡ clock_of a = ap (λ (n : NodeAt Place Program). n.clock) x.node in omega (arith, e);
}

-- whatever it answers
pub answer_keeps : {T : Type 0} (a b : Node) (o : Option (Worked Place (NodeAt Place Program))) (note : Note) (r : Result T Halt) → OnOk r (Does a o (clock_of a + 1) events.Act note b) → OnErr r (Stays a b) → Keeps a b
answer_keeps a b o note (Ok x) did stays = did_keeps a b o note did
answer_keeps a b o note (Err halt) did stays = stays_keeps a b stays

pub call_keeps : (a b : Node) (call : Call) (r : Result (Option Msg) Halt) → OnOk r (Does a (call_of a (want_at a call)) (clock_of a + 1) events.Act (call_note a call) b) → OnErr r (Stays a b) → Keeps a b
call_keeps a b call r did stays = answer_keeps a b (call_of a (want_at a call)) (call_note a call) r did stays

module _ {O I : Type 0} (k : LaneLaws O I) (a b : Worker O I) (lanes : b.lanes ≡ a.lanes) where
  outs_alone : (q : ℕ) (posts : List (FrameAt Place)) → box_of b q ≡ box_of a q ++ posts → OutStep k.outward.pushed k.outward.same (out_of a q) (out_of b q) (box_of a q) (box_of b q) posts
  outs_alone q posts box =
      subst (λ (l : Lanes O I). OutStep k.outward.pushed k.outward.same (out_of a q) (slice_get l.outs.items q) (box_of a q) (box_of b q) posts) (sym lanes)
      (out_alone k.outward.pushed k.outward.same k.out_itself k.out_later (out_of a q) (box_of a q) (box_of b q) posts box)

  ins_alone : (q : ℕ) → InStep k.inward.popped k.inward.same (in_of a q) (in_of b q) []
  ins_alone q =
      subst (λ (l : Lanes O I). InStep k.inward.popped k.inward.same (in_of a q) (slice_get l.ins.items q) []) (sym lanes) (in_itself k.inward.popped k.inward.same k.in_itself k.in_later (in_of a q))

  -- a row that is done, as a step of the code's party
  pub row_work : (want : Want Place) (note : Note) (file : FileAt) (s t : SeatedAt) → (x : IsRowOf a.node want note b.node)
      → Steps (seated_play file) max a.node.party (with_player (seated s) (node_at a.node)) (act_step (clock_of a.node + 1) (note_seen note) x.left.posts) (with_player (seated t) (record x.left.state { clock = clock_of a.node + 1 }))
      → SeatWork k.outward k.inward file s t a b
  row_work want note file s t x stepped =
      let step = act_step (clock_of a.node + 1) (note_seen note) x.left.posts in
      let steps : Steps (seated_play file) max a.node.party (with_player (seated s) (node_at a.node)) step (with_player (seated t) (node_at b.node)) =
      subst (λ (n : NodeAt Place Program). Steps (seated_play file) max a.node.party (with_player (seated s) (node_at a.node)) step (with_player (seated t) n)) (sym x.did.node) stepped in
      record {
        lost = None;
        work = event_lane_work k.outward.pushed k.outward.same k.inward.popped k.inward.same (seated_play file) max done a.node.party (laned_at s a) (laned_at t b) step steps
            (ap entries_of x.did.log ∙ map-append entry_at (log_of a.node) (record { clock = clock_of a.node + 1; event = events.Act; note = note } ∷ []))
            (λ q. outs_alone q (told_frames done (frames_for q (clock_of a.node + 1) x.left.posts)) (ap (told_frames done) (x.did.posts q) ∙ map-append (frame_told done) (outbox_of a.node q) (frames_for q (clock_of a.node + 1) x.left.posts)))
            ins_alone;
        loses = tt;
      }

  -- the row, as the file's parties are counted
  pub row_there : (want : Want Place) (note : Note) (file : FileAt) → length file.parties ≡ parties_of a.node → (x : IsRowOf a.node want note b.node) → act_by (silent (length file.parties)) a.node.party (node_at a.node) want ≡ Some x.left
  row_there want note file parties x = ap (λ (n : ℕ). act_by (silent n) a.node.party (node_at a.node) want) parties ∙ x.row

  -- a call that is done
  done_work : (call : Call) (file : FileAt) (s : SeatedAt) → length file.parties ≡ parties_of a.node → seated_want s ≡ want_at a.node call → s.steps < limit_of_steps
      → is_some (head_taken a.node call) ≡ is_take call → IsCalled a.node call b.node → SeatWork k.outward k.inward file s (called s (head_taken a.node call)) a b
  done_work call file s parties wants few takes x =
      let want = want_at a.node call in
      let note = call_note a.node call in
      let taken = head_taken a.node call in
      row_work want note file s (called s taken) x
      (seated_step file a.node.party s (node_at a.node) want taken x.left (note_seen note) wants (few_so s.steps few) (takes_so a.node call takes) (row_there want note file parties x) x.note)

  -- one that is refused
  refused_work : (file : FileAt) (s : SeatedAt) → Stays a.node b.node → SeatWork k.outward k.inward file s s a b
  refused_work file s x = record {
    lost = None;
    work = quiet_lane_work k.outward.pushed k.outward.same k.inward.popped k.inward.same (seated_play file) max done a.node.party (laned_at s a) (laned_at s b) None
        (ap (with_player (seated s)) (sym x.node)) (ap entries_of x.log)
        (λ q. outs_alone q [] (ap (told_frames done) (x.posts q) ∙ sym (append-nil (box_of a q)))) ins_alone;
    loses = tt;
  }

  -- whatever the node answers
  pub done_call : (call : Call) (file : FileAt) (s : SeatedAt) → length file.parties ≡ parties_of a.node → seated_want s ≡ want_at a.node call → s.steps < limit_of_steps → (r : Result (Option Msg) Halt)
      → OnOk r (Does a.node (call_of a.node (want_at a.node call)) (clock_of a.node + 1) events.Act (call_note a.node call) b.node) → IfOk r (λ m. m ≡ head_taken a.node call) → IfOk r (λ m. is_some m ≡ is_take call)
      → OnOk r (SeatWork k.outward k.inward file s (called s (head_taken a.node call)) a b)
  done_call call file s parties wants few (Err halt) did taken takes = tt
  done_call call file s parties wants few (Ok m) did taken takes =
      done_work call file s parties wants few (ap is_some (sym taken) ∙ takes) (call_done a.node b.node call did)

  pub refused_call : {T : Type 0} (file : FileAt) (s : SeatedAt) (r : Result T Halt) → OnErr r (Stays a.node b.node) → OnErr r (SeatWork k.outward k.inward file s s a b)
  refused_call file s (Ok m) stays = tt
  refused_call file s (Err halt) stays = refused_work file s stays
