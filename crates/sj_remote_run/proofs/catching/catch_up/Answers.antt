use Rattle.std.proofs.Common.{sym, ap, ◌∙◌}
use Rattle.sj_lang.specs.Place.{done}
use Rattle.sj_remote.specs.Streams.{keys_of}
use Rattle.sj_rules.specs.NodeRun.{told_frames}
use Rattle.sj_streams.specs.Words.{words_at}
use Rattle.sj_remote_run.specs.Asked.{IsCause, IsOfStreams}
use Rattle.sj_remote_run.specs.Caught.{entries_in, entry_count}
use Rattle.sj_remote_run.proofs.CauseLemmas.{err_as, inside_cause}
use Rattle.sj_remote_run.proofs.PostLemmas.{clear_none}
use Rattle.sj_remote_run.proofs.catching.catch_up.Goals as goal

pub redo_all-requires : goal.redo_all-requires
redo_all-requires g c =
    clear_none c.in_ok-lanes.lanes.outs.items c.in_ok-node.node c.in_ok-lanes.ensures.clear (λ q less. ap (told_frames done) (c.in_ok-node.ensures.boxes q))

pub returns-clause-again : goal.returns-clause-again
returns-clause-again g c = λ zero. record {
  first = c.in_ok-node.node;
  begins = c.in_ok-node.ensures;
  entries = entries_in c.deref.result.now;
  all = c.in_ok-redo_all.ensures.did;
  count = c.in_ok-read_all.ensures.count (zero ∙ ap entry_count (sym c.new-own.ensures.items)) ∙ ap entry_count (sym c.deref.ensures.value);
}

pub returns-in_err-lanes-clause-refused : goal.returns-in_err-lanes-clause-refused
returns-in_err-lanes-clause-refused g c =
    let left = g.S.Source.left in
    let faults = g.S.Source.faults in
    let has_ended = g.S.Source.has_ended in
    let unwritten = g.K.Sink.faults in
    let next = IsOfStreams (words_at (keys_of c.args.streams.now)) c.args.party in
    let a = c.args.conn.now in
    let e = c.in_err-lanes.field-0.0 in
    err_as _ e (IsCause left faults has_ended unwritten next a a) c.from_residual.ensures.1 (inside_cause left faults has_ended unwritten next a a e c.in_err-lanes.ensures.refused)

pub returns-in_err-read_all-clause-refused : goal.returns-in_err-read_all-clause-refused
returns-in_err-read_all-clause-refused g c =
    let left = g.S.Source.left in
    let faults = g.S.Source.faults in
    let has_ended = g.S.Source.has_ended in
    let unwritten = g.K.Sink.faults in
    let next = IsOfStreams (words_at (keys_of c.args.streams.now)) c.args.party in
    let e = c.in_err-read_all.field-0.0 in
    err_as _ e (IsCause left faults has_ended unwritten next c.args.conn.now c.read_all.new.conn) c.from_residual-in_err-read_all.ensures.1 c.in_err-read_all.ensures.refused

pub returns-in_err-redo_all-clause-refused : goal.returns-in_err-redo_all-clause-refused
returns-in_err-redo_all-clause-refused g c =
    let left = g.S.Source.left in
    let faults = g.S.Source.faults in
    let has_ended = g.S.Source.has_ended in
    let unwritten = g.K.Sink.faults in
    let next = IsOfStreams (words_at (keys_of c.args.streams.now)) c.args.party in
    let a = c.args.conn.now in
    let e = c.in_err-redo_all.field-0.0 in
    err_as _ e (IsCause left faults has_ended unwritten next a c.read_all.new.conn) c.from_residual-in_err-redo_all.ensures.1 (inside_cause left faults has_ended unwritten next a c.read_all.new.conn e c.in_err-redo_all.ensures.refused)
