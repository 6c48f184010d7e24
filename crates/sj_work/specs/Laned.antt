-- A worker as the rules see it: its node, its log, its outboxes as lanes report them, and its
-- lanes.
use Rattle.std.specs.Prelude.{List, map}
use Rattle.sj_lang.specs.Place.{Place, done}
use Rattle.sj_semantics.specs.Program.{Program}
use Rattle.sj_end.specs.declared.note.Entry.{Entry}
use Rattle.sj_end.specs.Lines.{entry_at}
use Rattle.sj_rules.specs.Log.{EntryAt}
use Rattle.sj_rules.specs.NodeRun.{told_frames}
use Rattle.sj_rules.specs.Work.{LanedAt}
use Rattle.sj_node.specs.Node.{log_of, node_at, outbox_of}
use Rattle.sj_work.specs.declared.worker.Worker.{Worker}
use Rattle.sj_work.specs.Views.{in_of, node_of, out_of}

abbrev pub entries_of : List Entry → List EntryAt
entries_of es = map entry_at es

abbrev pub laned : {O I : Type 0} → Worker O I → LanedAt Place Program O I
laned w = record {
  node = node_at (node_of w);
  log = entries_of (log_of (node_of w));
  box = λ q. told_frames done (outbox_of (node_of w) q);
  outs = out_of w;
  ins = in_of w;
}
