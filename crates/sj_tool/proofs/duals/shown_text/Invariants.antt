use Rattle.std.proofs.Common.{◌≡◌, ◌++◌, drop, map}
use Rattle.sj_lang.specs.FileView.{protocol_of}
use Rattle.sj_grammar.specs.Tables.{entry_of}
use Rattle.sj_tool.specs.Shown.{shown_protocols}
use Rattle.sj_tool.proofs.duals.shown_text.Given as goal

abbrev pub invariant-loop-protocol : goal.invariant-loop-protocol
invariant-loop-protocol l =
    shown_protocols (entry_of l.file.names.words) (map protocol_of l.file.protocols.items) ≡ l.text.items ++ shown_protocols (entry_of l.file.names.words) (map protocol_of (drop l.protocol-index l.file.protocols.items))
