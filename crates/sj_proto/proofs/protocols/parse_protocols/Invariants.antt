use Rattle.std.proofs.Common.{◌≤◌, ℕ, List, ◌∷◌, length, All}
use Rattle.std.specs.Prelude.{map}
use Rattle.sj_lang.specs.FileView.{protocol_of}
use Rattle.sj_grammar.specs.declared.tokens.Fault.{Fault}
use Rattle.sj_lang.specs.Limits.{limits}
use Rattle.sj_grammar.specs.Files.{protocols_pieces, IsProtocolDef}
use Rattle.sj_grammar.specs.FileDues.{Due, protocols, file_layer}
use Rattle.sj_grammar.specs.Faults.{Stuck}
use Rattle.sj_proto.specs.Onward.{Advances}
use Rattle.sj_proto.specs.Parsed.{standing, GivesOnLines, Keeps, need}
use Rattle.sj_proto.proofs.protocols.parse_protocols.Given as goal

abbrev pub decreases-loop-alloc : goal.decreases-loop-alloc
decreases-loop-alloc l = length l.tokens.ahead

abbrev pub invariant-loop-alloc : goal.invariant-loop-alloc
invariant-loop-alloc l = record {
  reads : GivesOnLines (standing l.fn.tokens l.fn.names) (standing l.tokens l.names) (λ names. protocols_pieces names.word (map protocol_of l.list.items)) (λ names. All (IsProtocolDef limits names) (map protocol_of l.list.items));
  few : length l.list.items ≤ 256;
  room : need l.names.words l.tokens ≤ need l.fn.names.words l.fn.tokens;
  kept : Keeps l.fn.names l.names;
  onward : Advances l.fn.tokens l.tokens;
  back : (f : Fault) → ((m : ℕ) (ds : List Due) → Stuck file_layer limits m (standing l.tokens l.names) (protocols (length l.list.items) ∷ ds) f)
      → (n : ℕ) (ds : List Due) → Stuck file_layer limits n (standing l.fn.tokens l.fn.names) (protocols 0 ∷ ds) f;
}
