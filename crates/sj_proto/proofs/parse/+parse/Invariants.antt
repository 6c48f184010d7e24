use Rattle.std.proofs.Common.{◌≡◌, suc, ◌+◌, ◌*◌, ◌-◌, ◌≤◌, List, [], ◌∷◌, ◌++◌, drop, length}
use Rattle.std.specs.Prelude.{codes}
use Rattle.sj_lang.specs.View.{place_of, choices_of}
use Rattle.sj_lang.specs.ItemCount.{item_count, arm_items}
use Rattle.sj_grammar.specs.declared.tokens.Fault.{Fault}
use Rattle.sj_lang.specs.Limits.{limits}
use Rattle.sj_grammar.specs.Protocols.{dotted, listed, IsGiven, AreGiven}
use Rattle.sj_grammar.specs.ProtocolDues.{seq, label, fixed, maybe, arms}
use Rattle.sj_grammar.specs.FileDues.{Due, proto, file_layer}
use Rattle.sj_grammar.specs.Faults.{Stuck}
use Rattle.sj_proto.specs.Onward.{Advances}
use Rattle.sj_proto.specs.Parsed.{standing, Gives, Keeps, need}
use Rattle.sj_proto.proofs.parse.+parse.Given as goal

abbrev pub decreases-seq : goal.decreases-seq
decreases-seq l = 8 * (32 - l.depth) + 2

abbrev pub decreases-maybe : goal.decreases-maybe
decreases-maybe l = 8 * (32 - l.depth) + 3

abbrev pub decreases-item : goal.decreases-item
decreases-item l = 8 * (32 - l.depth) + 1

abbrev pub decreases-carried : goal.decreases-carried
decreases-carried l = 8 * (32 - l.depth) + 4

abbrev pub decreases-turns : goal.decreases-turns
decreases-turns l = 8 * (32 - l.depth) + 4

abbrev pub decreases-choices : goal.decreases-choices
decreases-choices l = 8 * (32 - l.depth) + 5

abbrev pub decreases-one_arm : goal.decreases-one_arm
decreases-one_arm l = 8 * (32 - l.depth) + 4

abbrev pub decreases-seq-loop-list : goal.decreases-seq-loop-list
decreases-seq-loop-list l = length l.tokens.ahead

abbrev pub decreases-choices-loop-list : goal.decreases-choices-loop-list
decreases-choices-loop-list l = length l.tokens.ahead

abbrev pub invariant-seq-loop-list : goal.invariant-seq-loop-list
invariant-seq-loop-list l = record {
  reads : Gives (standing l.fn.tokens l.fn.names) (standing l.tokens l.names) (λ word. drop 1 (dotted word (place_of l.list.items) ++ codes "." ∷ [])) (λ word. IsGiven limits word l.depth (place_of l.list.items));
  count : l.items ≡ l.fn.items + item_count (place_of l.list.items);
  few : l.items ≤ 1024;
  room : need l.names.words l.tokens ≤ need l.fn.names.words l.fn.tokens;
  kept : Keeps l.fn.names l.names;
  onward : Advances l.fn.tokens l.tokens;
  back : (ds : List Due) (f : Fault) → Stuck file_layer limits l.items (standing l.tokens l.names) (proto (seq l.depth) ∷ ds) f → Stuck file_layer limits l.fn.items (standing l.fn.tokens l.fn.names) (proto (seq l.depth) ∷ ds) f;
}

abbrev pub invariant-choices-loop-list : goal.invariant-choices-loop-list
invariant-choices-loop-list l = record {
  reads : Gives (standing l.fn.tokens l.fn.names) (standing l.tokens l.names) (λ word. drop 1 (listed word (choices_of l.list.items) ++ codes "," ∷ [])) (λ word. AreGiven limits word l.depth 0 (choices_of l.list.items));
  count : l.items ≡ l.fn.items + arm_items (choices_of l.list.items);
  few : l.items ≤ 1024;
  room : need l.names.words l.tokens ≤ need l.fn.names.words l.fn.tokens;
  kept : Keeps l.fn.names l.names;
  onward : Advances l.fn.tokens l.tokens;
  back : (ds : List Due) (f : Fault)
      → Stuck file_layer limits l.items (standing l.tokens l.names)
      (proto (label (length l.list.items)) ∷ proto (fixed (codes ":")) ∷ proto (maybe l.depth) ∷ proto (arms l.depth (suc (length l.list.items))) ∷ proto (fixed (codes "}")) ∷ ds) f
      → Stuck file_layer limits l.fn.items (standing l.fn.tokens l.fn.names) (proto (label 0) ∷ proto (fixed (codes ":")) ∷ proto (maybe l.depth) ∷ proto (arms l.depth 1) ∷ proto (fixed (codes "}")) ∷ ds) f;
}
