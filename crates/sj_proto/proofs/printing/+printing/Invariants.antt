use Rattle.std.proofs.Common.{◌+◌, ◌*◌, ◌++◌, drop}
use Rattle.std.specs.Prelude.{codes}
use Rattle.sj_text.proofs.CutLemmas.{StillTo}
use Rattle.sj_lang.specs.Place.{done}
use Rattle.sj_lang.specs.PlaceSize.{place_size, carried_size, choices_size}
use Rattle.sj_lang.specs.View.{place_of, followed, carried_of}
use Rattle.sj_grammar.specs.Tables.{entry_of}
use Rattle.sj_grammar.specs.Canonical.{seq_text, arms_text}
use Rattle.sj_proto.proofs.PrintingLemmas.{items_ahead, arms_ahead}
use Rattle.sj_proto.proofs.printing.+printing.Given as goal

abbrev pub invariant-put_items-loop-i : goal.invariant-put_items-loop-i
invariant-put_items-loop-i l =
    StillTo l.fn.text.items (seq_text (entry_of l.names.words) (place_of l.items)) (items_ahead (entry_of l.names.words) l.i (drop l.i l.items)) l.text.items

abbrev pub invariant-put_choice-loop-i : goal.invariant-put_choice-loop-i
invariant-put_choice-loop-i l =
    StillTo l.fn.text.items (l.opening ++ (arms_text (entry_of l.names.words) l.choice ++ codes "}"))
    (arms_ahead (entry_of l.names.words) l.i (drop l.i l.arm-items) ++ codes "}") l.text.items

abbrev pub decreases-put_items : goal.decreases-put_items
decreases-put_items l = 8 * place_size (place_of l.items.now) + 2

abbrev pub decreases-put_item : goal.decreases-put_item
decreases-put_item l = 8 * place_size (followed l.item.now done) + 1

abbrev pub decreases-put_message : goal.decreases-put_message
decreases-put_message l = 8 * carried_size (carried_of l.kind.now) + 1

abbrev pub decreases-put_kind : goal.decreases-put_kind
decreases-put_kind l = 8 * carried_size (carried_of l.kind.now)

abbrev pub decreases-put_choice : goal.decreases-put_choice
decreases-put_choice l = 8 * choices_size l.choice.now

abbrev pub decreases-put_arm : goal.decreases-put_arm
decreases-put_arm l = 8 * place_size l.arm.now.rest + 4

abbrev pub decreases-put_loop : goal.decreases-put_loop
decreases-put_loop l = 8 * place_size l.body.now + 3

abbrev pub decreases-put_behind : goal.decreases-put_behind
decreases-put_behind l = 8 * place_size l.p.now + 3
