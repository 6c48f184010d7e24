use Rattle.std.proofs.Common.{◌≡◌, ◌+◌, ◌++◌, [], drop, ap, sym, ◌∙◌, vec_len}
use Rattle.std.specs.Prelude.{codes, if◌then◌else◌, nat_lt}
use Rattle.sj_text.proofs.CutLemmas.{none_yet, one_more, ahead_is, cut_at_once, cut_within, on_err, finish_ok, finish_cut}
use Rattle.sj_lang.specs.View.{place_of, choices_of, carried_of, followed}
use Rattle.sj_lang.specs.Place.{done}
use Rattle.sj_grammar.specs.Tables.{entry_of}
use Rattle.sj_grammar.specs.Canonical.{seq_text, arms_text, arm_text, kind_text, gap_before}
use Rattle.sj_proto.proofs.PrintingLemmas.{items_ahead, arms_ahead, items_step, arms_on, behind_put}
use Rattle.sj_proto.proofs.printing.+printing.Goals as goal

-- before an item
pub put_items-returns-in_err-put_item-clause-err : goal.put_items-returns-in_err-put_item-clause-err
put_items-returns-in_err-put_item-clause-err t c =
    let word = entry_of c.args.names.now.words in
    let is = c.args.items.now in
    let i = c.loop-i.i in
    let x = c.index-items-i.result in
    let old = c.args.text.now.items in
    let whole = seq_text word (place_of is) in
    let sep = if nat_lt 0 i then codes "." else [] in
    let behind = items_ahead word (i + 1) (drop (i + 1) is) in
    let before = ahead_is old whole _ (sep ++ (seq_text word (followed x done) ++ behind)) c.loop-i.text.items (items_step word i is x c.loop-i-test.true c.index-items-i.is) c.loop-i.invariant in
    on_err c.from_residual-in_err-put_item.result _
    (cut_within old whole (seq_text word (followed x done)) behind c.put_between.new.text.items c.put_item.new.text.items
    (one_more old whole sep (seq_text word (followed x done) ++ behind) c.loop-i.text.items c.put_between.new.text.items before c.in_ok-put_between.ensures.ok) c.in_err-put_item.ensures.err)

pub put_choice-loop-i-init : goal.put_choice-loop-i-init
put_choice-loop-i-init t c =
    let word = entry_of c.args.names.now.words in
    let old = c.args.text.now.items in
    let whole = c.args.opening.now ++ (arms_text word c.args.choice.now ++ codes "}") in
    let arms : choices_of c.deref-arm-items.result.now ≡ c.args.choice.now = ap choices_of c.deref-arm-items.ensures.value ∙ c.choice.view_is in
    ahead_is old whole (arms_text word c.args.choice.now ++ codes "}") _ c.put.new.text.items (sym (ap (λ a. arms_text word a ++ codes "}") arms))
    (one_more old whole c.args.opening.now (arms_text word c.args.choice.now ++ codes "}") old c.put.new.text.items (none_yet old whole) c.in_ok-put.ensures.ok)

pub put_choice-returns-in_err-put_arm-clause-err : goal.put_choice-returns-in_err-put_arm-clause-err
put_choice-returns-in_err-put_arm-clause-err t c =
    let word = entry_of c.args.names.now.words in
    let arms = c.deref-arm-items.result.now in
    let i = c.loop-i.i in
    let x = c.arm-item.result in
    let old = c.args.text.now.items in
    let whole = c.args.opening.now ++ (arms_text word c.args.choice.now ++ codes "}") in
    let sep = if nat_lt 0 i then codes ", " else [] in
    let behind = arms_ahead word (i + 1) (drop (i + 1) arms) in
    let before = ahead_is old whole _ (sep ++ (arm_text word x.label x.rest ++ (behind ++ codes "}"))) c.loop-i.text.items (arms_on word i arms x (codes "}") c.loop-i-test.true c.arm-item.is) c.loop-i.invariant in
    on_err c.from_residual-in_err-put_arm.result _
    (cut_within old whole (arm_text word x.label x.rest) (behind ++ codes "}") c.put_between.new.text.items c.put_arm.new.text.items
    (one_more old whole sep (arm_text word x.label x.rest ++ (behind ++ codes "}")) c.loop-i.text.items c.put_between.new.text.items before c.in_ok-put_between.ensures.ok) c.in_err-put_arm.ensures.err)

pub put_message-returns-in_err-put-clause-err : goal.put_message-returns-in_err-put-clause-err
put_message-returns-in_err-put-clause-err t c =
    let old = c.args.text.now.items in
    let whole = c.args.opening.now ++ (kind_text (entry_of c.args.names.now.words) (carried_of c.args.kind.now) ++ c.args.closing.now) in
    on_err c.from_residual.result _ (cut_at_once old whole c.put.new.text.items c.in_err-put.ensures.err)

pub put_arm-returns-clause-err : goal.put_arm-returns-clause-err
put_arm-returns-clause-err t c =
    let word = entry_of c.args.names.now.words in
    let old = c.args.text.now.items in
    let p = c.args.arm.now.rest in
    let whole = arm_text word c.args.arm.now.label p in
    let tail = gap_before (codes " ") p ++ seq_text word p in
    finish_cut old whole tail c.put.new.text.items c.put_behind.new.text.items c.put_behind.result
    (one_more old whole (codes ":") tail c.put_word.new.text.items c.put.new.text.items
    (one_more old whole (word c.args.arm.now.label) (codes ":" ++ tail) old c.put_word.new.text.items (none_yet old whole) c.in_ok-put_word.ensures.ok) c.in_ok-put.ensures.ok) c.put_behind.ensures.err

pub put_behind-returns-clause-ok : goal.put_behind-returns-clause-ok
put_behind-returns-clause-ok t c =
    let word = entry_of c.args.names.now.words in
    let is = c.deref.result.now in
    let old = c.args.text.now.items in
    let same : place_of is ≡ c.args.p.now = ap place_of c.deref.ensures.value ∙ c.p.view_is in
    finish_ok old (gap_before c.args.gap.now c.args.p.now ++ seq_text word c.args.p.now) (seq_text word (place_of is)) c.put.new.text.items c.put_items.new.text.items c.put_items.result
    (behind_put word c.args.gap.now is (vec_len c.p.inside.items) c.args.p.now old c.put.new.text.items c.deref.ensures.len (sym c.is_empty.ensures ∙ c.if-is_empty.false) same c.in_ok-put.ensures.ok) c.put_items.ensures.ok

pub put_behind-returns-clause-err : goal.put_behind-returns-clause-err
put_behind-returns-clause-err t c =
    let word = entry_of c.args.names.now.words in
    let is = c.deref.result.now in
    let old = c.args.text.now.items in
    let same : place_of is ≡ c.args.p.now = ap place_of c.deref.ensures.value ∙ c.p.view_is in
    finish_cut old (gap_before c.args.gap.now c.args.p.now ++ seq_text word c.args.p.now) (seq_text word (place_of is)) c.put.new.text.items c.put_items.new.text.items c.put_items.result
    (behind_put word c.args.gap.now is (vec_len c.p.inside.items) c.args.p.now old c.put.new.text.items c.deref.ensures.len (sym c.is_empty.ensures ∙ c.if-is_empty.false) same c.in_ok-put.ensures.ok) c.put_items.ensures.err
