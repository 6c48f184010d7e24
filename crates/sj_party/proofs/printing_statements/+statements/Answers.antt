use Rattle.std.proofs.Common.{◌≡◌, ◌+◌, ◌++◌, OnErr, ap, sym, subst}
use Rattle.std.specs.Prelude.{codes, map}
use Rattle.sj_text.specs.Cut.{IsCutShort}
use Rattle.sj_text.proofs.CutLemmas.{one_more, ahead_is, cut_here, cut_within, finish_cut, on_err, err_behind}
use Rattle.sj_lang.specs.declared.party.StmtArm.{out-StmtArm}
use Rattle.sj_lang.specs.CodeView.{term_of, arm_of, branches_of, code_of, deed_of}
use Rattle.sj_party.specs.CanonicalExpression.{spelling_of}
use Rattle.sj_party.specs.CanonicalCode.{spaces, newline, in_block, valued_text, deed_text, arms_text, block_text}
use Rattle.sj_party.proofs.PrintedCode.{closing, code_ahead, arms_ahead, code_done, arms_done, stmt_step, arm_step, block_opened, arms_opened, if_text}
use Rattle.sj_party.proofs.printing_statements.+statements.Goals as goal

pub put_block-loop-stmt-init : goal.put_block-loop-stmt-init
put_block-loop-stmt-init t c =
    block_opened (spelling_of c.args.names.now) c.args.text.now.items c.args.lead.now c.put_opening.new.text.items c.put.new.text.items c.args.n c.in_ok-inner.inner c.args.body.now c.in_ok-inner.ensures.further c.in_ok-put.ensures.ok c.in_ok-inner.ensures.ok

pub put_block-returns-in_err-put_spaces-clause-err : goal.put_block-returns-in_err-put_spaces-clause-err
put_block-returns-in_err-put_spaces-clause-err t c =
    let names = spelling_of c.args.names.now in
    let n = c.args.n in
    let m = c.in_ok-inner.inner in
    let body = c.args.body.now in
    let i = c.loop-stmt.stmt-index in
    let x = c.stmt-item.result in
    let old = c.args.text.now.items in
    let whole = c.args.lead.now ++ block_text names n (code_of body) in
    let deed = deed_text names m (deed_of x.deed) in
    let rest = code_ahead names n m (i + 1) body in
    let start = ahead_is old whole (code_ahead names n m i body) (spaces m ++ (deed ++ (newline ++ rest))) c.loop-stmt.text.items (stmt_step names n m i body x c.loop-stmt-test.true c.stmt-item.is) c.loop-stmt.invariant in
    on_err c.from_residual-in_err-put_spaces.result _ (cut_within old whole (spaces m) (deed ++ (newline ++ rest)) c.loop-stmt.text.items c.put_spaces.new.text.items start c.in_err-put_spaces.ensures.err)

pub put_block-returns-in_err-put_deed-clause-err : goal.put_block-returns-in_err-put_deed-clause-err
put_block-returns-in_err-put_deed-clause-err t c =
    let names = spelling_of c.args.names.now in
    let n = c.args.n in
    let m = c.in_ok-inner.inner in
    let body = c.args.body.now in
    let i = c.loop-stmt.stmt-index in
    let x = c.stmt-item.result in
    let old = c.args.text.now.items in
    let whole = c.args.lead.now ++ block_text names n (code_of body) in
    let deed = deed_text names m (deed_of x.deed) in
    let rest = code_ahead names n m (i + 1) body in
    let start = ahead_is old whole (code_ahead names n m i body) (spaces m ++ (deed ++ (newline ++ rest))) c.loop-stmt.text.items (stmt_step names n m i body x c.loop-stmt-test.true c.stmt-item.is) c.loop-stmt.invariant in
    let spaced = one_more old whole (spaces m) (deed ++ (newline ++ rest)) c.loop-stmt.text.items c.put_spaces.new.text.items start c.in_ok-put_spaces.ensures.ok in
    on_err c.from_residual-in_err-put_deed.result _ (cut_within old whole deed (newline ++ rest) c.put_spaces.new.text.items c.put_deed.new.text.items spaced c.in_err-put_deed.ensures.err)

pub put_block-returns-in_err-put-2-clause-err : goal.put_block-returns-in_err-put-2-clause-err
put_block-returns-in_err-put-2-clause-err t c =
    let names = spelling_of c.args.names.now in
    let n = c.args.n in
    let m = c.in_ok-inner.inner in
    let body = c.args.body.now in
    let i = c.loop-stmt.stmt-index in
    let x = c.stmt-item.result in
    let old = c.args.text.now.items in
    let whole = c.args.lead.now ++ block_text names n (code_of body) in
    let deed = deed_text names m (deed_of x.deed) in
    let rest = code_ahead names n m (i + 1) body in
    let start = ahead_is old whole (code_ahead names n m i body) (spaces m ++ (deed ++ (newline ++ rest))) c.loop-stmt.text.items (stmt_step names n m i body x c.loop-stmt-test.true c.stmt-item.is) c.loop-stmt.invariant in
    let spaced = one_more old whole (spaces m) (deed ++ (newline ++ rest)) c.loop-stmt.text.items c.put_spaces.new.text.items start c.in_ok-put_spaces.ensures.ok in
    let done = one_more old whole deed (newline ++ rest) c.put_spaces.new.text.items c.put_deed.new.text.items spaced c.in_ok-put_deed.ensures.ok in
    on_err c.from_residual-in_err-put-2.result _ (cut_here old whole (newline ++ rest) c.put_deed.new.text.items c.put-in-loop-stmt.new.text.items done c.in_err-put-2.ensures.err)

pub put_block-loop-stmt-preserved : goal.put_block-loop-stmt-preserved
put_block-loop-stmt-preserved t c =
    let names = spelling_of c.args.names.now in
    let n = c.args.n in
    let m = c.in_ok-inner.inner in
    let body = c.args.body.now in
    let i = c.loop-stmt.stmt-index in
    let x = c.stmt-item.result in
    let old = c.args.text.now.items in
    let whole = c.args.lead.now ++ block_text names n (code_of body) in
    let deed = deed_text names m (deed_of x.deed) in
    let rest = code_ahead names n m (i + 1) body in
    let start = ahead_is old whole (code_ahead names n m i body) (spaces m ++ (deed ++ (newline ++ rest))) c.loop-stmt.text.items (stmt_step names n m i body x c.loop-stmt-test.true c.stmt-item.is) c.loop-stmt.invariant in
    let spaced = one_more old whole (spaces m) (deed ++ (newline ++ rest)) c.loop-stmt.text.items c.put_spaces.new.text.items start c.in_ok-put_spaces.ensures.ok in
    let done = one_more old whole deed (newline ++ rest) c.put_spaces.new.text.items c.put_deed.new.text.items spaced c.in_ok-put_deed.ensures.ok in
    one_more old whole newline rest c.put_deed.new.text.items c.put-in-loop-stmt.new.text.items done c.in_ok-put-2.ensures.ok

pub put_block-returns-clause-err : goal.put_block-returns-clause-err
put_block-returns-clause-err t c =
    let names = spelling_of c.args.names.now in
    let n = c.args.n in
    let old = c.args.text.now.items in
    let whole = c.args.lead.now ++ block_text names n (code_of c.args.body.now) in
    finish_cut old whole (closing n) c.loop-stmt.text.items c.put_closing.new.text.items c.put_closing.result
    (ahead_is old whole (code_ahead names n c.in_ok-inner.inner c.loop-stmt.stmt-index c.args.body.now) (closing n) c.loop-stmt.text.items (code_done names n c.in_ok-inner.inner c.loop-stmt.stmt-index c.args.body.now c.loop-stmt-test.false) c.loop-stmt.invariant)
    c.put_closing.ensures.err

pub put_arms-returns-clause-err : goal.put_arms-returns-clause-err
put_arms-returns-clause-err t c =
    let names = spelling_of c.args.names.now in
    let n = c.args.n in
    let old = c.args.text.now.items in
    let whole = in_block n (arms_text names (n + 2) (branches_of (map arm_of c.args.arms.now))) in
    finish_cut old whole (closing n) c.loop-arm.text.items c.put_closing.new.text.items c.put_closing.result
    (ahead_is old whole (arms_ahead names n c.in_ok-inner.inner c.loop-arm.arm-index c.args.arms.now) (closing n) c.loop-arm.text.items (arms_done names n c.in_ok-inner.inner c.loop-arm.arm-index c.args.arms.now c.loop-arm-test.false) c.loop-arm.invariant)
    c.put_closing.ensures.err

pub put_arms-loop-arm-init : goal.put_arms-loop-arm-init
put_arms-loop-arm-init t c =
    arms_opened (spelling_of c.args.names.now) c.args.text.now.items c.put_opening.new.text.items c.args.n c.in_ok-inner.inner c.args.arms.now c.in_ok-inner.ensures.further c.in_ok-inner.ensures.ok

pub put_arms-returns-in_err-put_spaces-clause-err : goal.put_arms-returns-in_err-put_spaces-clause-err
put_arms-returns-in_err-put_spaces-clause-err t c =
    let names = spelling_of c.args.names.now in
    let n = c.args.n in
    let m = c.in_ok-inner.inner in
    let arms = c.args.arms.now in
    let i = c.loop-arm.arm-index in
    let x = c.arm-item.result in
    let old = c.args.text.now.items in
    let whole = in_block n (arms_text names (n + 2) (branches_of (map arm_of arms))) in
    let word = names.word (out-StmtArm x).label in
    let block = codes ":" ++ block_text names m (code_of (out-StmtArm x).body.items) in
    let rest = arms_ahead names n m (i + 1) arms in
    let start = ahead_is old whole (arms_ahead names n m i arms) (spaces m ++ (word ++ (block ++ (newline ++ rest)))) c.loop-arm.text.items (arm_step names n m i arms x c.loop-arm-test.true c.arm-item.is) c.loop-arm.invariant in
    on_err c.from_residual-in_err-put_spaces.result _ (cut_within old whole (spaces m) (word ++ (block ++ (newline ++ rest))) c.loop-arm.text.items c.put_spaces.new.text.items start c.in_err-put_spaces.ensures.err)

pub put_arms-returns-in_err-put_word-clause-err : goal.put_arms-returns-in_err-put_word-clause-err
put_arms-returns-in_err-put_word-clause-err t c =
    let names = spelling_of c.args.names.now in
    let n = c.args.n in
    let m = c.in_ok-inner.inner in
    let arms = c.args.arms.now in
    let i = c.loop-arm.arm-index in
    let x = c.arm-item.result in
    let old = c.args.text.now.items in
    let whole = in_block n (arms_text names (n + 2) (branches_of (map arm_of arms))) in
    let word = names.word (out-StmtArm x).label in
    let block = codes ":" ++ block_text names m (code_of (out-StmtArm x).body.items) in
    let rest = arms_ahead names n m (i + 1) arms in
    let start = ahead_is old whole (arms_ahead names n m i arms) (spaces m ++ (word ++ (block ++ (newline ++ rest)))) c.loop-arm.text.items (arm_step names n m i arms x c.loop-arm-test.true c.arm-item.is) c.loop-arm.invariant in
    let spaced = one_more old whole (spaces m) (word ++ (block ++ (newline ++ rest))) c.loop-arm.text.items c.put_spaces.new.text.items start c.in_ok-put_spaces.ensures.ok in
    on_err c.from_residual-in_err-put_word.result _ (cut_here old whole (word ++ (block ++ (newline ++ rest))) c.put_spaces.new.text.items c.put_word.new.text.items spaced c.in_err-put_word.ensures.err)

pub put_arms-returns-in_err-put_block-clause-err : goal.put_arms-returns-in_err-put_block-clause-err
put_arms-returns-in_err-put_block-clause-err t c =
    let names = spelling_of c.args.names.now in
    let n = c.args.n in
    let m = c.in_ok-inner.inner in
    let arms = c.args.arms.now in
    let i = c.loop-arm.arm-index in
    let x = c.arm-item.result in
    let old = c.args.text.now.items in
    let whole = in_block n (arms_text names (n + 2) (branches_of (map arm_of arms))) in
    let word = names.word (out-StmtArm x).label in
    let block = codes ":" ++ block_text names m (code_of (out-StmtArm x).body.items) in
    let rest = arms_ahead names n m (i + 1) arms in
    let start = ahead_is old whole (arms_ahead names n m i arms) (spaces m ++ (word ++ (block ++ (newline ++ rest)))) c.loop-arm.text.items (arm_step names n m i arms x c.loop-arm-test.true c.arm-item.is) c.loop-arm.invariant in
    let spaced = one_more old whole (spaces m) (word ++ (block ++ (newline ++ rest))) c.loop-arm.text.items c.put_spaces.new.text.items start c.in_ok-put_spaces.ensures.ok in
    let named = one_more old whole word (block ++ (newline ++ rest)) c.put_spaces.new.text.items c.put_word.new.text.items spaced c.in_ok-put_word.ensures.ok in
    let same = ap (λ (xs : _). codes ":" ++ block_text names m (code_of xs)) c.deref.ensures.value in
    on_err c.from_residual-in_err-put_block.result _ (cut_within old whole block (newline ++ rest) c.put_word.new.text.items c.put_block.new.text.items named (subst (λ (xs : _). IsCutShort c.put_word.new.text.items xs c.put_block.new.text.items) same c.in_err-put_block.ensures.err))

pub put_arms-returns-in_err-put-clause-err : goal.put_arms-returns-in_err-put-clause-err
put_arms-returns-in_err-put-clause-err t c =
    let names = spelling_of c.args.names.now in
    let n = c.args.n in
    let m = c.in_ok-inner.inner in
    let arms = c.args.arms.now in
    let i = c.loop-arm.arm-index in
    let x = c.arm-item.result in
    let old = c.args.text.now.items in
    let whole = in_block n (arms_text names (n + 2) (branches_of (map arm_of arms))) in
    let word = names.word (out-StmtArm x).label in
    let block = codes ":" ++ block_text names m (code_of (out-StmtArm x).body.items) in
    let rest = arms_ahead names n m (i + 1) arms in
    let start = ahead_is old whole (arms_ahead names n m i arms) (spaces m ++ (word ++ (block ++ (newline ++ rest)))) c.loop-arm.text.items (arm_step names n m i arms x c.loop-arm-test.true c.arm-item.is) c.loop-arm.invariant in
    let spaced = one_more old whole (spaces m) (word ++ (block ++ (newline ++ rest))) c.loop-arm.text.items c.put_spaces.new.text.items start c.in_ok-put_spaces.ensures.ok in
    let named = one_more old whole word (block ++ (newline ++ rest)) c.put_spaces.new.text.items c.put_word.new.text.items spaced c.in_ok-put_word.ensures.ok in
    let same = ap (λ (xs : _). codes ":" ++ block_text names m (code_of xs)) c.deref.ensures.value in
    let done = one_more old whole block (newline ++ rest) c.put_word.new.text.items c.put_block.new.text.items named (subst (λ (xs : _). c.put_block.new.text.items ≡ c.put_word.new.text.items ++ xs) same c.in_ok-put_block.ensures.ok) in
    on_err c.from_residual-in_err-put.result _ (cut_here old whole (newline ++ rest) c.put_block.new.text.items c.put.new.text.items done c.in_err-put.ensures.err)

pub put_arms-loop-arm-preserved : goal.put_arms-loop-arm-preserved
put_arms-loop-arm-preserved t c =
    let names = spelling_of c.args.names.now in
    let n = c.args.n in
    let m = c.in_ok-inner.inner in
    let arms = c.args.arms.now in
    let i = c.loop-arm.arm-index in
    let x = c.arm-item.result in
    let old = c.args.text.now.items in
    let whole = in_block n (arms_text names (n + 2) (branches_of (map arm_of arms))) in
    let word = names.word (out-StmtArm x).label in
    let block = codes ":" ++ block_text names m (code_of (out-StmtArm x).body.items) in
    let rest = arms_ahead names n m (i + 1) arms in
    let start = ahead_is old whole (arms_ahead names n m i arms) (spaces m ++ (word ++ (block ++ (newline ++ rest)))) c.loop-arm.text.items (arm_step names n m i arms x c.loop-arm-test.true c.arm-item.is) c.loop-arm.invariant in
    let spaced = one_more old whole (spaces m) (word ++ (block ++ (newline ++ rest))) c.loop-arm.text.items c.put_spaces.new.text.items start c.in_ok-put_spaces.ensures.ok in
    let named = one_more old whole word (block ++ (newline ++ rest)) c.put_spaces.new.text.items c.put_word.new.text.items spaced c.in_ok-put_word.ensures.ok in
    let same = ap (λ (xs : _). codes ":" ++ block_text names m (code_of xs)) c.deref.ensures.value in
    let done = one_more old whole block (newline ++ rest) c.put_word.new.text.items c.put_block.new.text.items named (subst (λ (xs : _). c.put_block.new.text.items ≡ c.put_word.new.text.items ++ xs) same c.in_ok-put_block.ensures.ok) in
    one_more old whole newline rest c.put_block.new.text.items c.put.new.text.items done c.in_ok-put.ensures.ok

-- the second block of an `if` is cut short
pub put_deed-returns-in_ok-put_block-in-If-clause-err : goal.put_deed-returns-in_ok-put_block-in-If-clause-err
put_deed-returns-in_ok-put_block-in-If-clause-err t c =
    let names = spelling_of c.args.names.now in
    let old = c.args.text.now.items in
    let new = c.put_block-in-If-2.new.text.items in
    let r = c.put_block-in-If-2.result in
    let now = c.put_valued.new.text.items in
    let done = c.put_block-in-If.new.text.items in
    let first = block_text names c.args.n (code_of c.deref-in-If.result.now) in
    let last = codes " else" ++ block_text names c.args.n (code_of c.deref-in-If-2.result.now) in
    let head = valued_text names (codes "if ") (term_of c.in-If.test) in
    let is = if_text names c.args.n c.args.deed.now c.in-If.test c.in-If.yes c.in-If.no c.deref-in-If.result.now c.deref-in-If-2.result.now c.in-If.is c.deref-in-If.ensures.value c.deref-in-If-2.ensures.value in
    subst (λ (w : _). OnErr r (IsCutShort old w new)) (sym is)
    (err_behind old head (first ++ last) now new r c.in_ok-put_valued-in-If.ensures.ok
    (err_behind now first last done new r c.in_ok-put_block-in-If.ensures.ok c.put_block-in-If-2.ensures.err))
