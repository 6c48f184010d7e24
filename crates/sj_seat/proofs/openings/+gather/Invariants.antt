use Rattle.std.proofs.Common.{◌≡◌, ◌++◌, map, drop}
use Rattle.sj_lang.specs.CodeView.{code_of, arm_of, branches_of}
use Rattle.sj_acceptance.specs.Openings.{as_request, as_accept, found_in, found_in_arms}
use Rattle.sj_seat.specs.Opened.{found_of}
use Rattle.sj_seat.proofs.openings.+gather.Given as goal

-- with those in what is left they are all
abbrev pub invariant-add_block-loop-stmt : goal.invariant-add_block-loop-stmt
invariant-add_block-loop-stmt l =
    record {
      requests : (found_of l.all.requests.items ++ found_in as_request (code_of (drop l.stmt-index l.stmts))) ≡ (found_of l.fn.all.requests.items ++ found_in as_request (code_of l.stmts));
      accepts : (found_of l.all.accepts.items ++ found_in as_accept (code_of (drop l.stmt-index l.stmts))) ≡ (found_of l.fn.all.accepts.items ++ found_in as_accept (code_of l.stmts));
    }

abbrev pub invariant-add_arms-loop-arm : goal.invariant-add_arms-loop-arm
invariant-add_arms-loop-arm l =
    let left = branches_of (map arm_of (drop l.arm-index l.arms)) in
    let whole = branches_of (map arm_of l.arms) in
    record {
      requests : (found_of l.all.requests.items ++ found_in_arms as_request left) ≡ (found_of l.fn.all.requests.items ++ found_in_arms as_request whole);
      accepts : (found_of l.all.accepts.items ++ found_in_arms as_accept left) ≡ (found_of l.fn.all.accepts.items ++ found_in_arms as_accept whole);
    }
