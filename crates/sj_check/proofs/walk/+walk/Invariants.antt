use Rattle.std.proofs.Common.{◌≡◌, ◌&&◌, map, drop}
use Rattle.sj_lang.specs.CodeView.{code_of, arm_of, branches_of}
use Rattle.sj_acceptance.specs.Faults.{first_fault}
use Rattle.sj_check.specs.Seen.{defs_in, names_in, env_in}
use Rattle.sj_acceptance.specs.Tests.{code_tests, after_code, branches_tests, after_branches}
use Rattle.sj_acceptance.specs.Arms.{all_leave, common_of}
use Rattle.sj_check.proofs.walk.+walk.Given as goal

-- the rest of the tests, and what the rest leaves
abbrev pub invariant-block-loop-stmt : goal.invariant-block-loop-stmt
invariant-block-loop-stmt l =
    let ps = defs_in l.protocols in
    record {
      tests : first_fault (code_tests ps (names_in l.protocols) (env_in l.protocols l.env) (code_of (drop l.stmt-index l.stmts))) ≡ first_fault (code_tests ps (names_in l.protocols) (env_in l.protocols l.fn.env) (code_of l.stmts));
      after : after_code ps (env_in l.protocols l.env) (code_of (drop l.stmt-index l.stmts)) ≡ after_code ps (env_in l.protocols l.fn.env) (code_of l.stmts);
    }

-- the arms that are left, after the first
abbrev pub invariant-all_arms-loop-i : goal.invariant-all_arms-loop-i
invariant-all_arms-loop-i l =
    let ps = defs_in l.protocols in
    let ahead = branches_of (map arm_of (drop l.i l.arms)) in
    let all = branches_of (map arm_of (drop 1 l.arms)) in
    record {
      tests : first_fault (branches_tests ps (names_in l.protocols) (env_in l.protocols l.env) l.end ahead) ≡ first_fault (branches_tests ps (names_in l.protocols) (env_in l.protocols l.env) l.end all);
      ends : (env_in l.protocols l.left).ends ≡ (env_in l.protocols l.initial.left).ends;
      agree : (l.agree && all_leave (env_in l.protocols l.left).ends (after_branches ps (env_in l.protocols l.env) l.end ahead)) ≡ all_leave (env_in l.protocols l.initial.left).ends (after_branches ps (env_in l.protocols l.env) l.end all);
      known : common_of l.left.variables (after_branches ps (env_in l.protocols l.env) l.end ahead) ≡ common_of l.initial.left.variables (after_branches ps (env_in l.protocols l.env) l.end all);
    }
