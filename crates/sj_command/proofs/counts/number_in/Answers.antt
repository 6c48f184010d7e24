use Rattle.std.proofs.Common.{◌≡◌, rules, arith}
use Rattle.std.proofs.lemmas.Fmt.{parse-decimal}
use Rattle.sj_command.proofs.counts.number_in.Goals as goal

pub returns-in_default-clause-none : goal.returns-in_default-clause-none
returns-in_default-clause-none c _ n least few is =
    let read = parse-decimal 32 n _ _ (omega arith) (omega arith) is c.parse.ensures.value.0 in
    let text : c.format.result.now ≡ c.args.text.now = cc is in search rules

pub returns-in_default-2-clause-none : goal.returns-in_default-2-clause-none
returns-in_default-2-clause-none c _ n least few is =
    let read = parse-decimal 32 n _ _ (omega arith) (omega arith) is c.parse.ensures.value.0 in search rules

pub returns-in_default-3-clause-none : goal.returns-in_default-3-clause-none
returns-in_default-3-clause-none c _ n least few is =
    let read = parse-decimal 32 n _ _ (omega arith) (omega arith) is c.parse.ensures.value.0 in search rules

pub returns-in_default-4-clause-none : goal.returns-in_default-4-clause-none
returns-in_default-4-clause-none c _ n least few is =
    cc (parse-decimal 32 n _ _ (omega arith) (omega arith) is c.parse.ensures.value.0)
