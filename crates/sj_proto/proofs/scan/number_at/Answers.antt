use Rattle.std.proofs.Common.{◌≡◌, ℕ, ◌-◌, subst, All, IsTrue, take, drop, arith}
use Rattle.std.specs.Char.{is_ascii_digit}
use Rattle.std.specs.List.{prefix_len}
use Rattle.sj_proto.proofs.DigitLemmas.{All-run}
use Rattle.sj_proto.proofs.scan.number_at.Goals as goal

pub digits_number-requires : goal.digits_number-requires
digits_number-requires c =
    let text = drop c.args.from c.args.bytes.now in
    let long : prefix_len is_ascii_digit text ≡ c.run_end-to.result - c.args.from = omega (arith, c.run_end-to.ensures.end) in
    subst (λ (n : ℕ). All (λ b. IsTrue (is_ascii_digit b)) (take n text)) long (All-run is_ascii_digit text)
