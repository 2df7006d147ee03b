use Rattle.std.proofs.Common.{pow-suc, arith}
use Rattle.words.proofs.WordLaws.{log_only}
use Rattle.words.proofs.Words.new.Goals as goal

pub invariant_of-result : goal.invariant_of-result
invariant_of-result c =
    let k = c.ilog2.result in
    record { some = omega arith; short = log_only k c.args.count (omega arith) (omega arith, omega (arith, pow-suc 2 k)) }
