use Rattle.std.proofs.Common.{sym, ◌∙◌, arith}
use Rattle.std.proofs.lemmas.Bool.{le-ltb}
use Rattle.bits.proofs.Codes.{bit_high}
use Rattle.bits.proofs.has_bit.Goals as goal

pub returns-else-k-lt32 : goal.returns-else-k-lt32
returns-else-k-lt32 c = le-ltb c.args.k 32 (omega arith) ∙ sym (bit_high c.args.k c.args.value (omega arith) (omega arith))
