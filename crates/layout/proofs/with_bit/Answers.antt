use Rattle.layout.proofs.Masks.{mask_sets, mask_clears}
use Rattle.layout.proofs.with_bit.Goals as goal

pub returns-then-bit : goal.returns-then-bit
returns-then-bit c = rw c.if-bit.true (mask_sets c.args.byte c.args.place c.requires)

pub returns-else-bit : goal.returns-else-bit
returns-else-bit c = rw c.if-bit.false (mask_clears c.args.byte c.args.place c.requires)
