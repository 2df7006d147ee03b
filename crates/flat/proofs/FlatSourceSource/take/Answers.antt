use Rattle.std.proofs.Common.{arith}
use Rattle.layout.proofs.Spots.{take_next, take_none}
use Rattle.flat.proofs.FlatSourceSource.take.Goals as goal

pub returns-then-position-self : goal.returns-then-position-self
returns-then-position-self c = let s = c.args.self.now in take_none (λ i. i) s.bytes.now s.position s.end (omega arith)

pub returns : goal.returns
returns c = let s = c.args.self.now in take_next (λ i. i) s.bytes.now s.position s.end c.has_bit.result (omega arith) c.has_bit.ensures
