use Rattle.std.proofs.Common.{arith}
use Rattle.layout.proofs.Spots.{length_stored}
use Rattle.flat.proofs.FlatSinkSink.held.Goals as goal

pub returns : goal.returns
returns c = let s = c.args.self.now in omega (arith, length_stored (λ i. i) s.bytes.now s.held)
