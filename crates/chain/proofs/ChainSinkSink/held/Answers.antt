use Rattle.std.proofs.Common.{arith}
use Rattle.chain.specs.Chain.{spot}
use Rattle.layout.proofs.Spots.{length_stored}
use Rattle.chain.proofs.ChainSinkSink.held.Goals as goal

pub returns : goal.returns
returns c = let s = c.args.self.now in omega (arith, length_stored (spot s.bytes.now s.first) s.bytes.now s.held)
