use Rattle.std.proofs.Common.{◌≡◌}
use Rattle.chain.specs.Chain.{met}
use Rattle.chain.proofs.block_at.Given as goal

abbrev pub invariant-loop-k : goal.invariant-loop-k
invariant-loop-k l = l.block ≡ met l.bytes l.first l.k
