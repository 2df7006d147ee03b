use Rattle.std.proofs.Common.{◌≡◌, ℕ, ◌/◌, ◌<◌, length}
use Rattle.chain.specs.Chain.{met}
use Rattle.chain.proofs.blocks_in.Given as goal

abbrev pub invariant-loop-n : goal.invariant-loop-n
invariant-loop-n l = (l.block ≡ met l.bytes l.first l.n) × ((k : ℕ) → k < l.n → (0 < met l.bytes l.first k) × (met l.bytes l.first k < length l.bytes / 32))
