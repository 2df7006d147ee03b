use Rattle.std.proofs.Common.{◌+◌, ◌≤◌, ◌∙◌, arith}
use Rattle.chain.specs.Chain.{spot}
use Rattle.layout.proofs.Spots.{take_next, take_none}
use Rattle.chain.proofs.Chains.{bit_here}
use Rattle.chain.proofs.ChainSourceSource.take.Goals as goal

pub returns-then-position-self : goal.returns-then-position-self
returns-then-position-self c =
    let s = c.args.self.now in
    take_none (spot s.bytes.now s.first) s.bytes.now s.position s.end (omega arith)

pub invariant_of-self : goal.invariant_of-self
invariant_of-self c =
    let s = c.args.self.now in
    let bytes = s.bytes.now in
    let ahead : s.position + 1 ≤ s.end = omega arith in
    record { linked = s.linked; fits = s.fits; here = c.block_after-next.ensures s.first s.here; ahead = ahead }

pub returns : goal.returns
returns c =
    let s = c.args.self.now in
    let bytes = s.bytes.now in
    take_next (spot bytes s.first) bytes s.position s.end c.has_bit.result (omega arith)
    (c.has_bit.ensures ∙ bit_here bytes s.first s.position s.block s.here)
