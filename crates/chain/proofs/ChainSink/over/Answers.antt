use Rattle.std.proofs.Common.{◌≡◌, ◌*◌, ◌/◌, ◌≤◌, arith}
use Rattle.chain.specs.Chain.{Linked}
use Rattle.chain.proofs.Chains.{few}
use Rattle.chain.proofs.ChainSink.over.Goals as goal

pub invariant_of-result-2 : goal.invariant_of-result-2
invariant_of-result-2 c =
    let bytes = c.args.bytes.now in
    let checked = c.in-Ok.ensures.checked in
    let n = checked.1.0 in
    let size = checked.0.1 in
    let least = checked.0.0 in
    let all = checked.1.2 in
    let count : c.in-Ok.capacity / 240 ≡ n = omega arith in
    let linked : Linked bytes c.args.first (c.in-Ok.capacity / 240) = rw count checked.1.1.0 in
    let fits : c.args.held ≤ 240 * (c.in-Ok.capacity / 240) = rw count checked.1.3 in
    let less = few bytes c.args.first (c.in-Ok.capacity / 240) (omega arith) linked in
    record { linked = linked; fits = fits; here = c.block_at-block.ensures; small = omega arith; sized = λ _. size }
