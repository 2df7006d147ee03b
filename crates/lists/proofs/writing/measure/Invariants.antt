use Rattle.std.proofs.Common.{◌≡◌, ◌+◌, ◌*◌, ◌≤◌, length, drop, None}
use Rattle.lists.specs.Lists.{items_bits, list_bits}
use Rattle.lists.specs.Writing.{lengths_asked, item_asked, first_no}
use Rattle.lists.proofs.writing.measure.Given as goal

abbrev pub invariant-loop-index : goal.invariant-loop-index
invariant-loop-index g l =
    let K = g.K.ItemKind in
    let k = K.kind l.configuration in
    (first_no K.LIST (λ r. lengths_asked (k.asked r)) l.index (drop l.index l.items) ≡ None)
    × (first_no K.LIST (λ r. item_asked (k.asked r)) 0 l.items ≡ first_no K.LIST (λ r. item_asked (k.asked r)) l.index (drop l.index l.items))
    × (l.total + length (items_bits k (drop l.index l.items)) ≡ length (list_bits k l.items))
    × (l.total ≤ 16777216 * (l.index + 1))
