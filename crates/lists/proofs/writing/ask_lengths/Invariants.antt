use Rattle.std.proofs.Common.{◌≡◌, drop}
use Rattle.lists.specs.Writing.{lengths_asked, first_no}
use Rattle.lists.proofs.writing.ask_lengths.Given as goal

abbrev pub invariant-loop-index : goal.invariant-loop-index
invariant-loop-index g l =
    let K = g.K.ItemKind in
    let k = K.kind l.configuration in
    first_no K.LIST (λ r. lengths_asked (k.asked r)) 0 l.items ≡ first_no K.LIST (λ r. lengths_asked (k.asked r)) l.index (drop l.index l.items)
