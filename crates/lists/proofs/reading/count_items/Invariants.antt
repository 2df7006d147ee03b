use Rattle.std.proofs.Common.{◌-◌, length}
use Rattle.bits.specs.Stores.{left, mapped}
use Rattle.lists.specs.Lists.{one_list}
use Rattle.lists.proofs.Counting.{Counted}
use Rattle.lists.proofs.reading.count_items.Given as goal

abbrev pub invariant-loop-item : goal.invariant-loop-item
invariant-loop-item g l =
    let K = g.K.ItemKind in
    let k = K.kind l.configuration in
    let s = g.S.Source.tape l.initial.source in
    Counted k K.LIMIT l.places l.count (mapped length (one_list k K.LIMIT l.places s.position (left s))) s (g.S.Source.tape l.source)

abbrev pub decreases-loop-item : goal.decreases-loop-item
decreases-loop-item g l = g.K.ItemKind.LIMIT - l.count
