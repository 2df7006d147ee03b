use Rattle.std.proofs.Common.{◌≡◌, length}
use Rattle.items.specs.Places.{places_of}
use Rattle.lists.proofs.Filling.{Filling}
use Rattle.lists.proofs.reading.fill.Given as goal

abbrev pub invariant-loop-index : goal.invariant-loop-index
invariant-loop-index g l =
    let K = g.K.ItemKind in
    let S = g.S.Source in
    let old = (places_of l.initial.list).all in
    Filling (K.kind l.configuration) K.LIMIT (length old) l.count (S.tape l.initial.source) (S.tape l.source) old (places_of l.list).all l.index
    × (l.list.places.ghost_name ≡ l.initial.list.places.ghost_name)
