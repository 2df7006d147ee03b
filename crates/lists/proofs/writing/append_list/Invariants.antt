use Rattle.std.proofs.Common.{drop}
use Rattle.bits.proofs.Steps.{Due}
use Rattle.lists.specs.Lists.{list_bits, LawfulList}
use Rattle.lists.proofs.writing.append_list.Given as goal

abbrev pub invariant-loop-item : goal.invariant-loop-item
invariant-loop-item g l =
    let S = g.S.Sink in
    let k = g.K.ItemKind.kind l.configuration in
    let left = drop l.item-index l.items in
    S.kept l.initial.sink l.sink × LawfulList k left × Due (S.content l.initial.sink) (list_bits k l.items) (S.content l.sink) (list_bits k left)
