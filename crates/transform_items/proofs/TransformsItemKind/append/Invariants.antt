use Rattle.bits.proofs.Steps.{Due}
use Rattle.transform_items.proofs.Writing.{rest_from}
use Rattle.transform_items.proofs.TransformsItemKind.append.Given as goal

abbrev pub invariant-loop-argument : goal.invariant-loop-argument
invariant-loop-argument g l =
    let S = g.S.Sink in
    let d = l.default.bits in
    S.kept l.initial.sink l.sink × Due (S.content l.initial.sink) (rest_from d l.item 0) (S.content l.sink) (rest_from d l.item l.argument-index)
