use Rattle.std.proofs.Common.{drop}
use Rattle.bits.proofs.Steps.{Due}
use Rattle.items.specs.Sequences.{in_order}
use Rattle.path_items.specs.Paths.{value_code}
use Rattle.path_items.proofs.kind.PathCommandsItemKind.append.Given as goal

abbrev pub invariant-loop-index : goal.invariant-loop-index
invariant-loop-index g l =
    let S = g.S.Sink in
    let code = value_code l.configuration l.entry in
    S.kept l.initial.sink l.sink × Due (S.content l.initial.sink) (in_order code 0 l.used) (S.content l.sink) (in_order code l.index (drop l.index l.used))
