use Rattle.std.proofs.Common.{◌≡◌, ◌+◌, ◌*◌, ◌≤◌, length, drop}
use Rattle.items.specs.Sequences.{in_order}
use Rattle.path_items.specs.Paths.{value_code}
use Rattle.path_items.proofs.kind.PathCommandsItemKind.length.Given as goal

abbrev pub invariant-loop-index : goal.invariant-loop-index
invariant-loop-index l =
    let code = value_code l.configuration l.entry in
    (l.total ≤ 16 + 1100000 * l.index) × (l.total + length (in_order code l.index (drop l.index l.used)) ≡ l.initial.total + length (in_order code 0 l.used))
