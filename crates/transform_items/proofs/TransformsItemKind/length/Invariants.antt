use Rattle.std.proofs.Common.{◌≡◌, ◌+◌, ◌*◌, ◌≤◌, length}
use Rattle.transform_items.specs.Transforms.{transform_code}
use Rattle.transform_items.proofs.Writing.{rest_from}
use Rattle.transform_items.proofs.TransformsItemKind.length.Given as goal

abbrev pub invariant-loop-argument : goal.invariant-loop-argument
invariant-loop-argument l =
    (l.total + length (rest_from l.default.bits l.item l.argument-index) ≡ length (transform_code l.default.bits l.item)) × (l.total ≤ 1100017 + 1100000 * l.argument-index)
