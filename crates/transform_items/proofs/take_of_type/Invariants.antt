use Rattle.std.proofs.Common.{◌≡◌, List, Option}
use Rattle.items.proofs.SequenceLaws.{Went}
use Rattle.transforms.specs.declared.steps.PlainArgument.{PlainArgument}
use Rattle.transforms.specs.declared.steps.Transform.{Transform}
use Rattle.transform_items.proofs.Taking.{so_far}
use Rattle.transform_items.proofs.take_of_type.Given as goal

abbrev pub invariant-loop-argument : goal.invariant-loop-argument
invariant-loop-argument g l =
    let s = g.S.Source.tape l.initial.source in
    let t = g.S.Source.tape l.source in
    Went s t × ((made : List PlainArgument → Option Transform) → so_far made l.default.bits l.initial.argument-items 0 s ≡ so_far made l.default.bits l.argument-items l.argument-index t)
