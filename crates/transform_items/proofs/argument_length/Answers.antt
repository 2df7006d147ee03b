use Rattle.std.proofs.Common.{◌≡◌, ◌+◌, length, arith, rules}
use Rattle.transform_items.specs.Transforms.{argument_code}
use Rattle.transform_items.specs.ArgumentLaws.{argument_short}
use Rattle.transform_items.proofs.argument_length.Goals as goal

-- both parts have the length of the argument's code
whole : (c : goal.After-length-2) → c.length.result + c.length-2.result ≡ length (argument_code c.args.default.bits c.args.argument)
whole c = search rules

pub overflow_add-result : goal.overflow_add-result
overflow_add-result c =
    let l = c.args.default.lawful in
    record { fits = omega (arith, whole c, argument_short c.args.default.bits c.args.argument l.0 l.1 c.requires) }

pub returns-clause-bound : goal.returns-clause-bound
returns-clause-bound c =
    let l = c.args.default.lawful in
    omega (arith, whole c, argument_short c.args.default.bits c.args.argument l.0 l.1 c.requires)
