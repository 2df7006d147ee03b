use Rattle.std.proofs.Common.{◌≡◌, length, rules, arith}
use Rattle.path_items.specs.Paths.{form_code}
use Rattle.path_items.proofs.Sizes.{form_size}
use Rattle.path_items.proofs.form.ValueForm.length.Goals as goal

pub returns-in-Integer-clause-bound : goal.returns-in-Integer-clause-bound
returns-in-Integer-clause-bound c =
    let e : c.length.result ≡ length (form_code c.args.agreed.now c.args.self c.args.value) = search rules in
    omega (arith, form_size c.args.agreed.now c.args.self c.args.value c.requires)
