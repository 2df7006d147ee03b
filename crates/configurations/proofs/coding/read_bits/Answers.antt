use Rattle.std.proofs.Common.{◌^◌, ◌≤◌, ap, arith, pow_mono}
use Rattle.bits.specs.Stores.{left, one_field}
use Rattle.bits.proofs.Steps.{read_ok}
use Rattle.items.specs.declared.faults.ListFault.TheVariants.{Number}
use Rattle.items.specs.Sequences.{carried}
use Rattle.lengths.specs.declared.faults.NumberFault.TheVariants.{Store}
use Rattle.configurations.proofs.SettingLaws.{number_laws}
use Rattle.configurations.proofs.coding.read_bits.Goals as goal

pub overflow_cast-result : goal.overflow_cast-result
overflow_cast-result g c =
    let S = g.S.Source in
    let s = S.tape c.args.source.now in
    let t = S.tape c.take_part.new.source in
    let w = c.args.width in
    let k = read_ok (one_field w c.args.field (left s)) s t c.in_ok-value.value c.in_ok-value.ensures in
    let x = (number_laws w c.requires).exact c.args.field c.in_ok-value.value (left s) (left t) (ap (carried (λ f. Number (Store f))) k.0) in
    let m : 2 ^ w ≤ 2 ^ 8 = pow_mono c.requires in
    omega (arith, x.0)
