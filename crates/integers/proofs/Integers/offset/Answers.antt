use Rattle.std.proofs.Common.{◌-◌, ◌^◌, ◌≤◌, sym, ap, ◌∙◌, arith, pow_mono}
use Rattle.std.proofs.lemmas.Nat.{one_shl, pow_pos}
use Rattle.std.proofs.lemmas.Int.{ints}
use Rattle.integers.specs.Integers.{offset}
use Rattle.integers.proofs.Integers.offset.Goals as goal

pub returns-in-Relative : goal.returns-in-Relative
returns-in-Relative c =
    let cl = c.args.self.code_length.bits in
    let l = c.args.self.code_length.lawful in
    let few : cl - 1 ≤ 13 = omega (arith, l.1) in
    let hi : 2 ^ (cl - 1) ≤ 2 ^ 13 = pow_mono few in
    let s = one_shl (cl - 1) 32 (omega (arith, l.1)) in
    let p = pow_pos (cl - 1) in
    record { value = omega (arith, ints) ∙ ap (λ m. offset m cl) (sym c.in-Relative.is); bounds = (omega (arith, ints), omega (arith, ints)) }
