use Rattle.std.proofs.Common.{◌^◌, ◌≤◌, arith, pow_mono}
use Rattle.std.proofs.lemmas.Nat.{one_shl}
use Rattle.lengths.proofs.CodeLength.largest.Goals as goal

pub returns : goal.returns
returns c =
    let k = c.args.self.bits in
    let lo : 2 ^ 1 ≤ 2 ^ k = pow_mono c.args.self.lawful.0 in
    let hi : 2 ^ k ≤ 2 ^ 14 = pow_mono c.args.self.lawful.1 in
    rw (one_shl k 32 (omega arith)) (omega arith)
