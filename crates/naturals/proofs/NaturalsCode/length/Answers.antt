use Rattle.std.proofs.Common.{sym, arith}
use Rattle.naturals.proofs.Sizes.{length_natural, natural_near}
use Rattle.naturals.proofs.NaturalsCode.length.Goals as goal

pub overflow_mul-result : goal.overflow_mul-result
overflow_mul-result c =
    rw c.largest.ensures.value
    (record { fits = (let l = c.args.self.now.code_length.lawful.1 in omega (arith, natural_near c.args.self.now.code_length.bits c.args.number)) })

pub returns : goal.returns
returns c =
    rw c.largest.ensures.value
    (record {
      value = sym (length_natural c.args.self.now.code_length.bits c.args.number);
      near = (let l = c.args.self.now.code_length.lawful.1 in omega (arith, natural_near c.args.self.now.code_length.bits c.args.number));
    })
