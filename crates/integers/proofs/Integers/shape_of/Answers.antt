use Rattle.std.proofs.Common.{◌+ℤ◌, arith}
use Rattle.std.proofs.lemmas.Int.{ints}
use Rattle.integers.specs.Integers.{offset}
use Rattle.integers.proofs.IntegerLaws.{shape_single, shape_above, shape_below}
use Rattle.integers.proofs.Integers.shape_of.Goals as goal

pub returns-then-coded-lt0 : goal.returns-then-coded-lt0
returns-then-coded-lt0 c =
    let o = c.offset.ensures.value in
    shape_below c.args.self.code_length.bits _ (c.args.value +ℤ offset c.args.self.mode c.args.self.code_length.bits) (omega (arith, ints))

pub returns-then-coded-largest : goal.returns-then-coded-largest
returns-then-coded-largest c =
    let o = c.offset.ensures.value in
    let l = c.largest.ensures.value in
    shape_single c.args.self.code_length.bits _ (c.args.value +ℤ offset c.args.self.mode c.args.self.code_length.bits) (omega (arith, ints)) (omega (arith, ints))

pub returns-else-coded-largest : goal.returns-else-coded-largest
returns-else-coded-largest c =
    let o = c.offset.ensures.value in
    let l = c.largest.ensures.value in
    shape_above c.args.self.code_length.bits _ (c.args.value +ℤ offset c.args.self.mode c.args.self.code_length.bits) (omega (arith, ints))
