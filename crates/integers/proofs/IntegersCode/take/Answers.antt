use Rattle.std.proofs.Common.{◌-ℤ◌, sym, refl, arith, w32, to_z, of_z}
use Rattle.std.proofs.lemmas.Int.{ints}
use Rattle.bits.specs.Stores.{left}
use Rattle.integers.specs.Integers.{one_absolute}
use Rattle.naturals.specs.Naturals.{sum_limit}
use Rattle.lengths.proofs.CodingLaws.{part_got, part_refused, part_ok}
use Rattle.integers.proofs.IntegerLaws.{value_in, value_out}
use Rattle.integers.proofs.IntegersCode.take.Goals as goal

pub returns-then-not-in_range-clause-part : goal.returns-then-not-in_range-clause-part
returns-then-not-in_range-clause-part g c =
    let S = g.S.Source in
    let s = S.tape c.args.source.now in
    let cl = c.args.self.now.code_length.bits in
    let w = c.in_ok-value.field-0 in
    let h = c.in_ok-value.ensures in
    let m = part_ok (one_absolute sum_limit cl c.args.field (left s)) s (S.tape c.take_absolute.new.source) w h.part in
    let lo = h.small.0 in
    let hi = h.small.1 in
    let o = c.offset.ensures in
    let z = to_z w32 (of_z w32 (to_z w32 (of_z w32 w) -ℤ to_z w32 (of_z w32 c.offset.result))) in
    part_refused _ _ _ _ (value_out c.args.self.now.mode cl c.args.field (left s) w z _ m.0 (omega (arith, ints, o.value)) (sym c.if-not-in_range.ensures)) refl m.1 m.2

pub returns-clause-part : goal.returns-clause-part
returns-clause-part g c =
    let S = g.S.Source in
    let s = S.tape c.args.source.now in
    let cl = c.args.self.now.code_length.bits in
    let w = c.in_ok-value.field-0 in
    let h = c.in_ok-value.ensures in
    let m = part_ok (one_absolute sum_limit cl c.args.field (left s)) s (S.tape c.take_absolute.new.source) w h.part in
    let lo = h.small.0 in
    let hi = h.small.1 in
    let o = c.offset.ensures in
    part_got _ _ _ _ _ (value_in c.args.self.now.mode cl c.args.field (left s) w _ _ m.0 (omega (arith, ints, o.value)) (sym c.if-not-in_range.ensures)) refl m.1 refl m.2
