use Rattle.std.proofs.Common.{◌≤◌, Ok, ap, arith}
use Rattle.std.proofs.lemmas.Result.{err_from_is_err_and}
use Rattle.std.proofs.lemmas.Int.{ints}
use Rattle.bits.specs.Stores.{left}
use Rattle.lengths.specs.Lengths.{largest}
use Rattle.naturals.specs.Naturals.{sum_limit}
use Rattle.lengths.proofs.CodingLaws.{took, small_piece, part_got}
use Rattle.integers.proofs.Escapes.{above_read, below_read, not_read}
use Rattle.integers.proofs.IntegerLaws.{way_single}
use Rattle.integers.proofs.Integers.take_absolute.Goals as goal

pub returns-then-piece-largest : goal.returns-then-piece-largest
returns-then-piece-largest g c =
    let S = g.S.Source in
    let s = S.tape c.args.source.now in
    let cl = c.args.self.code_length.bits in
    let k = took cl c.args.field s (S.tape c.take_part.new.source) c.in_ok-piece.piece (omega (arith, c.args.self.code_length.lawful.1)) (S.within c.args.source.now) c.in_ok-piece.ensures in
    let top = c.largest-largest.ensures.value in
    let small = small_piece cl c.in_ok-piece.piece c.args.self.code_length.lawful.1 k.small in
    let e = way_single sum_limit c.args.field cl (left s) c.in_ok-piece.piece k.enough k.value (omega arith) in
    record { part = part_got _ _ _ _ _ e (ap Ok (omega (arith, ints))) k.same k.rest k.moved; small = (omega (arith, ints), omega (arith, ints)) }

pub returns-in_err-rest : goal.returns-in_err-rest
returns-in_err-rest g c =
    let S = g.S.Source in
    let top = c.largest-largest.ensures.value in
    let high : largest c.args.self.code_length.bits ≤ c.in_ok-piece.piece = omega arith in
    let q = err_from_is_err_and c.from_residual-in_err-rest.result c.from_residual-in_err-rest.ensures.1 in
    let part = not_read c.args.self.code_length.bits c.args.field (S.tape c.args.source.now) (S.tape c.take_part.new.source) (S.tape c.take_part-2.new.source) (S.tape c.take.new.source) c.in_ok-piece.piece c.in_ok-above.above
    c.args.self.code_length.lawful.1 (S.within c.args.source.now) (S.within c.take_part.new.source) c.in_ok-piece.ensures c.in_ok-above.ensures high _ c.in_err-rest.ensures.part in
    rw (q.1, q.2) (record { part = part; small = tt })

pub returns-then-above-eq1 : goal.returns-then-above-eq1
returns-then-above-eq1 g c =
    let S = g.S.Source in
    let top = c.largest-largest.ensures.value in
    let high : largest c.args.self.code_length.bits ≤ c.in_ok-piece.piece = omega arith in
    let small = c.in_ok-rest.ensures.small in
    let bounds = c.largest-largest.ensures.bounds in
    let part = above_read c.args.self.code_length.bits c.args.field (S.tape c.args.source.now) (S.tape c.take_part.new.source) (S.tape c.take_part-2.new.source) (S.tape c.take.new.source) c.in_ok-piece.piece c.in_ok-above.above
    c.args.self.code_length.lawful.1 (S.within c.args.source.now) (S.within c.take_part.new.source) c.in_ok-piece.ensures c.in_ok-above.ensures high
    c.if-above-eq1.true c.in_ok-rest.rest _ (omega (arith, ints)) c.in_ok-rest.ensures.part in
    record { part = part; small = (omega (arith, ints), omega (arith, ints)) }

pub returns-else-above-eq1 : goal.returns-else-above-eq1
returns-else-above-eq1 g c =
    let S = g.S.Source in
    let top = c.largest-largest.ensures.value in
    let high : largest c.args.self.code_length.bits ≤ c.in_ok-piece.piece = omega arith in
    let small = c.in_ok-rest.ensures.small in
    let part = below_read c.args.self.code_length.bits c.args.field (S.tape c.args.source.now) (S.tape c.take_part.new.source) (S.tape c.take_part-2.new.source) (S.tape c.take.new.source) c.in_ok-piece.piece c.in_ok-above.above
    c.args.self.code_length.lawful.1 (S.within c.args.source.now) (S.within c.take_part.new.source) c.in_ok-piece.ensures c.in_ok-above.ensures high
    c.if-above-eq1.false c.in_ok-rest.rest _ (omega (arith, ints)) c.in_ok-rest.ensures.part in
    record { part = part; small = (omega (arith, ints), omega (arith, ints)) }
