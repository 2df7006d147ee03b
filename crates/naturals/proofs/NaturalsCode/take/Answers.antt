use Rattle.std.proofs.Common.{◌+◌, ◌<◌, take, Ok, refl, ap, ◌∙◌, arith}
use Rattle.std.proofs.lemmas.Result.{err_from_is_err_and}
use Rattle.bits.specs.Codes.{number}
use Rattle.bits.specs.Stores.{left}
use Rattle.naturals.specs.Naturals.{sum_limit}
use Rattle.lengths.proofs.CodingLaws.{Taken, took, small_piece, missed, part_got, part_refused}
use Rattle.naturals.proofs.NaturalLaws.{step_short, step_big, step_more, step_done}
use Rattle.naturals.proofs.NaturalsCode.take.Goals as goal
use Rattle.naturals.proofs.NaturalsCode.take.Goals.{In_ok-piece}

pub returns-in_err-piece-clause-part : goal.returns-in_err-piece-clause-part
returns-in_err-piece-clause-part g c =
    let S = g.S.Source in
    let t = S.tape c.loop-piece.source in
    let cl = c.args.self.now.code_length.bits in
    let p = err_from_is_err_and c.from_residual.result c.from_residual.ensures.1 in
    let m = missed cl c.args.field t (S.tape c.take_part.new.source) _ c.in_err-piece.ensures in
    let i = c.loop-piece.invariant in
    let e = i.3 ∙ step_short sum_limit c.args.field cl c.loop-piece.sum (left t) c.args.self.now.code_length.lawful.0 m.0 in
    rw (p.1, p.2, m.1)
    (part_refused _ _ _ _ e refl (ap (λ z. z.bits) m.2 ∙ i.1) (let q = ap (λ z. z.position) m.2 in omega (arith, i.2)))

-- the piece that was taken
piece : (g : _) (c : In_ok-piece g) → Taken c.args.self.now.code_length.bits (g.S.Source.tape c.loop-piece.source) c.in_ok-piece.piece (g.S.Source.tape c.take_part.new.source)
piece g c =
    took c.args.self.now.code_length.bits c.args.field (g.S.Source.tape c.loop-piece.source) (g.S.Source.tape c.take_part.new.source) c.in_ok-piece.piece
    (omega (arith, c.args.self.now.code_length.lawful.1)) (g.S.Source.within c.loop-piece.source) c.in_ok-piece.ensures

pub overflow_add-sum : goal.overflow_add-sum
overflow_add-sum g c =
    let cl = c.args.self.now.code_length in
    let k = piece g c in
    record { fits = omega (arith, small_piece cl.bits c.in_ok-piece.piece cl.lawful.1 k.small, c.loop-piece.invariant.0) }

pub returns-then-sum-piece-gt-SUM_LIMIT-clause-part : goal.returns-then-sum-piece-gt-SUM_LIMIT-clause-part
returns-then-sum-piece-gt-SUM_LIMIT-clause-part g c =
    let S = g.S.Source in
    let t = S.tape c.loop-piece.source in
    let cl = c.args.self.now.code_length.bits in
    let k = piece g (goal.at.returns-then-sum-piece-gt-SUM_LIMIT-clause-part g c).In_ok-piece in
    let i = c.loop-piece.invariant in
    let is = k.value in
    let past : sum_limit < c.loop-piece.sum + number (take cl (left t)) = omega arith in
    let e = i.3 ∙ step_big sum_limit c.args.field cl c.loop-piece.sum (left t) c.args.self.now.code_length.lawful.0 k.enough past in
    part_refused _ _ _ _ e refl (k.same ∙ i.1) (omega (arith, k.moved, i.2))

pub loop-piece-preserved : goal.loop-piece-preserved
loop-piece-preserved g c =
    let S = g.S.Source in
    let t = S.tape c.loop-piece.source in
    let cl = c.args.self.now.code_length.bits in
    let k = piece g (goal.at.loop-piece-preserved g c).In_ok-piece in
    let i = c.loop-piece.invariant in
    let is = k.value in
    let top = c.largest-largest.ensures.value in
    let e = i.3 ∙ step_more sum_limit c.args.field cl c.loop-piece.sum (left t) c.args.self.now.code_length.lawful.0 k.enough (omega arith) (omega arith) in
    (omega arith, k.same ∙ i.1, omega (arith, k.moved, i.2), rw (is, k.rest) e)

pub returns-clause-part : goal.returns-clause-part
returns-clause-part g c =
    let S = g.S.Source in
    let t = S.tape c.loop-piece.source in
    let cl = c.args.self.now.code_length.bits in
    let k = piece g (goal.at.returns-clause-part g c).In_ok-piece in
    let i = c.loop-piece.invariant in
    let is = k.value in
    let top = c.largest-largest.ensures.value in
    let e = i.3 ∙ step_done sum_limit c.args.field cl c.loop-piece.sum (left t) c.args.self.now.code_length.lawful.0 k.enough (omega arith) (omega arith) in
    part_got _ _ _ _ _ e (ap (λ n. Ok (c.loop-piece.sum + n)) is) (k.same ∙ i.1) k.rest (omega (arith, k.moved, i.2))
