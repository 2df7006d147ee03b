use Rattle.std.proofs.Common.{◌/◌, ◌%◌, ◌≡◌, ◌≤◌, sym, ap, ◌∙◌, arith}
use Rattle.bits.specs.Stores.{appended}
use Rattle.bits.specs.Codes.{fixed}
use Rattle.bits.proofs.Codes.{length_fixed}
use Rattle.bits.proofs.Steps.{appended_more, room_more}
use Rattle.lengths.specs.Lengths.{largest}
use Rattle.naturals.specs.Naturals.{ones, times, natural_code}
use Rattle.naturals.proofs.Pieces.{fixed_largest, times_more, code_parts}
use Rattle.naturals.proofs.Sizes.{piece_fits}
use Rattle.naturals.proofs.NaturalsCode.append_to.Goals as goal

pub append-requires : goal.append-requires
append-requires g c =
    let S = g.S.Sink in
    let cl = c.args.self.now.code_length.bits in
    let k = c.loop-piece._piece in
    let top = c.largest-largest.ensures.value in
    let q : k ≤ c.args.number / largest cl = (rw top at c.loop-piece.auto._piece-end) in
    room_more (S.content c.args.sink.now) (S.content c.loop-piece.sink) (times k (ones cl)) (fixed cl c.largest-largest.result) (natural_code cl c.args.number)
    c.requires c.loop-piece.invariant.1 (omega (arith, length_fixed cl c.largest-largest.result, piece_fits cl c.args.number k q))

pub loop-piece-preserved : goal.loop-piece-preserved
loop-piece-preserved g c =
    let S = g.S.Sink in
    let cl = c.args.self.now.code_length.bits in
    let k = c.loop-piece._piece in
    let i = c.loop-piece.invariant in
    let a = c.append.ensures in
    let one = a.content ∙ ap (λ n. appended (S.content c.loop-piece.sink) (fixed cl n)) c.largest-largest.ensures.value ∙ ap (appended (S.content c.loop-piece.sink)) (fixed_largest cl) in (
      S.joined _ _ _ i.0 a.kept,
      appended_more _ _ _ _ _ i.1 one ∙ ap (appended (S.content c.args.sink.now)) (sym (times_more k (ones cl))),
    )

pub append-requires-2 : goal.append-requires-2
append-requires-2 g c =
    let S = g.S.Sink in
    let cl = c.args.self.now.code_length.bits in
    let k = c.loop-piece._piece in
    let top = c.largest-largest.ensures.value in
    let q : k ≤ c.args.number / largest cl = (rw top at c.loop-piece.auto._piece-end) in
    let last = c.args.number % c.largest-largest.result in
    room_more (S.content c.args.sink.now) (S.content c.loop-piece.sink) (times k (ones cl)) (fixed cl last) (natural_code cl c.args.number)
    c.requires c.loop-piece.invariant.1 (omega (arith, length_fixed cl last, piece_fits cl c.args.number k q))

pub returns-clause-content : goal.returns-clause-content
returns-clause-content g c =
    let S = g.S.Sink in
    let cl = c.args.self.now.code_length.bits in
    let all : c.loop-piece._piece ≡ c.args.number / c.largest-largest.result = omega (arith, c.loop-piece.auto._piece-end, c.loop-piece-test.false) in
    appended_more _ _ _ _ _ c.loop-piece.invariant.1 c.append-2.ensures.content
    ∙ ap (appended (S.content c.args.sink.now)) (code_parts cl c.args.number c.loop-piece._piece c.largest-largest.result c.largest-largest.ensures.value all)
