use Rattle.std.proofs.Common.{◌++◌, length, ap, ◌∙◌, arith, length-append}
use Rattle.std.proofs.lemmas.Int.{to_z-of_z}
use mir.Val.{bool_byte}
use Rattle.bits.specs.Codes.{fixed}
use Rattle.bits.specs.Stores.{appended}
use Rattle.bits.proofs.Codes.{length_fixed}
use Rattle.bits.proofs.Steps.{room_more}
use Rattle.naturals.specs.Naturals.{natural_code}
use Rattle.integers.proofs.Forms.{length_escaped, both_put, escaped_put}
use Rattle.integers.proofs.IntegersCode.append_to.Goals as goal

pub append-requires : goal.append-requires
append-requires g c =
    let f = c.ranges.value in
    let e = ap length (simp to_z-of_z at c.in-Single.ensures) in
    omega (arith, c.requires)

pub append-requires-in-Escaped : goal.append-requires-in-Escaped
append-requires-in-Escaped g c =
    let f = c.ranges.value in
    let e = ap length (simp to_z-of_z at c.in-Escaped.ensures) in
    let l = length_escaped c.args.self.now.code_length.bits c.in-Escaped.rest c.in-Escaped.above in
    omega (arith, c.requires, length_fixed c.args.self.now.code_length.bits c.largest.result)

pub append-requires-in-Escaped-2 : goal.append-requires-in-Escaped-2
append-requires-in-Escaped-2 g c =
    let S = g.S.Sink in
    let f = c.ranges.value in
    let self = c.args.self.now in
    let cl = self.code_length.bits in
    let e = ap length (simp to_z-of_z at c.in-Escaped.ensures) in
    let l = length_escaped cl c.in-Escaped.rest c.in-Escaped.above in
    room_more (S.content c.args.sink.now) (S.content c.append-in-Escaped.new.sink) (fixed cl c.largest.result) (fixed 1 c.from.result) _ c.requires c.append-in-Escaped.ensures.content
    (omega (arith, length_fixed cl c.largest.result, length_fixed 1 c.from.result))

pub append_to-requires : goal.append_to-requires
append_to-requires g c =
    let S = g.S.Sink in
    let f = c.ranges.value in
    let self = c.args.self.now in
    let cl = self.code_length.bits in
    let r = c.in-Escaped.rest in
    let above = c.in-Escaped.above in
    let n = c.largest.result in
    let e = ap length (simp to_z-of_z at c.in-Escaped.ensures) in
    let s = S.content c.args.sink.now in
    let t = S.content c.append-in-Escaped.new.sink in
    let u = S.content c.append-in-Escaped-2.new.sink in
    let two = c.append-in-Escaped-2.ensures.content ∙ ap (λ m. appended t (fixed 1 m)) c.from.ensures in
    room_more s u (fixed cl n ++ fixed 1 (bool_byte above)) (natural_code cl r) _ c.requires (both_put cl r n above s t u u c.largest.ensures.value c.append-in-Escaped.ensures.content two)
    (omega (arith, length_fixed cl n, length_fixed 1 (bool_byte above), length-append (fixed cl n) (fixed 1 (bool_byte above)), length_escaped cl r above))

pub returns-in-Escaped : goal.returns-in-Escaped
returns-in-Escaped g c =
    let S = g.S.Sink in
    let f = c.ranges.value in
    let cl = c.args.self.now.code_length.bits in
    let r = c.in-Escaped.rest in
    let above = c.in-Escaped.above in
    let n = c.largest.result in
    let e = (simp to_z-of_z at c.in-Escaped.ensures) in
    let s = S.content c.args.sink.now in
    let t = S.content c.append-in-Escaped.new.sink in
    let u = S.content c.append-in-Escaped-2.new.sink in
    let a = c.append-in-Escaped.ensures in
    let b = c.append-in-Escaped-2.ensures in
    let d = c.append_to.ensures in
    let two = b.content ∙ ap (λ m. appended t (fixed 1 m)) c.from.ensures in
    record {
      kept = S.joined _ _ _ a.kept (S.joined _ _ _ b.kept d.kept);
      content = escaped_put cl r n above s t u _ c.largest.ensures.value a.content two d.content ∙ ap (appended s) e;
    }
