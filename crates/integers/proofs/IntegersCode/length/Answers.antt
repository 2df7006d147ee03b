use Rattle.std.proofs.Common.{◌+◌, length, sym, ap, ◌∙◌}
use Rattle.std.proofs.lemmas.Int.{to_z-of_z}
use Rattle.bits.proofs.Codes.{length_fixed}
use Rattle.integers.proofs.Forms.{length_escaped}
use Rattle.integers.proofs.IntegersCode.length.Goals as goal

pub returns-in-Single : goal.returns-in-Single
returns-in-Single c =
    let f = c.ranges.value in
    sym (length_fixed c.args.self.now.code_length.bits c.in-Single.field-0) ∙ ap length (simp to_z-of_z at c.in-Single.ensures)

pub returns-in-Escaped : goal.returns-in-Escaped
returns-in-Escaped c =
    let f = c.ranges.value in
    let cl = c.args.self.now.code_length.bits in
    ap (λ n. cl + 1 + n) c.length.ensures.value ∙ sym (length_escaped cl c.in-Escaped.rest c.in-Escaped.field-0) ∙ ap length (simp to_z-of_z at c.in-Escaped.ensures)
