use Rattle.std.proofs.Common.{◌+◌, arith}
use Rattle.bits.proofs.Codes.{length_fixed}
use Rattle.words.proofs.WordLaws.{length_short, length_long, long_word}
use Rattle.words.proofs.WordsCode.append_to.Goals as goal

pub append-requires : goal.append-requires
append-requires g c =
    let w = c.args.self.now in
    let e = length_short w.count w.width c.short_words-short.result w.short c.short_words-short.ensures.value c.args.number c.if-number-short.true in
    omega (arith, length_fixed w.width c.args.number)

pub append-requires-else-number-short : goal.append-requires-else-number-short
append-requires-else-number-short g c =
    let w = c.args.self.now in
    let e = length_long w.count w.width c.short_words-short.result w.short c.short_words-short.ensures.value c.args.number c.if-number-short.false in
    omega (arith, length_fixed (w.width + 1) (c.args.number + c.short_words-short.result))

pub returns-else-number-short : goal.returns-else-number-short
returns-else-number-short g c =
    let w = c.args.self.now in
    let e = long_word w.count w.width c.short_words-short.result w.short c.short_words-short.ensures.value c.args.number c.if-number-short.false in
    let a = c.append-else-number-short.ensures in
    record { kept = a.kept; content = rw e a.content }
