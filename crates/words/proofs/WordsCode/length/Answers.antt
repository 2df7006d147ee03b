use Rattle.std.proofs.Common.{arith}
use Rattle.words.proofs.WordLaws.{length_short, length_long, length_word}
use Rattle.words.proofs.WordsCode.length.Goals as goal

pub returns-then-number-short_words : goal.returns-then-number-short_words
returns-then-number-short_words c =
    let w = c.args.self.now in
    let e = length_short w.count w.width c.short_words.result w.short c.short_words.ensures.value c.args.number c.if-number-short_words.true in
    let l = length_word w.count c.args.number in
    record { value = omega arith; bound = omega arith }

pub returns-else-number-short_words : goal.returns-else-number-short_words
returns-else-number-short_words c =
    let w = c.args.self.now in
    let e = length_long w.count w.width c.short_words.result w.short c.short_words.ensures.value c.args.number c.if-number-short_words.false in
    let l = length_word w.count c.args.number in
    record { value = omega arith; bound = omega arith }
