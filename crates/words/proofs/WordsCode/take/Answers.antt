use Rattle.std.proofs.Common.{◌≡◌, ◌<◌, arith}
use Rattle.std.proofs.lemmas.Result.{err_from_is_err_and}
use Rattle.lengths.specs.declared.faults.NumberFault.TheVariants.{Store}
use Rattle.words.proofs.Taking.{short_read, cut_read, parts_small, long_read}
use Rattle.words.proofs.WordLaws.{word_law}
use Rattle.words.proofs.WordsCode.take.Goals as goal

pub returns-then-first-short-clause-part : goal.returns-then-first-short-clause-part
returns-then-first-short-clause-part g c =
    let S = g.S.Source in
    let w = c.args.self.now in
    short_read w.count w.width c.short_words-short.result c.args.field c.in_ok-first.first (S.tape c.args.source.now) (S.tape c.take_part.new.source)
    w.short c.short_words-short.ensures.value (S.within c.args.source.now) c.in_ok-first.ensures c.if-first-short.true

pub returns-in_err-last-clause-part : goal.returns-in_err-last-clause-part
returns-in_err-last-clause-part g c =
    let S = g.S.Source in
    let w = c.args.self.now in
    let p = err_from_is_err_and {Q = λ y. y ≡ Store c.in_err-last.field-0.0} c.from_residual-in_err-last.result c.from_residual-in_err-last.ensures.1 in
    let part = cut_read w.count w.width c.short_words-short.result c.args.field c.in_ok-first.first (S.tape c.args.source.now) (S.tape c.take_part.new.source)
    w.short c.short_words-short.ensures.value (S.within c.args.source.now) c.in_ok-first.ensures
    (S.tape c.take_part-2.new.source) c.if-first-short.false _ c.in_err-last.ensures in
    rw (p.1, p.2) part

-- the numbers of both parts are small
parts : (g : _) (c : goal.In_ok-last g) → (c.in_ok-first.first < 32768) × (c.in_ok-last.last < 2)
parts g c =
    let S = g.S.Source in
    let w = c.args.self.now in
    parts_small w.count w.width c.short_words-short.result c.args.field c.in_ok-first.first (S.tape c.args.source.now) (S.tape c.take_part.new.source)
    w.short c.short_words-short.ensures.value (S.within c.args.source.now) c.in_ok-first.ensures
    (S.tape c.take_part-2.new.source) c.if-first-short.false c.in_ok-last.last (S.within c.take_part.new.source) c.in_ok-last.ensures

pub overflow_mul-result : goal.overflow_mul-result
overflow_mul-result g c = let p = parts g c in omega arith

pub overflow_add-result : goal.overflow_add-result
overflow_add-result g c = let p = parts g c in omega arith

pub overflow_cast-result-2 : goal.overflow_cast-result-2
overflow_cast-result-2 g c = let p = parts g c in omega arith

pub returns-clause-part : goal.returns-clause-part
returns-clause-part g c =
    let S = g.S.Source in
    let w = c.args.self.now in
    long_read w.count w.width c.short_words-short.result c.args.field c.in_ok-first.first (S.tape c.args.source.now) (S.tape c.take_part.new.source)
    w.short c.short_words-short.ensures.value (S.within c.args.source.now) c.in_ok-first.ensures
    (S.tape c.take_part-2.new.source) c.if-first-short.false c.in_ok-last.last (S.within c.take_part.new.source) c.in_ok-last.ensures _ (omega arith)

-- one answer for each return: its premise, that the count is a `u16`, is known there and not to a tactic of the whole function
pub returns-in_err-first-clause-law : goal.returns-in_err-first-clause-law
returns-in_err-first-clause-law g c = word_law c.args.self.now.count c.args.self.now.some (omega arith)

pub returns-then-first-short-clause-law : goal.returns-then-first-short-clause-law
returns-then-first-short-clause-law g c = word_law c.args.self.now.count c.args.self.now.some (omega arith)

pub returns-in_err-last-clause-law : goal.returns-in_err-last-clause-law
returns-in_err-last-clause-law g c = word_law c.args.self.now.count c.args.self.now.some (omega arith)

pub returns-clause-law : goal.returns-clause-law
returns-clause-law g c = word_law c.args.self.now.count c.args.self.now.some (omega arith)
