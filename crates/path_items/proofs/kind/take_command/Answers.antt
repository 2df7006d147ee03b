use Rattle.std.proofs.Common.{◌<◌, sym, refl, ap, ◌∙◌, arith}
use Rattle.std.proofs.lemmas.Bool.{ltb-true}
use Rattle.bits.specs.Stores.{left}
use Rattle.words.specs.Words.{word, one_word}
use Rattle.items.specs.declared.faults.ListFault.TheVariants.{Number}
use Rattle.items.specs.Sequences.{carried, followed}
use Rattle.items.proofs.SequenceLaws.{part_here}
use Rattle.availability.specs.Available.{available, numbered}
use Rattle.path_items.specs.Paths.{one_numbered}
use Rattle.path_items.proofs.Reading.{part_at, carried_ok, follow_ok}
use Rattle.path_items.proofs.kind.take_command.Goals as goal

pub number_of-number-requires : goal.number_of-number-requires
number_of-number-requires g c =
    let w = c.args.agreed.now in
    let lt : c.in_ok-word.word < w.words.count = ltb-true _ _ (c.in_ok-word.ensures.faithful.exact c.in_ok-word.word refl).0 in
    omega (arith, w.counted)

pub returns : goal.returns
returns g c =
    let S = g.S.Source in
    let w = c.args.agreed.now in
    let count = w.words.count in
    let i = c.in_ok-word.word in
    let s = S.tape c.args.source.now in
    let t = S.tape c.read.new.source in
    let u = S.tape c.take_numbered.new.source in
    let h = c.in_ok-word.ensures in
    let one = one_numbered w in
    let k = follow_ok (carried Number (one_word count s.position (left s))) (λ j on rest. one (numbered (available w.configuration.fields) j) on rest) s t i (word count i)
    (S.within c.args.source.now) (S.within c.read.new.source) (h.faithful.exact i refl).1 (carried_ok Number (one_word count s.position (left s)) s t i h.reads) in
    part_here _ s t u c.take_numbered.result k.1
    (part_at t u c.take_numbered.result
    (ap (λ n. followed s.position (left s) (carried Number (one_word n s.position (left s))) (λ j on rest. one (numbered (available w.configuration.fields) j) on rest)) (sym w.counted)
    ∙ k.0 ∙ ap (λ n. one n t.position (left t)) (sym c.number_of-number.ensures.value))
    c.take_numbered.ensures)
