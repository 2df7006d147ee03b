use Rattle.std.proofs.Common.{◌<◌, length, ap, ◌∙◌, arith}
use Rattle.items.specs.Places.{places_of}
use Rattle.lists.proofs.Filling.{fill_item, fill_on, fill_done}
use Rattle.lists.proofs.reading.fill.Goals as goal

pub next_item-item-requires : goal.next_item-item-requires
next_item-item-requires g c = fill_item c.loop-index.invariant.0 c.loop-index-test.true

pub loop-index-preserved : goal.loop-index-preserved
loop-index-preserved g c =
    let S = g.S.Source in
    let i = c.loop-index.invariant in
    let n = i.0.size in
    let p = c.requires.0 in
    let room : c.loop-index.index < length (places_of c.loop-index.list).all = omega arith in
    let on = fill_on (g.met.K.ItemKind.exact c.args.configuration.now) i.0 c.loop-index-test.true room (S.within c.loop-index.source) (S.tape c.next_item-item.new.source)
    (S.within c.next_item-item.new.source) c.next_item-item.result c.next_item-item.ensures in
    (rw (ap (λ p. p.all) c.store.ensures.stored) on, c.store.ensures.lent ∙ i.1)

pub returns : goal.returns
returns g c =
    let S = g.S.Source in
    let i = c.loop-index.invariant in
    let kept = c.keep.ensures.kept in
    let count = ap (λ p. p.count) kept in
    let all = ap (λ p. p.all) kept in
    let done = fill_done i.0 c.loop-index-test.false c.read.result (S.tape c.read.new.source) (S.within c.read.new.source) c.read.ensures in
    record {
      lent = c.keep.ensures.lent ∙ i.1;
      filled = (c.requires.0, count, ap length all ∙ i.0.size, rw all done.1);
      reads = rw (count, all) done.0;
    }
