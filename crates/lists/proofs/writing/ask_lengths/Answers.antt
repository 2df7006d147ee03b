use Rattle.std.proofs.Common.{Err, ap, ◌∙◌}
use Rattle.std.proofs.lemmas.List.{at_drop_all}
use Rattle.items.specs.declared.faults.ItemFault.TheVariants.{Length}
use Rattle.lists.specs.Writing.{lengths_asked, first_no}
use Rattle.lists.proofs.Asking.{here, asked_on, asked_no, lengths_yes, lengths_no}
use Rattle.lists.proofs.writing.ask_lengths.Goals as goal

pub returns-then-not-lengths_lawful : goal.returns-then-not-lengths_lawful
returns-then-not-lengths_lawful g c =
    let K = g.K.ItemKind in
    let k = K.kind c.args.configuration.now in
    let r = c.index-items-index.result in
    let h = here c.args.items.now c.loop-index.index r c.loop-index-test.true c.index-items-index.is in
    let no = asked_no h K.LIST (λ x. lengths_asked (k.asked x)) Length (lengths_no (k.asked r) c.if-not-lengths_lawful.ensures) in
    rw (c.loop-index.invariant ∙ no) (ap Err c.at_item.ensures)

pub loop-index-preserved : goal.loop-index-preserved
loop-index-preserved g c =
    let K = g.K.ItemKind in
    let k = K.kind c.args.configuration.now in
    let r = c.index-items-index.result in
    let h = here c.args.items.now c.loop-index.index r c.loop-index-test.true c.index-items-index.is in
    c.loop-index.invariant ∙ asked_on h K.LIST (λ x. lengths_asked (k.asked x)) (lengths_yes (k.asked r) c.if-not-lengths_lawful.ensures)

pub returns : goal.returns
returns g c =
    let K = g.K.ItemKind in
    let k = K.kind c.args.configuration.now in
    rw (c.loop-index.invariant ∙ at_drop_all (first_no K.LIST (λ x. lengths_asked (k.asked x)) c.loop-index.index) c.args.items.now c.loop-index.index c.loop-index-test.false)
