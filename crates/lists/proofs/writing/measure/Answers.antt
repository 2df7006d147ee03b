use Rattle.std.proofs.Common.{◌≡◌, length, Ok, Err, sym, refl, ap, ◌∙◌, arith, length-append}
use Rattle.std.proofs.lemmas.List.{at_drop_all}
use Rattle.items.specs.declared.faults.ItemFault.TheVariants.{Unavailable, Value}
use Rattle.lists.specs.Lists.{items_bits, list_bits}
use Rattle.lists.specs.Writing.{lengths_asked, item_asked, first_no}
use Rattle.lists.proofs.Asking.{here, asked_on, asked_no, asked_yes, item_yes, available_no, values_no, lawful_if, length_here}
use Rattle.lists.proofs.writing.measure.Goals as goal

pub loop-index-init : goal.loop-index-init
loop-index-init g c =
    let k = g.K.ItemKind.kind c.args.configuration.now in
    let e = c.end_length-total.ensures.value in
    let b = c.end_length-total.ensures.bound in
    (c.requires.1, refl, omega (arith, length-append (items_bits k c.args.items.now) k.ending), omega arith)

pub returns-then-not-is_available : goal.returns-then-not-is_available
returns-then-not-is_available g c =
    let K = g.K.ItemKind in
    let k = K.kind c.args.configuration.now in
    let r = c.index-items-index.result in
    let h = here c.args.items.now c.loop-index.index r c.loop-index-test.true c.index-items-index.is in
    let no = asked_no h K.LIST (λ x. item_asked (k.asked x)) Unavailable (available_no (k.asked r) c.if-not-is_available.ensures) in
    record { value = rw (c.loop-index.invariant.1 ∙ no) (ap Err c.at_item.ensures); bound = tt }

pub returns-then-not-values_lawful : goal.returns-then-not-values_lawful
returns-then-not-values_lawful g c =
    let K = g.K.ItemKind in
    let k = K.kind c.args.configuration.now in
    let r = c.index-items-index.result in
    let h = here c.args.items.now c.loop-index.index r c.loop-index-test.true c.index-items-index.is in
    let no = asked_no h K.LIST (λ x. item_asked (k.asked x)) Value (values_no (k.asked r) c.if-not-is_available.ensures c.if-not-values_lawful.ensures) in
    record { value = rw (c.loop-index.invariant.1 ∙ no) (ap Err c.at_item-then-not-values_lawful.ensures); bound = tt }

pub length-total-requires : goal.length-total-requires
length-total-requires g c =
    let K = g.K.ItemKind in
    let k = K.kind c.args.configuration.now in
    let r = c.index-items-index.result in
    let h = here c.args.items.now c.loop-index.index r c.loop-index-test.true c.index-items-index.is in
    lawful_if (k.asked r) (asked_yes h K.LIST (λ x. lengths_asked (k.asked x)) c.loop-index.invariant.0) (item_yes (k.asked r) c.if-not-is_available.ensures c.if-not-values_lawful.ensures)

pub loop-index-preserved : goal.loop-index-preserved
loop-index-preserved g c =
    let K = g.K.ItemKind in
    let k = K.kind c.args.configuration.now in
    let r = c.index-items-index.result in
    let h = here c.args.items.now c.loop-index.index r c.loop-index-test.true c.index-items-index.is in
    let i = c.loop-index.invariant in
    let l = asked_yes h K.LIST (λ x. lengths_asked (k.asked x)) i.0 in
    let m = length_here k h in
    let n = c.length-total.ensures.value in
    let b = c.length-total.ensures.bound in (
      sym (asked_on h K.LIST (λ x. lengths_asked (k.asked x)) l) ∙ i.0,
      i.1 ∙ asked_on h K.LIST (λ x. item_asked (k.asked x)) (item_yes (k.asked r) c.if-not-is_available.ensures c.if-not-values_lawful.ensures),
      omega (arith, i.2),
      omega (arith, i.3),
    )

pub returns : goal.returns
returns g c =
    let K = g.K.ItemKind in
    let k = K.kind c.args.configuration.now in
    let i = c.loop-index.invariant in
    let f = at_drop_all (first_no K.LIST (λ x. item_asked (k.asked x)) c.loop-index.index) c.args.items.now c.loop-index.index c.loop-index-test.false in
    let n = at_drop_all (λ xs. length (items_bits k xs)) c.args.items.now c.loop-index.index c.loop-index-test.false in
    let e : c.loop-index.total ≡ length (list_bits k c.args.items.now) = omega (arith, i.2) in
    record { value = rw (i.1 ∙ f) (ap Ok e); bound = omega (arith, i.3, c.requires.0, K.few) }
