use Rattle.std.proofs.Common.{◌≡◌, ◌+◌, ◌<◌, length, get_or, ap, ◌∙◌, arith, length-append}
use Rattle.transforms.specs.Records.{unused, six_of, following}
use Rattle.transform_items.specs.Transforms.{argument_code}
use Rattle.transform_items.proofs.Writing.{rest_from, sound_at, rest_more, length_after, after_at}
use Rattle.transform_items.proofs.TransformsItemKind.length.Goals as goal

pub argument_length-total-requires : goal.argument_length-total-requires
argument_length-total-requires c = simp c.six-arguments.ensures (sound_at c.args.item.now c.requires 0 (omega arith))

pub argument_length-total-requires-in-loop-argument : goal.argument_length-total-requires-in-loop-argument
argument_length-total-requires-in-loop-argument c =
    let r = c.args.item.now in
    let six = c.six-arguments.ensures in
    let few = c.following.ensures.value in
    rw (after_at r six few c.loop-argument.argument-index c.loop-argument-test.true) (sound_at r c.requires (c.loop-argument.argument-index + 1) (omega (arith, length_after r six few)))

pub loop-argument-preserved : goal.loop-argument-preserved
loop-argument-preserved c =
    let r = c.args.item.now in
    let d = c.args.configuration.now.absolute.bits in
    let i = c.loop-argument.argument-index in
    let six = c.six-arguments.ensures in
    let few = c.following.ensures.value in
    let one = argument_code d (get_or (six_of r) (i + 1) unused) in
    let lt : i < following r.kind r.mark = omega (arith, length_after r six few) in
    let a : c.argument_length-total-in-loop-argument.result ≡ length one =
    c.argument_length-total-in-loop-argument.ensures.value ∙ ap (λ x. length (argument_code d x)) (after_at r six few i c.loop-argument-test.true) in
    let m = ap length (rest_more r c.requires d i lt) ∙ length-append one (rest_from d r (i + 1)) in
    (omega (arith, c.loop-argument.invariant.0), omega (arith, c.loop-argument.invariant.1, c.argument_length-total-in-loop-argument.ensures.bound))
