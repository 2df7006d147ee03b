use Rattle.std.proofs.Common.{drop, ap, ◌∙◌}
use Rattle.std.proofs.lemmas.List.{drop-drop}
use Rattle.telling.proofs.texts.print_bits.Goals as goal

pub loop-k-preserved : goal.loop-k-preserved
loop-k-preserved g c =
    let i = c.loop-k.invariant in
    let p = c.print_bit.ensures in
    (p.0 ∙ i.0, p.1 ∙ ap (drop 1) i.1 ∙ drop-drop 1 c.loop-k._k _)
