use Rattle.std.proofs.Common.{is_ok, refl, ap, ◌∙◌, arith}
use Rattle.bits.specs.Stores.{returned}
use Rattle.lengths.proofs.CodingLaws.{completed, part_moved}
use Rattle.transform_items.specs.Transforms.{one_transform}
use Rattle.transform_items.proofs.TransformsItemKind.read.Goals as goal

pub or_back-requires : goal.or_back-requires
or_back-requires g c = omega (arith, c.position-start.ensures, part_moved _ _ _ _ c.take_transform-answer.ensures)

pub returns : goal.returns
returns g c =
    let S = g.S.Source in
    let taken = c.take_transform-answer in
    let back = c.or_back in
    let tape = back.ensures.tape ∙ ap (λ n. returned (is_ok taken.result) n (S.tape taken.new.source)) c.position-start.ensures in
    completed (one_transform c.args.configuration.now.absolute.bits) _ _ _ _ _ _ refl taken.ensures back.ensures.answer tape (S.within back.new.source)
