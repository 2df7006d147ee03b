use Rattle.std.proofs.Common.{refl}
use Rattle.transform_items.proofs.Taking.{type_read}
use Rattle.transform_items.proofs.take_transform.Goals as goal

pub returns : goal.returns
returns g c =
    let S = g.S.Source in
    let kind = c.in_ok-kind.ensures in
    type_read c.args.default.bits _ _ _ _ _ _ c.words.ensures (S.within c.args.source.now) (S.within c.read.new.source) kind.reads (kind.faithful.exact _ refl).1 c.if-kind-eq-END.false c.take_of_type.ensures
