use Rattle.std.proofs.Common.{ap, arith}
use Rattle.bits.specs.Stores.{left}
use Rattle.lengths.proofs.CodingLaws.{completed, part_moved}
use Rattle.path_items.specs.Paths.{one_command}
use Rattle.path_items.proofs.Reading.{part_at}
use Rattle.path_items.proofs.kind.PathCommandsItemKind.read.Goals as goal

pub or_back-requires : goal.or_back-requires
or_back-requires g c =
    let S = g.S.Source in
    let s = S.tape c.args.source.now in
    let p = c.position-start.ensures in
    let m = part_moved _ s (S.tape c.take_command-answer.new.source) c.take_command-answer.result c.take_command-answer.ensures in
    omega arith

pub returns : goal.returns
returns g c =
    let S = g.S.Source in
    let w = c.args.configuration.now in
    let s = S.tape c.args.source.now in
    let t = S.tape c.take_command-answer.new.source in
    let parse = one_command w in
    let a = c.take_command-answer in
    completed parse s t (S.tape c.or_back.new.source)
    c.position-start.result a.result c.or_back.result
    c.position-start.ensures (part_at s t a.result (ap (λ p. parse p (left s)) c.position-start.ensures) a.ensures) c.or_back.ensures.answer c.or_back.ensures.tape (S.within c.or_back.new.source)
