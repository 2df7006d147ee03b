use Rattle.std.proofs.Common.{◌≡◌, true}
use Rattle.lengths.proofs.CodingLaws.{faithful, completed_plain}
use Rattle.lengths.proofs.codes.Code.read.Goals as goal

pub returns : goal.returns
returns g c =
    let C = g.Self.Code in
    let S = g.S.Source in
    let self = c.args.self.now in
    let taken = c.take-answer in
    let back = c.or_back in
    let reads = completed_plain C.plain (C.parse self) (S.tape c.args.source.now) (S.tape taken.new.source) (S.tape back.new.source)
    c.position-start.result taken.result back.result c.position-start.ensures taken.ensures.part back.ensures.answer back.ensures.tape (S.within back.new.source) in
    record { reads = reads; faithful = faithful (C.parse self) (C.code self) (λ v. C.lawful self v ≡ true) taken.ensures.law.back taken.ensures.law.exact _ _ _ reads }
