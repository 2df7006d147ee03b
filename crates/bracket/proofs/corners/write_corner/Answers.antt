use Rattle.std.proofs.Common.{ap, w32, SFits, rules}
use Rattle.std.proofs.lemmas.Result.{err_from_is_err_and}
use Rattle.std.proofs.lemmas.Int.{to_z-of_z}
use Rattle.bracket.proofs.Outlines.{both}
use Rattle.bracket.proofs.corners.write_corner.Goals as goal

pub returns-in_err-write-2 : goal.returns-in_err-write-2
returns-in_err-write-2 g c =
    let p = err_from_is_err_and c.from_residual-in_err-write-2.result c.from_residual-in_err-write-2.ensures.1 in
    let a = c.in_ok-write.ensures in
    let b = c.in_err-write-2.ensures in
    rw p.1 (record { kept = g.S.Sink.joined _ _ _ a.kept b.kept; bits = tt })

pub returns : goal.returns
returns g c =
    let s = g.S.Sink in
    let f : SFits w32 c.args.corner.x = search rules in
    let h : SFits w32 c.args.corner.y = search rules in
    let a = c.in_ok-write.ensures in
    let b = c.in_ok-write-2.ensures in
    let x = simp to_z-of_z at (ap (λ t. t.bits) a.wrote.3) in
    let y = simp to_z-of_z at (ap (λ t. t.bits) b.wrote.3) in
    let m = c.integers-integers.ensures in
    let z = both (s.content c.args.sink.now).bits (s.content c.write.new.sink).bits (s.content c.write-2.new.sink).bits _ _ x y in
    record {
      kept = s.joined _ _ _ a.kept b.kept;
      bits = rw (← m.code_length, ← m.mode) z;
    }
