use Rattle.std.proofs.Common.{◌++◌, sym, ap, ◌∙◌}
use Rattle.std.proofs.lemmas.List.{append-nil, drop_all}
use Rattle.std.proofs.lemmas.Result.{err_from_is_err_and}
use Rattle.bracket.specs.Outline.{corners_bits}
use Rattle.bracket.proofs.Outlines.{corner_more}
use Rattle.bracket.proofs.corners.write_corners.Goals as goal

pub returns-in_err-write_corner : goal.returns-in_err-write_corner
returns-in_err-write_corner g c =
    let p = err_from_is_err_and c.from_residual.result c.from_residual.ensures.1 in
    let b = c.in_err-write_corner.ensures in
    rw p.1 (record { kept = g.S.Sink.joined _ _ _ c.loop-corner.invariant.0 b.kept; bits = tt })

pub loop-corner-preserved : goal.loop-corner-preserved
loop-corner-preserved g c =
    let s = g.S.Sink in
    let b = c.in_ok-write_corner.ensures in (
      s.joined _ _ _ c.loop-corner.invariant.0 b.kept,
      corner_more c.args.defaults.now c.loop-corner.corner-index c.args.corners.now _ (s.content c.loop-corner.sink).bits c.loop-corner-test.true b.bits c.loop-corner.invariant.1,
    )

pub returns : goal.returns
returns g c =
    let s = g.S.Sink in
    let held = (s.content c.loop-corner.sink).bits in
    let none = drop_all c.loop-corner.corner-index c.args.corners.now c.loop-corner-test.false in
    record { kept = c.loop-corner.invariant.0; bits = sym (append-nil held) ∙ ap (λ cs. held ++ corners_bits c.args.defaults.now cs) (sym none) ∙ c.loop-corner.invariant.1 }
