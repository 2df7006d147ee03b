use Rattle.std.proofs.Common.{◌≡◌, ◌++◌, drop}
use Rattle.bracket.specs.Outline.{corners_bits}
use Rattle.bracket.proofs.corners.write_corners.Given as goal

abbrev pub invariant-loop-corner : goal.invariant-loop-corner
invariant-loop-corner g l =
    let s = g.S.Sink in
    let rest = corners_bits l.defaults (drop l.corner-index l.corners) in
    s.kept l.initial.sink l.sink
    × ((s.content l.sink).bits ++ rest ≡ (s.content l.initial.sink).bits ++ corners_bits l.defaults l.corners)
