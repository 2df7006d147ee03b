use Rattle.std.proofs.Common.{◌≡◌, ◌-◌, ◌≤◌}
use Rattle.bits.specs.Stores.{left}
use Rattle.naturals.specs.Naturals.{sum_limit, pieces}
use Rattle.naturals.proofs.NaturalsCode.take.Given as goal

abbrev pub invariant-loop-piece : goal.invariant-loop-piece
invariant-loop-piece g l =
    let s = g.S.Source.tape l.initial.source in
    let t = g.S.Source.tape l.source in
    (l.sum ≤ sum_limit) × (t.bits ≡ s.bits) × (s.position ≤ t.position)
    × (pieces sum_limit l.self.code_length.bits l.field 0 0 (left s) ≡ pieces sum_limit l.self.code_length.bits l.field l.sum 0 (left t))

abbrev pub decreases-loop-piece : goal.decreases-loop-piece
decreases-loop-piece g l = 2097153 - l.sum
