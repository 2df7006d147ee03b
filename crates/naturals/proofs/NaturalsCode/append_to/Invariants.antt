use Rattle.std.proofs.Common.{◌≡◌}
use Rattle.bits.specs.Stores.{appended}
use Rattle.naturals.specs.Naturals.{ones, times}
use Rattle.naturals.proofs.NaturalsCode.append_to.Given as goal

abbrev pub invariant-loop-piece : goal.invariant-loop-piece
invariant-loop-piece g l =
    let s = g.S.Sink in
    s.kept l.initial.sink l.sink × (s.content l.sink ≡ appended (s.content l.initial.sink) (times l._piece (ones l.self.code_length.bits)))
