use Rattle.std.proofs.Common.{◌≡◌, ◌++◌}
use Rattle.bits.specs.Codes.{fixed}
use Rattle.bits.proofs.Sink.put_field.Given as goal

abbrev pub invariant-loop-k : goal.invariant-loop-k
invariant-loop-k g l =
    let s = g.Self.Sink in
    s.kept l.initial.self l.self × ((s.content l.self).capacity ≡ (s.content l.initial.self).capacity)
    × ((s.content l.self).bits ++ fixed l.k l.value ≡ (s.content l.initial.self).bits ++ fixed l.width l.value)
