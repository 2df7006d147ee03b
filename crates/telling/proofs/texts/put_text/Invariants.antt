use Rattle.std.proofs.Common.{◌≡◌, ◌++◌, take}
use Rattle.telling.specs.Texts.{bits_of}
use Rattle.telling.proofs.texts.put_text.Given as goal

abbrev pub invariant-loop-letter : goal.invariant-loop-letter
invariant-loop-letter g l =
    let s = g.S.Sink in
    s.kept l.initial.sink l.sink
    × ((s.content l.sink).bits ≡ (s.content l.initial.sink).bits ++ bits_of (take l.letter-index l.letter-items))
