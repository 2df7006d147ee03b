use Rattle.std.proofs.Common.{◌≡◌, ◌++◌, take}
use Rattle.bits.specs.Stores.{left}
use Rattle.telling.specs.Texts.{bits_of}
use Rattle.telling.proofs.texts.agrees.Given as goal

abbrev pub invariant-loop-letter : goal.invariant-loop-letter
invariant-loop-letter g l =
    let tape = g.S.Source.tape in
    ((tape l.source).bits ≡ (tape l.initial.source).bits)
    × (left (tape l.initial.source) ≡ bits_of (take l.letter-index l.letter-items) ++ left (tape l.source))
