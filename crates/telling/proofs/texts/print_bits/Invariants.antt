use Rattle.telling.specs.Texts.{Passed}
use Rattle.telling.proofs.texts.print_bits.Given as goal

abbrev pub invariant-loop-k : goal.invariant-loop-k
invariant-loop-k g l = Passed l._k (g.S.Source.tape l.initial.source) (g.S.Source.tape l.source)
