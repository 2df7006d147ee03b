use Rattle.std.proofs.Common.{take}
use Rattle.items.proofs.SequenceLaws.{Went}
use Rattle.path_items.specs.Paths.{one_value}
use Rattle.path_items.proofs.Reading.{Turned}
use Rattle.path_items.proofs.kind.take_numbered.Given as goal

abbrev pub invariant-loop-index : goal.invariant-loop-index
invariant-loop-index g l =
    let s = g.S.Source.tape l.initial.source in
    let t = g.S.Source.tape l.source in
    Went s t × Turned (one_value l.agreed l.entry) l.entry.value_count s l.index (take l.index l.used) t
