use Rattle.std.proofs.Common.{◌≡◌, ◌%◌, ◌^◌, ◌≤◌, length, take, drop}
use Rattle.bits.specs.Codes.{number}
use Rattle.bits.specs.Stores.{left}
use Rattle.bits.proofs.Source.take_field.Given as goal

abbrev pub invariant-loop-k : goal.invariant-loop-k
invariant-loop-k g l =
    let s = g.Self.Source.tape l.initial.self in
    let t = g.Self.Source.tape l.self in
    (t.bits ≡ s.bits) × (left t ≡ drop l._k (left s)) × (l._k ≤ length (left s)) × (l.value ≡ number (take l._k (left s)) % 2 ^ 32)
