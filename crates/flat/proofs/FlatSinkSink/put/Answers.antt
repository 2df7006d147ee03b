use Rattle.std.proofs.Common.{refl, arith}
use Rattle.layout.specs.Laws.{kept_stays}
use Rattle.layout.proofs.Spots.{stored_put, stored_kept, put_more, put_none}
use Rattle.flat.proofs.FlatSinkSink.put.Goals as goal

pub returns-then-place-self : goal.returns-then-place-self
returns-then-place-self c =
    let s = c.args.self.now in
    record { kept = kept_stays (λ i. i) _; put = put_none (λ i. i) s.bytes.now s.held s.capacity c.args.bit (omega arith) }

pub returns : goal.returns
returns c =
    let s = c.args.self.now in
    let bytes = s.bytes.now in
    let r = c.with_bit.result in
    let b = c.args.bit in
    let sets = c.with_bit.ensures in
    record {
      kept = stored_kept bytes s.held r b (omega arith) sets (λ i. i) s.held refl (λ j l e. omega arith) s.bytes.ghost_name;
      put = put_more (λ i. i) bytes s.held s.capacity b _ (omega arith) (stored_put bytes s.held r b (omega arith) sets (λ i. i) s.held refl (λ j l e. omega arith));
    }
