use Rattle.std.proofs.Common.{◌≡◌, ◌+◌, ◌*◌, ◌/◌, ◌%◌, ◌<◌, ◌≤◌, length, set, sym, ◌∙◌, arith, length-set}
use Rattle.chain.specs.Chain.{met, spot, laid}
use Rattle.layout.specs.Layout.{lent}
use Rattle.chain.specs.Laws.{chain_stays}
use Rattle.layout.proofs.Spots.{put_more, put_none}
use Rattle.chain.proofs.Chains.{met_kept, linked_kept, chain_put, chain_kept}
use Rattle.chain.proofs.ChainSinkSink.put.Goals as goal

pub returns-then-held-self : goal.returns-then-held-self
returns-then-held-self c =
    let s = c.args.self.now in
    record { kept = chain_stays (laid (lent s.bytes.ghost_name s.bytes.now s.held) s.first s.count); put = put_none (spot s.bytes.now s.first) s.bytes.now s.held (240 * s.count) c.args.bit (omega arith) }

pub invariant_of-self : goal.invariant_of-self
invariant_of-self c =
    let s = c.args.self.now in
    let bytes = s.bytes.now in
    let r = c.with_bit.result in
    let b = c.args.bit in
    let sets = c.with_bit.ensures in
    let room : s.held < 240 * s.count = omega arith in
    let place = 256 * s.block + (16 + s.held % 240) in
    let here : c.next_block-next.result ≡ met (set bytes (place / 8) r) s.first ((s.held + 1) / 240) =
    c.next_block-next.ensures ∙ sym (met_kept bytes s.first s.held s.block s.here s.count r b s.linked room sets ((s.held + 1) / 240)) in
    let fits : s.held + 1 ≤ 240 * s.count = omega arith in
    let sized : 0 < s.count → length (set bytes (place / 8) r) ≤ 65536 = λ h. let l = length-set bytes (place / 8) r in let q = s.sized h in omega arith in
    record { linked = linked_kept bytes s.first s.held s.block s.here s.count r b s.linked room sets; fits = fits; here = here; small = s.small; sized = sized }

pub returns : goal.returns
returns c =
    let s = c.args.self.now in
    let bytes = s.bytes.now in
    let r = c.with_bit.result in
    let b = c.args.bit in
    let sets = c.with_bit.ensures in
    let room : s.held < 240 * s.count = omega arith in
    record {
      kept = chain_kept bytes s.first s.held s.block s.here s.count r b s.linked room sets s.bytes.ghost_name;
      put = put_more (spot bytes s.first) bytes s.held (240 * s.count) b _ room
          (chain_put bytes s.first s.held s.block s.here s.count r b s.linked room sets);
    }
