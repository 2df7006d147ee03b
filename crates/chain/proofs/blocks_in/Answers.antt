use Rattle.std.proofs.Common.{sym, ap, ◌∙◌, arith, below_more}
use Rattle.chain.specs.Chain.{link, Linked}
use Rattle.chain.proofs.Chains.{met_more, apart, endless}
use Rattle.chain.proofs.blocks_in.Goals as goal

pub returns-then-block-eq0 : goal.returns-then-block-eq0
returns-then-block-eq0 c =
    let linked : Linked c.args.bytes.now c.args.first c.loop-n.n = (c.loop-n.invariant.1, sym c.loop-n.invariant.0 ∙ c.if-block-eq0.true) in
    ((linked, apart c.args.bytes.now c.args.first c.loop-n.n linked), omega arith)

pub loop-n-preserved : goal.loop-n-preserved
loop-n-preserved c =
    let e = c.loop-n.invariant.0 in (
      c.link-block.ensures ∙ ap (link c.args.bytes.now) e ∙ sym (met_more c.args.bytes.now c.args.first c.loop-n.n),
      below_more _ _ c.loop-n.invariant.1 (omega arith, omega arith),
    )

pub returns : goal.returns
returns c = endless c.args.bytes.now c.args.first c.requires (λ k h. c.loop-n.invariant.1 k (omega arith))
