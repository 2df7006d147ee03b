use Rattle.std.proofs.Common.{sym, ap, ◌∙◌}
use Rattle.chain.specs.Chain.{link}
use Rattle.chain.proofs.Chains.{met_more}
use Rattle.chain.proofs.block_at.Goals as goal

pub loop-k-preserved : goal.loop-k-preserved
loop-k-preserved c =
    c.link-block.ensures ∙ ap (link c.args.bytes.now) c.loop-k.invariant ∙ sym (met_more c.args.bytes.now c.args.first c.loop-k.k)
