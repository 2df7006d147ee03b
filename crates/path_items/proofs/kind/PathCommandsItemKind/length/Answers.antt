use Rattle.std.proofs.Common.{◌+◌, length, get_or, take, drop, pos, ap, ◌∙◌, arith, length-append, w32, SFits, rules}
use Rattle.std.proofs.lemmas.Int.{to_z-of_z}
use Rattle.items.specs.Sequences.{in_order}
use Rattle.path_items.specs.Paths.{value_code}
use Rattle.path_items.proofs.Writing.{order_next, used_lawful}
use Rattle.path_items.proofs.kind.PathCommandsItemKind.length.Goals as goal

pub length-total-requires-in-loop-index : goal.length-total-requires-in-loop-index
length-total-requires-in-loop-index c =
    let e = c.row-entry.result in
    let i = c.loop-index.index in
    let r = c.args.item.now in
    let f : SFits w32 (get_or (take e.value_count r.values) i (pos 0)) = search rules in
    rw c.new.ensures (simp to_z-of_z (used_lawful c.args.configuration.now r e c.requires c.row-entry.ensures.value i c.loop-index-test.true))

pub loop-index-preserved : goal.loop-index-preserved
loop-index-preserved c =
    let e = c.row-entry.result in
    let i = c.loop-index.index in
    let vs = take e.value_count c.args.item.now.values in
    let code = value_code c.args.configuration.now e in
    let f : SFits w32 (get_or vs i (pos 0)) = search rules in
    let v = (simp to_z-of_z at (rw c.new.ensures at c.length-total-in-loop-index.ensures.value)) in
    let n = ap length (order_next code vs i (pos 0) c.loop-index-test.true) ∙ length-append (code i (get_or vs i (pos 0))) (in_order code (i + 1) (drop (i + 1) vs)) in
    let few = c.length-total-in-loop-index.ensures.bound in
    let inv = c.loop-index.invariant in
    (omega arith, omega arith)
