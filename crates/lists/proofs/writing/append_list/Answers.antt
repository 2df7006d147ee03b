use Rattle.std.proofs.Common.{[], sym, ◌∙◌, append-nil}
use Rattle.std.proofs.lemmas.List.{at_drop_all}
use Rattle.bits.proofs.Steps.{due_as, due_room, due_put, due_none}
use Rattle.lists.specs.Lists.{list_bits}
use Rattle.lists.proofs.Asking.{here, bits_here, lawful_here}
use Rattle.lists.proofs.writing.append_list.Goals as goal

pub append-requires : goal.append-requires
append-requires g c =
    let S = g.S.Sink in
    let k = g.K.ItemKind.kind c.args.configuration.now in
    let i = c.loop-item.invariant in
    let h = here c.args.items.now c.loop-item.item-index c.item-item.result c.loop-item-test.true c.item-item.is in
    ((lawful_here k h i.1).0, due_room _ _ _ (k.code c.item-item.result) _ (due_as _ _ _ _ i.2 (bits_here k h)) c.requires.1)

pub loop-item-preserved : goal.loop-item-preserved
loop-item-preserved g c =
    let S = g.S.Sink in
    let k = g.K.ItemKind.kind c.args.configuration.now in
    let i = c.loop-item.invariant in
    let a = c.append.ensures in
    let h = here c.args.items.now c.loop-item.item-index c.item-item.result c.loop-item-test.true c.item-item.is in (
      S.joined _ _ _ i.0 a.kept,
      (lawful_here k h i.1).1,
      due_put _ _ _ (k.code c.item-item.result) _ (due_as _ _ _ _ i.2 (bits_here k h)) _ a.content,
    )

pub append_end-requires : goal.append_end-requires
append_end-requires g c =
    let k = g.K.ItemKind.kind c.args.configuration.now in
    let e = at_drop_all (list_bits k) c.args.items.now c.loop-item.item-index c.loop-item-test.false in
    due_room _ _ _ k.ending [] (due_as _ _ _ _ c.loop-item.invariant.2 (e ∙ sym (append-nil k.ending))) c.requires.1

pub returns : goal.returns
returns g c =
    let S = g.S.Sink in
    let k = g.K.ItemKind.kind c.args.configuration.now in
    let i = c.loop-item.invariant in
    let a = c.append_end.ensures in
    let e = at_drop_all (list_bits k) c.args.items.now c.loop-item.item-index c.loop-item-test.false in
    record {
      kept = S.joined _ _ _ i.0 a.kept;
      content = due_none _ _ _ (due_put _ _ _ k.ending [] (due_as _ _ _ _ i.2 (e ∙ sym (append-nil k.ending))) _ a.content);
    }
