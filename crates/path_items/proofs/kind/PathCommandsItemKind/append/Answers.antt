use Rattle.std.proofs.Common.{get_or, take, drop, pos, refl, ◌∙◌, w32, SFits, rules}
use Rattle.std.proofs.lemmas.Int.{to_z-of_z}
use Rattle.bits.proofs.Steps.{Due, due_as, due_room, due_put, due_none}
use Rattle.items.specs.Sequences.{in_order}
use Rattle.path_items.specs.Paths.{value_code, command_code}
use Rattle.path_items.proofs.Writing.{order_next, order_end, used_lawful, word_put}
use Rattle.path_items.proofs.kind.PathCommandsItemKind.append.Goals as goal

pub loop-index-init : goal.loop-index-init
loop-index-init g c = (g.S.Sink.stays _, record { is = refl })

pub append-requires : goal.append-requires
append-requires g c =
    let S = g.S.Sink in
    let w = c.args.configuration.now in
    let r = c.args.item.now in
    let i = c.loop-index.index in
    let e = c.row-entry.result in
    let code = value_code w e in
    let vs = take e.value_count r.values in
    let f : SFits w32 (get_or vs i (pos 0)) = search rules in
    let first = word_put w r e w.words.count c.word_number-word.result w.counted c.word_number-word.ensures c.row-entry.ensures.value _ _ c.append_to.ensures.content in
    let due : Due (S.content c.args.sink.now) (command_code w r) (S.content c.loop-index.sink) (in_order code i (drop i vs)) = record { is = c.loop-index.invariant.1.is ∙ first.is } in
    let room = due_room _ _ _ (code i (get_or vs i (pos 0))) _ (due_as _ _ _ _ due (order_next code vs i (pos 0) c.loop-index-test.true)) c.requires.1 in
    rw c.new.ensures (simp to_z-of_z (used_lawful w r e c.requires.0 c.row-entry.ensures.value i c.loop-index-test.true, room))

pub loop-index-preserved : goal.loop-index-preserved
loop-index-preserved g c =
    let S = g.S.Sink in
    let i = c.loop-index.index in
    let e = c.row-entry.result in
    let code = value_code c.args.configuration.now e in
    let vs = take e.value_count c.args.item.now.values in
    let f : SFits w32 (get_or vs i (pos 0)) = search rules in
    let a = c.append.ensures in
    let inv = c.loop-index.invariant in (
      S.joined _ _ _ inv.0 a.kept,
      due_put _ _ _ (code i (get_or vs i (pos 0))) _ (due_as _ _ _ _ inv.1 (order_next code vs i (pos 0) c.loop-index-test.true)) _
          (simp to_z-of_z at (rw c.new.ensures at a.content)),
    )

pub returns : goal.returns
returns g c =
    let S = g.S.Sink in
    let w = c.args.configuration.now in
    let r = c.args.item.now in
    let e = c.row-entry.result in
    let code = value_code w e in
    let vs = take e.value_count r.values in
    let first = word_put w r e w.words.count c.word_number-word.result w.counted c.word_number-word.ensures c.row-entry.ensures.value _ _ c.append_to.ensures.content in
    let inv = c.loop-index.invariant in
    let due : Due (S.content c.args.sink.now) (command_code w r) (S.content c.loop-index.sink) (in_order code c.loop-index.index (drop c.loop-index.index vs)) = record { is = inv.1.is ∙ first.is } in
    record {
      kept = S.joined _ _ _ c.append_to.ensures.kept inv.0;
      content = due_none _ _ _ (due_as _ _ _ _ due (order_end code vs c.loop-index.index c.loop-index-test.false));
    }
