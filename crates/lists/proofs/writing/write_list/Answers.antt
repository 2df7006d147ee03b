use Rattle.std.proofs.Common.{length, Err, refl, ap, ◌∙◌, arith}
use Rattle.std.proofs.lemmas.Result.{err_from_is_err_and}
use Rattle.items.specs.declared.faults.ListWriteFault.TheVariants.{Store}
use Rattle.lists.specs.Lists.{list_bits}
use Rattle.lists.specs.Writing.{refusal}
use Rattle.lists.proofs.Asking.{unless_ok, unless_err, lawful_unrefused}
use Rattle.lists.proofs.ListLaws.{prefix_free}
use Rattle.lists.proofs.writing.write_list.Goals as goal

pub returns-in_err-length : goal.returns-in_err-length
returns-in_err-length g c =
    let K = g.K.ItemKind in
    let k = K.kind c.args.configuration.now in
    let p = err_from_is_err_and c.from_residual.result c.from_residual.ensures.1 in
    let o = unless_err (refusal k K.LIST K.LIMIT c.args.items.now) (length (list_bits k c.args.items.now)) _ c.in_err-length.ensures in
    record { kept = g.S.Sink.stays _; wrote = rw o (p.1 ∙ ap Err p.2, refl); alone = prefix_free k (g.met.K.ItemKind.back c.args.configuration.now) }

pub returns-in_err-room_for : goal.returns-in_err-room_for
returns-in_err-room_for g c =
    let K = g.K.ItemKind in
    let k = K.kind c.args.configuration.now in
    let p = err_from_is_err_and c.from_residual-in_err-room_for.result c.from_residual-in_err-room_for.ensures.1 in
    let o = unless_ok (refusal k K.LIST K.LIMIT c.args.items.now) (length (list_bits k c.args.items.now)) c.in_ok-length.length c.in_ok-length.ensures in
    let room = c.in_err-room_for.ensures in
    let n = o.1 in
    record {
      kept = g.S.Sink.stays _;
      wrote = rw (o.0, p.1) (omega (arith, room.0), p.2 ∙ ap Store room.1, refl);
      alone = prefix_free k (g.met.K.ItemKind.back c.args.configuration.now);
    }

pub append_list-requires : goal.append_list-requires
append_list-requires g c =
    let K = g.K.ItemKind in
    let k = K.kind c.args.configuration.now in
    let o = unless_ok (refusal k K.LIST K.LIMIT c.args.items.now) (length (list_bits k c.args.items.now)) c.in_ok-length.length c.in_ok-length.ensures in
    let n = o.1 in
    (lawful_unrefused k K.LIST K.LIMIT c.args.items.now o.0, omega (arith, c.in_ok-room_for.ensures))

pub returns : goal.returns
returns g c =
    let K = g.K.ItemKind in
    let k = K.kind c.args.configuration.now in
    let o = unless_ok (refusal k K.LIST K.LIMIT c.args.items.now) (length (list_bits k c.args.items.now)) c.in_ok-length.length c.in_ok-length.ensures in
    let n = o.1 in
    let a = c.append_list.ensures in
    record {
      kept = a.kept;
      wrote = rw o.0 (n, omega (arith, c.in_ok-room_for.ensures), a.content);
      alone = prefix_free k (g.met.K.ItemKind.back c.args.configuration.now);
    }
