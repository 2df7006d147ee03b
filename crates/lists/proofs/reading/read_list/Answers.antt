use Rattle.std.proofs.Common.{◌≤◌, length, sym, refl, arith}
use Rattle.std.proofs.lemmas.Result.{err_from_is_err_and, IfOk-at_ok}
use Rattle.bits.specs.Stores.{left}
use Rattle.lists.specs.Lists.{one_list}
use Rattle.items.specs.Places.{places_of}
use Rattle.lists.proofs.ListLaws.{list_faithful}
use Rattle.lists.proofs.Filling.{back_refused, back_counted}
use Rattle.lists.proofs.reading.read_list.Goals as goal

pub returns-in_err-count : goal.returns-in_err-count
returns-in_err-count g c =
    let S = g.S.Source in
    let k = g.K.ItemKind.kind c.args.configuration.now in
    let laws = g.met.K.ItemKind in
    let places = length (places_of c.args.list.now).all in
    let s = S.tape c.args.source.now in
    let u = S.tape c.or_back.new.source in
    let q = err_from_is_err_and c.from_residual.result c.from_residual.ensures.1 in
    let reads = back_refused (one_list k g.K.ItemKind.LIMIT places s.position (left s)) s (S.tape c.count_items-counted.new.source) u _
    c.count_items-counted.result (omega arith) (rw c.capacity.ensures at c.count_items-counted.ensures.part) c.or_back.ensures.tape _ (sym c.in_err-count.ensures.answer) in
    rw (q.1, q.2)
    (record {
      lent = refl;
      filled = refl;
      reads = reads;
      faithful = list_faithful k (laws.back c.args.configuration.now) (laws.exact c.args.configuration.now) g.K.ItemKind.LIMIT places s u _ reads;
    })

pub fill-requires : goal.fill-requires
fill-requires g c =
    let S = g.S.Source in
    let k = g.K.ItemKind.kind c.args.configuration.now in
    let s = S.tape c.args.source.now in
    let t = S.tape c.count_items-counted.new.source in
    let counted = c.count_items-counted.ensures in
    let is = sym c.in_ok-count.ensures.answer in
    let room = c.capacity.ensures in
    let back = back_counted (one_list k g.K.ItemKind.LIMIT c.capacity.result s.position (left s)) s t (S.tape c.or_back.new.source) _
    c.count_items-counted.result (omega arith) counted.part c.or_back.ensures.tape c.in_ok-count.count c.go_back.result (S.tape c.go_back.new.self) is c.go_back.ensures in
    (rw (← room) (IfOk-at_ok (λ n. n ≤ c.capacity.result) is counted.within), (left t, rw (back.1, ← room) back.0))

pub returns : goal.returns
returns g c =
    let S = g.S.Source in
    let k = g.K.ItemKind.kind c.args.configuration.now in
    let laws = g.met.K.ItemKind in
    let s = S.tape c.args.source.now in
    let back = back_counted (one_list k g.K.ItemKind.LIMIT c.capacity.result s.position (left s)) s (S.tape c.count_items-counted.new.source) (S.tape c.or_back.new.source) _
    c.count_items-counted.result (omega arith) c.count_items-counted.ensures.part c.or_back.ensures.tape c.in_ok-count.count c.go_back.result (S.tape c.go_back.new.self)
    (sym c.in_ok-count.ensures.answer) c.go_back.ensures in
    let fill = c.fill.ensures in
    let reads = (rw back.1 at fill.reads) in
    record {
      lent = fill.lent;
      filled = fill.filled;
      reads = reads;
      faithful = list_faithful k (laws.back c.args.configuration.now) (laws.exact c.args.configuration.now) g.K.ItemKind.LIMIT (length (places_of c.args.list.now).all) s _ _ reads;
    }
