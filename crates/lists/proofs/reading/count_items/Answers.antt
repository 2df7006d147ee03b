use Rattle.std.proofs.Common.{arith}
use Rattle.std.proofs.lemmas.Result.{err_from_is_err_and}
use Rattle.lists.proofs.Counting.{turn_refused, turn_ended, turn_limit, turn_place, turn_on}
use Rattle.lists.proofs.reading.count_items.Goals as goal

pub returns-in_err-item : goal.returns-in_err-item
returns-in_err-item g c =
    let p = err_from_is_err_and c.from_residual.result c.from_residual.ensures.1 in
    rw (p.1, p.2) (record { part = turn_refused c.loop-item.invariant (g.S.Source.tape c.read.new.source) _ c.in_err-item.ensures; within = tt })

pub returns-then-is_none : goal.returns-then-is_none
returns-then-is_none g c =
    let S = g.S.Source in
    let i = c.loop-item.invariant in
    record {
      part = turn_ended i (S.tape c.read.new.source) (g.met.K.ItemKind.exact c.args.configuration.now) (S.within c.loop-item.source) c.in_ok-item.item c.in_ok-item.ensures
          c.if-is_none.ensures;
      within = i.fits;
    }

pub returns-then-count-LIMIT : goal.returns-then-count-LIMIT
returns-then-count-LIMIT g c =
    let S = g.S.Source in
    let p = c.position-position.ensures in
    record {
      part = turn_limit c.loop-item.invariant (S.tape c.read.new.source) (g.met.K.ItemKind.exact c.args.configuration.now) (S.within c.loop-item.source) c.in_ok-item.item c.in_ok-item.ensures
          c.if-is_none.ensures _ (omega arith) (omega arith);
      within = tt;
    }

pub returns-then-count-places : goal.returns-then-count-places
returns-then-count-places g c =
    let S = g.S.Source in
    let p = c.position-position.ensures in
    record {
      part = turn_place c.loop-item.invariant (S.tape c.read.new.source) (g.met.K.ItemKind.exact c.args.configuration.now) (S.within c.loop-item.source) c.in_ok-item.item c.in_ok-item.ensures
          c.if-is_none.ensures _ (omega arith) (omega arith) (omega arith);
      within = tt;
    }

pub loop-item-preserved : goal.loop-item-preserved
loop-item-preserved g c =
    let S = g.S.Source in
    turn_on c.loop-item.invariant (S.tape c.read.new.source) (g.met.K.ItemKind.exact c.args.configuration.now) (S.within c.loop-item.source) c.in_ok-item.item c.in_ok-item.ensures
    c.if-is_none.ensures (S.within c.read.new.source) (omega arith) (omega arith)
