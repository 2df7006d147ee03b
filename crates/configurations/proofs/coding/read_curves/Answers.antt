use Rattle.configurations.proofs.Reading.{curves_refused}
use Rattle.configurations.proofs.coding.read_curves.Goals as goal

pub returns-then-curves-eq15 : goal.returns-then-curves-eq15
returns-then-curves-eq15 g c =
    let S = g.S.Source in
    curves_refused c.args.sent (S.tape c.args.source.now) (S.tape c.read_number.new.source) (S.tape c.go_back.new.self) c.in_ok-curves.curves c.position-position.result c.go_back.result
    c.if-sent.true c.if-curves-eq15.true c.position-position.ensures (S.within c.args.source.now) c.in_ok-curves.ensures c.go_back.ensures
