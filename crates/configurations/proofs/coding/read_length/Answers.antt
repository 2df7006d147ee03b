use Rattle.configurations.specs.Settings.{one_length}
use Rattle.configurations.proofs.Reading.{not_sent}
use Rattle.configurations.proofs.coding.read_length.Goals as goal

pub returns-then-not-sent : goal.returns-then-not-sent
returns-then-not-sent g c = not_sent c.args.sent one_length (g.S.Source.tape c.args.source.now) c.if-not-sent.true (g.S.Source.within c.args.source.now)
