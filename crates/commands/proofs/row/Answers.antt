use Rattle.std.proofs.Common.{◌≡◌, get_or, rules}
use Rattle.commands.specs.Table.{rows, done}
use Rattle.commands.proofs.Rows.{few_values}
use Rattle.commands.proofs.row.Goals as goal

pub returns-clause-bound : goal.returns-clause-bound
returns-clause-bound c = let e : c.unwrap_or.result ≡ get_or rows c.args.number done = search rules in rw e (few_values c.args.number)
