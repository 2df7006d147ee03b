use Rattle.std.proofs.Common.{◌≡◌, arith}
use Rattle.availability.proofs.Ranks.{some_words}
use Rattle.path_items.proofs.agreed.AgreedConfiguration.new.Goals as goal

pub unreachable-requires : goal.unreachable-requires
unreachable-requires c =
    let none : c.count_before.result ≡ 0 = c.in_default.ensures in
    omega (arith, none, some_words c.args.configuration.fields, c.count_before.ensures.value)
