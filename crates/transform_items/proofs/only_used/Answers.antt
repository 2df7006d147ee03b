use Rattle.std.proofs.Common.{cond, nat_lt, ◌∙◌, rules}
use Rattle.std.proofs.lemmas.Iterator.{YieldsList-from_slice}
use Rattle.std.proofs.lemmas.Iterator.Consumers.{YieldsList-from_enumerate}
use Rattle.std.proofs.lemmas.Iterator.Search.{all_from_yields_List}
use Rattle.integers.specs.Integers.{in_range}
use Rattle.transforms.specs.Records.{is_unused}
use Rattle.transform_items.specs.Transforms.{argument_lawful}
use Rattle.transform_items.specs.RecordLaws.{used_by_number}
use Rattle.transform_items.proofs.only_used.Goals as goal

pub returns : goal.returns
returns c =
    let xs = c.args.arguments.now in
    all_from_yields_List (λ p. cond (nat_lt p.0 c.args.used) (in_range p.1.value) (is_unused p.1)) _ _ _ c.all.ensures.ran (YieldsList-from_enumerate (YieldsList-from_slice xs cc) cc) (λ x b q k. search rules)
    ∙ used_by_number argument_lawful is_unused c.args.used 0 xs
