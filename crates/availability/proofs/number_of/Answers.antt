use Rattle.std.proofs.Common.{◌≡◌, ℕ, get_or, false, Some, None, Option, refl, rules, tests, ◌∙◌}
use Rattle.std.specs.Option.{unwrap_or, option_map}
use Rattle.std.proofs.lemmas.Iterator.{YieldsList-from_range}
use Rattle.std.proofs.lemmas.Iterator.Consumers.{nth_from_yields_List, YieldsList-from_filter}
use Rattle.availability.specs.Available.{available}
use Rattle.availability.proofs.Ranks.{numbered_is}
use Rattle.availability.proofs.number_of.Goals as goal

there : (found : Option ℕ) (k : ℕ) → option_map (λ x. x) found ≡ Some k → unwrap_or found 0 ≡ k
there None k e = cc
there (Some x) k e = cc

pub returns-clause-value : goal.returns-clause-value
returns-clause-value c =
    let av = available c.args.fields in
    let i = c.args.word in
    let e = nth_from_yields_List c.nth.result c.nth.new.self i c.nth.ensures.ran
    (YieldsList-from_filter _ (λ k. get_or av k false) (YieldsList-from_range 0 26 26 c.filter.ensures.source refl) c.filter.ensures.closure (λ x r q k. search (rules, tests))) in
    c.unwrap_or.ensures ∙ there c.nth.result _ (e ∙ numbered_is av 26 i c.requires)
