use Rattle.std.proofs.Common.{is_ok, refl, ap, ◌∙◌, arith}
use Rattle.std.proofs.lemmas.Result.{err_from_is_err_and}
use Rattle.bits.specs.Stores.{Reads, left, returned}
use Rattle.bits.proofs.Steps.{read_ok}
use Rattle.lengths.proofs.CodingLaws.{completed, part_moved}
use Rattle.configurations.specs.Settings.{one_configuration}
use Rattle.configurations.proofs.SettingLaws.{configuration_exact}
use Rattle.configurations.proofs.Reading.{configuration_read}
use Rattle.configurations.proofs.path.PathConfiguration.read.Given as given
use Rattle.configurations.proofs.path.PathConfiguration.read.Goals as goal
use Rattle.configurations.proofs.path.PathConfiguration.read.Goals.{After-or_back}

-- what was read, whatever is made of it
reads : (g : given.Over) (c : After-or_back g) → Reads one_configuration (g.S.Source.tape c.args.source.now) c.or_back.result (g.S.Source.tape c.or_back.new.source)
reads g c =
    let S = g.S.Source in
    let s = S.tape c.args.source.now in
    let t = S.tape c.take_fields-answer.new.source in
    let answer = c.take_fields-answer.result in
    completed one_configuration s t (S.tape c.or_back.new.source) s.position answer c.or_back.result refl c.take_fields-answer.ensures
    c.or_back.ensures.answer (c.or_back.ensures.tape ∙ ap (λ n. returned (is_ok answer) n t) c.position-start.ensures) (S.within c.or_back.new.source)

pub or_back-requires : goal.or_back-requires
or_back-requires g c =
    let S = g.S.Source in
    let p = c.position-start.ensures in
    let m = part_moved _ (S.tape c.args.source.now) (S.tape c.take_fields-answer.new.source) c.take_fields-answer.result c.take_fields-answer.ensures in
    omega arith

pub returns-in_err-fields : goal.returns-in_err-fields
returns-in_err-fields g c =
    let p = err_from_is_err_and c.from_residual.result c.from_residual.ensures.1 in
    let h = (rw c.in_err-fields.was at (reads g (goal.at.returns-in_err-fields g c).After-or_back)) in
    rw (p.1, p.2) (record { reads = h; faithful = configuration_read _ _ _ h })

pub invariant_of-result : goal.invariant_of-result
invariant_of-result g c =
    let S = g.S.Source in
    let s = S.tape c.args.source.now in
    let t = S.tape c.or_back.new.source in
    let v = c.in_ok-fields.fields in
    let h = (rw c.in_ok-fields.was at (reads g (goal.at.invariant_of-result g c).After-or_back)) in
    record { lawful = (configuration_exact s.position v (left s) (left t) (read_ok (one_configuration s.position (left s)) s t v h).0).0 }

pub returns : goal.returns
returns g c =
    let h = (rw c.in_ok-fields.was at (reads g (goal.at.returns g c).After-or_back)) in
    record { reads = h; faithful = configuration_read _ _ _ h }
