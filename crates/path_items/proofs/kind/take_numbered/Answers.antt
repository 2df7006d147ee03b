use Rattle.std.proofs.Common.{◌≡◌, ◌-◌, ◌<◌, set, ◌++◌, length, take, replicate, pos, Some, Ok, sym, refl, ap, ◌∙◌, arith, w32, SFits, rules, length-take-le, add-one}
use Rattle.std.proofs.Math.Seq.{take-suc-set}
use Rattle.std.proofs.lemmas.List.{drop-replicate, take_all}
use Rattle.std.proofs.lemmas.Result.{err_from_is_err_and}
use Rattle.std.proofs.lemmas.Int.{to_z-of_z}
use Rattle.bits.specs.Stores.{left, mapped}
use Rattle.bits.proofs.Steps.{read_ok}
use Rattle.lengths.proofs.CodingLaws.{part_got, part_refused}
use Rattle.commands.specs.Commands.{command}
use Rattle.items.proofs.SequenceLaws.{went_on}
use Rattle.path_items.specs.Paths.{form_of, value_code, one_value}
use Rattle.path_items.specs.CommandLaws.{command_is, numbered_as}
use Rattle.path_items.specs.ValueLaws.{form_exact}
use Rattle.path_items.proofs.Reading.{turn_more, turn_stop, turn_end}
use Rattle.path_items.proofs.kind.take_numbered.Goals as goal

pub returns-in_err-value : goal.returns-in_err-value
returns-in_err-value g c =
    let S = g.S.Source in
    let w = c.args.agreed.now in
    let n = c.args.number in
    let e = c.row-entry.result in
    let s = S.tape c.args.source.now in
    let i = c.loop-index.invariant in
    let more : c.loop-index.index < e.value_count = omega (arith, length-take-le e.value_count (replicate 8 (pos 0)) c.row-entry.ensures.bound) in
    let p = err_from_is_err_and c.from_residual.result c.from_residual.ensures.1 in
    let k = turn_stop (one_value w e) e.value_count s c.loop-index.index _ (S.tape c.loop-index.source) i.1 more (S.tape c.read.new.source) _ (rw c.new.ensures at c.in_err-value.ensures) in
    let x = numbered_as w n s.position (left s) e c.if-number-eq-DONE.false c.row-entry.ensures.value ∙ ap (mapped (λ vs. Some (command n vs))) k.0 in
    let q = ap (λ z. z.position) k.1 in
    rw (p.1, p.2) (part_refused _ _ _ _ x refl (ap (λ z. z.bits) k.1 ∙ i.0.same) (omega (arith, i.0.moved)))

pub loop-index-preserved : goal.loop-index-preserved
loop-index-preserved g c =
    let S = g.S.Source in
    let w = c.args.agreed.now in
    let e = c.row-entry.result in
    let j = c.loop-index.index in
    let v = c.in_ok-value.field-0 in
    let s = S.tape c.args.source.now in
    let t = S.tape c.loop-index.source in
    let u = S.tape c.read.new.source in
    let field = one_value w e in
    let f : SFits w32 v = search rules in
    let long = length-take-le e.value_count (replicate 8 (pos 0)) c.row-entry.ensures.bound in
    let i = c.loop-index.invariant in
    let h = (rw c.new.ensures at c.in_ok-value.ensures) in
    let x = form_exact w (form_of e j) t.position v (left t) (left u) (read_ok (field j t.position (left t)) t u v h).0 in
    let taken = take j c.loop-index.used in
    let k = turn_more field e.value_count s j taken t i.1 (omega arith) u v (value_code w e j v) (S.within c.loop-index.source) (S.within c.read.new.source) x.1 h in
    let one = ap (λ n. take n (set c.loop-index.used j v)) (add-one j) ∙ take-suc-set c.loop-index.used j v (omega (arith, c.loop-index.auto.used)) in
    (went_on s t u i.0 k.1, simp to_z-of_z (rw one k.0))

pub returns : goal.returns
returns g c =
    let S = g.S.Source in
    let w = c.args.agreed.now in
    let n = c.args.number in
    let e = c.row-entry.result in
    let s = S.tape c.args.source.now in
    let i = c.loop-index.invariant in
    let long = length-take-le e.value_count (replicate 8 (pos 0)) c.row-entry.ensures.bound in
    let all : c.loop-index.index ≡ e.value_count = omega arith in
    let k = turn_end (one_value w e) e.value_count s c.loop-index.index _ (S.tape c.loop-index.source) i.1 all in
    let x = numbered_as w n s.position (left s) e c.if-number-eq-DONE.false c.row-entry.ensures.value ∙ ap (mapped (λ vs. Some (command n vs))) k in
    let used = c.loop-index.used in
    let taken = take_all c.loop-index.index used (omega (arith, c.loop-index.auto.used)) in
    let filled = ap (λ zeros. used ++ zeros) (drop-replicate e.value_count 8 (pos 0)) ∙ ap (λ vs. vs ++ replicate (8 - e.value_count) (pos 0)) (sym taken) in
    let is = command_is n (take c.loop-index.index used) _ e.value_count (omega (arith, ap length taken, c.loop-index.auto.used)) c.row-entry.ensures.bound filled in
    part_got _ _ _ _ _ x (ap (λ r. Ok (Some r)) is) i.0.same refl i.0.moved
