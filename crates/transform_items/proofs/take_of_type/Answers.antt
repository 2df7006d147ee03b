use Rattle.std.proofs.Common.{◌≡◌, ◌+◌, ◌-◌, List, ◌∷◌, ◌++◌, Some, Ok, Option, refl, ap, ◌∙◌, arith}
use Rattle.std.proofs.lemmas.List.{drop-replicate}
use Rattle.std.proofs.lemmas.Result.{err_from_is_err_and}
use Rattle.bits.specs.Stores.{left}
use Rattle.lengths.proofs.CodingLaws.{part_got, part_ok}
use Rattle.items.proofs.SequenceLaws.{Went, went_on}
use Rattle.transforms.specs.declared.steps.PlainArgument.{PlainArgument}
use Rattle.transforms.specs.declared.steps.Transform.{Transform}
use Rattle.transforms.specs.Records.{unused, placed}
use Rattle.transform_items.specs.Transforms.{one_of_type}
use Rattle.transform_items.specs.RecordLaws.{placed_padded}
use Rattle.transform_items.proofs.Taking.{so_far, part_there, mark_read, turn_more, turn_cut, turn_last, length_places}
use Rattle.transform_items.proofs.take_of_type.Given as given
use Rattle.transform_items.proofs.take_of_type.Goals as goal
use Rattle.transform_items.proofs.take_of_type.Goals.{At-loop-argument}

-- what is made of the arguments after the first one
abbrev made : (g : given.Over) → At-loop-argument g → List PlainArgument → Option Transform
made g c vs = Some (placed c.args.kind c.in_ok-mark.mark (c.in_ok-arguments.field-0 ∷ vs))

-- the first argument, the mark and the arguments so far were read
come : (g : given.Over) (c : At-loop-argument g)
    → (one_of_type c.args.default.bits c.args.kind (g.S.Source.tape c.args.source.now).position (left (g.S.Source.tape c.args.source.now))
    ≡ so_far (made g c) c.args.default.bits c.loop-argument.argument-items c.loop-argument.argument-index (g.S.Source.tape c.loop-argument.source))
    × Went (g.S.Source.tape c.args.source.now) (g.S.Source.tape c.loop-argument.source)
come g c =
    let S = g.S.Source in
    let n = c.following.ensures in
    let v = c.loop-argument.invariant in
    let m = mark_read c.args.default.bits c.args.kind c.in_ok-arguments.field-0 _ _ _ (S.within c.args.source.now) (S.within c.take_argument.new.source) c.in_ok-arguments.ensures
    c.in_ok-mark.mark _ (length_places c.following.result n.bound ∙ n.value) (S.within c.read_mark.new.source) c.in_ok-mark.ensures.reads in
    (m.0 ∙ v.1 (made g c), went_on _ _ _ m.1 v.0)

pub returns-in_err-argument : goal.returns-in_err-argument
returns-in_err-argument g c =
    let m = come g (goal.at.returns-in_err-argument g c).At-loop-argument in
    let p = err_from_is_err_and {Q = λ y. y ≡ c.in_err-argument.field-0.0} c.from_residual-in_err-argument.result c.from_residual-in_err-argument.ensures.1 in
    let cut = turn_cut (made g (goal.at.returns-in_err-argument g c).At-loop-argument) c.args.default.bits c.loop-argument.argument-items c.loop-argument.argument-index _ _ _ (omega arith) c.in_err-argument.ensures in
    rw (p.1, p.2) (part_there _ _ _ _ _ _ m.0 m.1 cut)

pub loop-argument-preserved : goal.loop-argument-preserved
loop-argument-preserved g c =
    let S = g.S.Source in
    let v = S.tape c.loop-argument.source in
    let w = S.tape c.take_argument-in-loop-argument.new.source in
    let a = c.in_ok-argument.field-0 in
    let inv = c.loop-argument.invariant in
    let m = part_ok _ v w a c.in_ok-argument.ensures in (
      went_on _ v w inv.0 (record { same = m.1; moved = m.2 }),
      λ made. inv.1 made
          ∙ turn_more made c.args.default.bits c.loop-argument.argument-items c.loop-argument.argument-index v w a (omega arith) (S.within c.loop-argument.source) (S.within c.take_argument-in-loop-argument.new.source) c.in_ok-argument.ensures,
    )

pub returns : goal.returns
returns g c =
    let n = c.following.result + 1 - 1 in
    let m = come g (goal.at.returns g c).At-loop-argument in
    let last = turn_last (made g (goal.at.returns g c).At-loop-argument) c.args.default.bits c.loop-argument.argument-items c.loop-argument.argument-index _ (omega arith) in
    let args = c.in_ok-arguments.field-0 ∷ c.loop-argument.argument-items in
    let rest = ap (λ xs. placed c.args.kind c.in_ok-mark.mark (args ++ xs)) (drop-replicate n 5 unused) in
    let is : c.placed.result ≡ placed c.args.kind c.in_ok-mark.mark args = c.placed.ensures ∙ rest ∙ placed_padded c.args.kind c.in_ok-mark.mark (5 - n) args in
    part_got _ _ _ _ _ (m.0 ∙ last) (ap (λ r. Ok (Some r)) is) m.1.same refl m.1.moved
