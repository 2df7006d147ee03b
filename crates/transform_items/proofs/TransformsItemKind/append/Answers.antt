use Rattle.std.proofs.Common.{ℕ, ◌+◌, Bool, List, get_or, refl, ap, ◌∙◌, arith}
use Rattle.bits.specs.Stores.{appended}
use Rattle.bits.proofs.Steps.{Due, due_as, due_room, due_put, due_none}
use Rattle.words.specs.Words.{word}
use Rattle.transforms.specs.declared.steps.Transform.{Transform}
use Rattle.transforms.specs.Records.{unused, six_of}
use Rattle.transform_items.specs.Transforms.{argument_code, mark_code, transform_code}
use Rattle.transform_items.proofs.Writing.{rest_from, from_first, from_mark, mark_bits, sound_at, rest_more, rest_none, length_after, after_at, due_on}
use Rattle.transform_items.proofs.TransformsItemKind.append.Given as given
use Rattle.transform_items.proofs.TransformsItemKind.append.Goals as goal
use Rattle.transform_items.proofs.TransformsItemKind.append.Goals.{After-append_to, After-append_argument, After-append, At-loop-argument}

-- what is due of the transform r, where its bits were to go to the sink x and a front of them has come to the sink y
abbrev Way : (g : given.Over) → ℕ → Transform → g.row.S.Denot → g.row.S.Denot → (ℕ → Transform → List Bool) → Type 0
Way g d r x y rest = Due (g.S.Sink.content x) (transform_code d r) (g.S.Sink.content y) (rest d r)

word_put : (g : given.Over) (c : After-append_to g) → Way g c.args.configuration.now.absolute.bits c.args.item.now c.args.sink.now c.append_to.new.sink from_first
word_put g c = due_put _ _ _ (word 7 c.args.item.now.kind) _ (record { is = refl }) _ (simp c.words.ensures at c.append_to.ensures.content)

first_put : (g : given.Over) (c : After-append_argument g) → Way g c.args.configuration.now.absolute.bits c.args.item.now c.args.sink.now c.append_argument.new.sink from_mark
first_put g c =
    let one = argument_code c.args.configuration.now.absolute.bits (get_or (six_of c.args.item.now) 0 unused) in
    due_put _ _ _ one _ (word_put g (goal.at.After-append_argument g c).After-append_to) _ (simp c.six-arguments.ensures at c.append_argument.ensures.content)

mark_put : (g : given.Over) (c : After-append g) → Way g c.args.configuration.now.absolute.bits c.args.item.now c.args.sink.now c.append.new.sink (λ d r. rest_from d r 0)
mark_put g c =
    let r = c.args.item.now in
    let bits = ap (appended (g.S.Sink.content c.append_argument.new.sink)) (mark_bits r.kind r.mark c.from.ensures c.marked.ensures) in
    due_put _ _ _ (mark_code r.kind r.mark) _ (first_put g (goal.at.After-append g c).After-append_argument) _ (c.append.ensures.content ∙ bits)

some_put : (g : given.Over) (c : At-loop-argument g)
    → Way g c.args.configuration.now.absolute.bits c.args.item.now c.args.sink.now c.loop-argument.sink (λ d r. rest_from d r c.loop-argument.argument-index)
some_put g c = due_on _ _ _ (mark_put g (goal.at.At-loop-argument g c).After-append) c.loop-argument.invariant.1

pub append_argument-requires-clause-few : goal.append_argument-requires-clause-few
append_argument-requires-clause-few g c = simp c.six-arguments.ensures (sound_at c.args.item.now c.requires.0 0 (omega arith)).0

pub append_argument-requires-clause-room : goal.append_argument-requires-clause-room
append_argument-requires-clause-room g c =
    let r = c.args.item.now in
    let d = c.args.configuration.now.absolute.bits in
    simp c.six-arguments.ensures (due_room _ _ _ (argument_code d (get_or (six_of r) 0 unused)) (from_mark d r) (word_put g (goal.at.append_argument-requires-clause-room g c).After-append_to) c.requires.1)

pub append-requires : goal.append-requires
append-requires g c =
    let r = c.args.item.now in
    rw (mark_bits r.kind r.mark c.from.ensures c.marked.ensures)
    (due_room _ _ _ (mark_code r.kind r.mark) (rest_from c.args.configuration.now.absolute.bits r 0) (first_put g (goal.at.append-requires g c).After-append_argument) c.requires.1)

pub append_argument-requires-in-loop-argument-clause-few : goal.append_argument-requires-in-loop-argument-clause-few
append_argument-requires-in-loop-argument-clause-few g c =
    let r = c.args.item.now in
    let six = c.six-arguments.ensures in
    let few = c.following.ensures.value in
    let i = c.loop-argument.argument-index in
    rw (after_at r six few i c.loop-argument-test.true) (sound_at r c.requires.0 (i + 1) (omega (arith, length_after r six few))).0

pub append_argument-requires-in-loop-argument-clause-room : goal.append_argument-requires-in-loop-argument-clause-room
append_argument-requires-in-loop-argument-clause-room g c =
    let r = c.args.item.now in
    let d = c.args.configuration.now.absolute.bits in
    let six = c.six-arguments.ensures in
    let few = c.following.ensures.value in
    let i = c.loop-argument.argument-index in
    let due = due_as _ _ _ _ (some_put g (goal.at.append_argument-requires-in-loop-argument-clause-room g c).At-loop-argument) (rest_more r c.requires.0 d i (omega (arith, length_after r six few))) in
    rw (after_at r six few i c.loop-argument-test.true) (due_room _ _ _ (argument_code d (get_or (six_of r) (i + 1) unused)) (rest_from d r (i + 1)) due c.requires.1)

pub loop-argument-preserved : goal.loop-argument-preserved
loop-argument-preserved g c =
    let S = g.S.Sink in
    let r = c.args.item.now in
    let d = c.args.configuration.now.absolute.bits in
    let six = c.six-arguments.ensures in
    let few = c.following.ensures.value in
    let i = c.loop-argument.argument-index in
    let v = c.loop-argument.invariant in
    let a = c.append_argument-in-loop-argument.ensures in
    let one = a.content ∙ ap (λ x. appended (S.content c.loop-argument.sink) (argument_code d x)) (after_at r six few i c.loop-argument-test.true) in (
      S.joined _ _ _ v.0 a.kept,
      due_put _ _ _ (argument_code d (get_or (six_of r) (i + 1) unused)) _ (due_as _ _ _ _ v.1 (rest_more r c.requires.0 d i (omega (arith, length_after r six few)))) _ one,
    )

pub returns : goal.returns
returns g c =
    let S = g.S.Sink in
    let r = c.args.item.now in
    let few = length_after r c.six-arguments.ensures c.following.ensures.value in
    let none = rest_none r c.requires.0 c.args.configuration.now.absolute.bits c.loop-argument.argument-index (omega (arith, few)) in
    record {
      kept = S.joined _ _ _ c.append_to.ensures.kept (S.joined _ _ _ c.append_argument.ensures.kept (S.joined _ _ _ c.append.ensures.kept c.loop-argument.invariant.0));
      content = due_none _ _ _ (due_as _ _ _ _ (some_put g (goal.at.returns g c).At-loop-argument) none);
    }
