use Rattle.std.proofs.Common.{◌≡◌, ◌-◌, ap, ◌∙◌, replicate, take, ◌≤◌, sym, arith, inl, inr}
use Rattle.std.proofs.lemmas.List.{take_all}
use Rattle.telling.specs.Example.{moves}
use Rattle.telling.proofs.example.with_moves.Goals as goal

pub returns-in-Some : goal.returns-in-Some
returns-in-Some g c =
    let m = c.move_to-commands.ensures in
    let none : c.args.count - 0 ≡ c.args.count = omega arith in
    let cut = c.in-Some.ensures.lookup.0.2 ∙ ap (λ n. take n (replicate 4097 c.move_to-commands.result)) none in
    let same : c.in-Some.some.now ≡ moves c.args.count = rw (← m) cut in
    (c.in-Some.some, c.call.ensures, same)

pub returns-in-None : goal.returns-in-None
returns-in-None g c =
    let m = c.move_to-commands.ensures in
    let past : 4097 ≤ c.args.count = elim c.in-None.ensures.lookup.0 [ inl h ↦ omega arith | inr h ↦ omega arith ] in
    let all : replicate 4097 c.move_to-commands.result ≡ take c.args.count (replicate 4097 c.move_to-commands.result) = sym (take_all c.args.count (replicate 4097 c.move_to-commands.result) past) in
    (_, c.call-in-None.ensures, rw (← m) all)
