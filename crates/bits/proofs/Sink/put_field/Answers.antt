use Rattle.std.proofs.Common.{[], ◌∷◌, ◌++◌, refl, ap, ◌∙◌, arith, rules}
use Rattle.std.proofs.lemmas.Result.{err_from_is_err_and}
use Rattle.bits.proofs.Codes.{length_fixed, fixed_more, fixed_none, length_left}
use Rattle.bits.proofs.Steps.{content_is}
use Rattle.bits.proofs.Sink.put_field.Goals as goal

pub returns-in_err-room_for : goal.returns-in_err-room_for
returns-in_err-room_for g c =
    let p = err_from_is_err_and c.from_residual.result c.from_residual.ensures.1 in
    let none = c.in_err-room_for.ensures in
    let l = length_fixed c.args.width c.args.value in
    rw (p.1, p.2) (record { kept = g.Self.Sink.stays _; put = (omega (arith, none.0), none.1, refl) })

pub loop-k-preserved : goal.loop-k-preserved
loop-k-preserved g c =
    let s = g.Self.Sink in
    let i = c.loop-k.invariant in
    let p = c.in_ok-put.ensures in
    let b = ap (λ t. t.bits) p.put.1 ∙ ap (λ b. (s.content c.loop-k.self).bits ++ (b ∷ [])) c.has_bit.ensures in (
      s.joined _ _ _ i.0 p.kept,
      ap (λ t. t.capacity) p.put.1 ∙ i.1,
      fixed_more (s.content c.loop-k.self).bits c.loop-k.k c.args.value c.loop-k-test.true b i.2,
    )

pub returns-in_err-put : goal.returns-in_err-put
returns-in_err-put g c =
    let s = g.Self.Sink in
    let i = c.loop-k.invariant in
    let p = c.in_err-put.ensures in
    let l = length_left (s.content c.loop-k.self).bits (s.content c.args.self.now).bits c.loop-k.k c.args.width c.args.value i.2 in
    absurd (omega (arith, p.put.0))

pub returns : goal.returns
returns g c =
    let i = c.loop-k.invariant in
    let done = fixed_none c.loop-k.k c.args.value c.loop-k-test.false i.2 in
    record { kept = i.0; put = (search (rules, length_fixed), content_is _ _ _ done i.1) }
