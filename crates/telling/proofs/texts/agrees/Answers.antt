use Rattle.std.proofs.Common.{◌≡◌, false, true, sym, ap, ◌∙◌}
use Rattle.telling.specs.Texts.{bits_of}
use Rattle.telling.proofs.Letters.{differs, ended}
use Rattle.telling.proofs.texts.agrees.Goals as goal

pub returns-then-ne-clause-same : goal.returns-then-ne-clause-same
returns-then-ne-clause-same g c =
    let other = rw c.ok.ensures.value at c.if-ne.ensures in
    let no = differs _ _ _ c.loop-letter-test.true c.if-letter-ne32.true _ c.loop-letter.invariant.1 _ _ _ _ c.take.ensures other in
    ((λ w. absurd (let z : false ≡ true = w in cc)), (λ same. absurd (no (same ∙ ap bits_of (sym c.as_bytes-letter-items.ensures.value)))))

pub returns-clause-same : goal.returns-clause-same
returns-clause-same g c =
    let yes = ended _ _ _ c.loop-letter-test.false _ c.loop-letter.invariant.1 _ _ _ _ c.take-2.ensures in
    rw (c.is_err.ensures.value, ← c.as_bytes-letter-items.ensures.value) yes
