use Rattle.std.proofs.Common.{◌≡◌, ℕ, ◌+◌, ◌-◌, ◌≤◌, List, ◌++◌, length, take, drop, replicate, ℤ, pos, sym, ap, ◌∙◌, arith, rules}
use Rattle.std.proofs.Math.Seq.{take-append-add}
use Rattle.std.proofs.lemmas.List.{take-replicate, drop-replicate}
use Rattle.commands.proofs.Command.with.Goals as goal

-- values in the place of the first of eight zeros
over_zeros : (n : ℕ) (used : List ℤ) → length used ≡ n → n ≤ 8 → used ++ drop n (replicate 8 (pos 0)) ≡ take 8 (used ++ replicate 8 (pos 0))
over_zeros n used l few =
    let eight : 8 ≡ length used + (8 - n) = omega arith in
    ap (λ zeros. used ++ zeros) (drop-replicate n 8 (pos 0) ∙ sym (take-replicate (8 - n) 8 (pos 0) (omega arith)))
    ∙ sym (ap (λ k. take k (used ++ replicate 8 (pos 0))) eight ∙ take-append-add used (replicate 8 (pos 0)) (8 - n))

pub returns : goal.returns
returns g c =
    let l : length c.args.used ≡ g.row.N = search rules in
    rw (c.copy_from_slice.ensures.after) (ap (λ vs. record { number = c.args.number; values = vs }) (over_zeros g.row.N c.args.used l c.requires))
