-- No command has more than eight values.
use Rattle.std.proofs.Common.{ℕ, zero, suc, ◌≤◌, ◌≡◌, Bool, true, ◌&&◌, List, [], ◌∷◌, get_or, nat_le, refl, arith}
use Rattle.std.proofs.lemmas.Bool.{and_parts, leb-true}
use Rattle.commands.specs.declared.Entry.{Entry}
use Rattle.commands.specs.Table.{rows, done}

small : List Entry → Bool
small [] = true
small (e ∷ es) = nat_le e.value_count 8 && small es

few_at : (es : List Entry) → small es ≡ true → (n : ℕ) → (get_or es n done).value_count ≤ 8
unfolding small
few_at [] h n = omega arith
few_at (e ∷ es) h zero = leb-true e.value_count 8 (and_parts (nat_le e.value_count 8) (small es) h).0
few_at (e ∷ es) h (suc n) = few_at es (and_parts (nat_le e.value_count 8) (small es) h).1 n

pub few_values : (n : ℕ) → (get_or rows n done).value_count ≤ 8
unfolding small
few_values n = few_at rows refl n
