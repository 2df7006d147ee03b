-- Bits, the most significant first, and the number that they stand for.
use Rattle.std.specs.Prelude.{ℕ, zero, suc, ◌+◌, ◌/◌, ◌%◌, ◌^◌, Bool, true, false, List, [], ◌∷◌, length, ◌==◌}

-- the bit of weight 2 ^ k of a number
abbrev pub bit : ℕ → ℕ → Bool
bit k n = n / 2 ^ k % 2 == 1

-- the low `width` bits of a number
abbrev pub fixed : ℕ → ℕ → List Bool
fixed zero n = []
fixed (suc k) n = bit k n ∷ fixed k n

-- the number that bits stand for
abbrev pub number : List Bool → ℕ
number [] = 0
number (true ∷ bs) = 2 ^ length bs + number bs
number (false ∷ bs) = number bs
