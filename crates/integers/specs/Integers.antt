-- An integer v at a code length cl, with M = 2 ^ cl - 1. Absolute mode: one piece if 0 ≤ v < M; from M on a piece of ones, the bit 1 and v - M
-- as a nonnegative number; below 0 a piece of ones, the bit 0 and -1 - v. Relative mode: v + 2 ^ (cl - 1) - 1 coded in this way.
-- (`negsuc n` is the integer -1 - n.)
use Rattle.std.specs.Prelude.{ℕ, ◌+◌, ◌-◌, ◌^◌, Bool, true, false, cond, List, [], ◌∷◌, ◌++◌, length, take, drop, ℤ, pos, negsuc, ◌+ℤ◌, ◌-ℤ◌, nat_lt}
use Rattle.bits.specs.Codes.{fixed, number}
use Rattle.bits.specs.Stores.{Parse, got, refused, mapped}
use Rattle.bits.specs.declared.StoreFault.TheVariants.{End}
use Rattle.lengths.specs.declared.faults.NumberFault.{NumberFault}
use Rattle.lengths.specs.declared.faults.NumberFault.TheVariants.{Store, Range}
use Rattle.lengths.specs.declared.Mode.{Mode}
use Rattle.lengths.specs.declared.Mode.TheVariants.{Absolute, Relative}
use Rattle.lengths.specs.Lengths.{largest}
use Rattle.naturals.specs.Naturals.{ones, natural_code, pieces, sum_limit}

-- a value lies from -value_limit to value_limit - 1
abbrev pub value_limit : ℕ
value_limit = 1048576

abbrev pub in_range : ℤ → Bool
in_range (pos n) = nat_lt n value_limit
in_range (negsuc n) = nat_lt n value_limit

-- what is added before coding
abbrev pub offset : Mode → ℕ → ℤ
offset Absolute cl = pos 0
offset Relative cl = pos (2 ^ (cl - 1) - 1)

unfoldable pub absolute_code : ℕ → ℤ → List Bool
absolute_code cl (pos n) = cond (nat_lt n (largest cl)) (fixed cl n) (ones cl ++ (true ∷ natural_code cl (n - largest cl)))
absolute_code cl (negsuc n) = ones cl ++ (false ∷ natural_code cl n)

abbrev pub integer_code : Mode → ℕ → ℤ → List Bool
integer_code mode cl v = absolute_code cl (v +ℤ offset mode cl)

-- what follows a piece of ones: a bit for the side, and a number
abbrev pub after_ones : ℕ → ℕ → ℕ → List Bool → Parse NumberFault ℤ
after_ones limit cl position [] = refused (Store (End position))
after_ones limit cl position (true ∷ bs) = mapped (λ n. pos (n + largest cl)) (pieces limit cl position 0 0 bs)
after_ones limit cl position (false ∷ bs) = mapped negsuc (pieces limit cl position 0 0 bs)

-- an integer in absolute mode whose first bit is at the position
abbrev pub one_absolute : ℕ → ℕ → ℕ → List Bool → Parse NumberFault ℤ
one_absolute limit cl position bits =
    cond (nat_lt (length bits) cl) (refused (Store (End position)))
    (cond (nat_lt (number (take cl bits)) (largest cl)) (got (pos (number (take cl bits))) (drop cl bits)) (after_ones limit cl position (drop cl bits)))

-- is the value that was read in range?
abbrev pub ranged : ℕ → Parse NumberFault ℤ → Parse NumberFault ℤ
ranged position (got v rest) = cond (in_range v) (got v rest) (refused (Range position))
ranged position (refused e) = refused e

abbrev pub one_integer : Mode → ℕ → ℕ → List Bool → Parse NumberFault ℤ
one_integer mode cl position bits = ranged position (mapped (λ v. v -ℤ offset mode cl) (one_absolute sum_limit cl position bits))
