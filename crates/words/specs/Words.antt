-- The words of D numbers: with k = floor(log2 D) and u = 2 ^ (k + 1) - D, word i is i in k bits if i < u, otherwise i + u in k + 1 bits.
use Rattle.std.specs.Prelude.{ℕ, zero, suc, ◌+◌, ◌-◌, ◌^◌, Bool, cond, List, length, take, drop, nat_le, nat_lt}
use Rattle.bits.specs.Codes.{fixed, number}
use Rattle.bits.specs.Stores.{Parse, got, refused}
use Rattle.bits.specs.declared.StoreFault.TheVariants.{End}
use Rattle.lengths.specs.declared.faults.NumberFault.{NumberFault}
use Rattle.lengths.specs.declared.faults.NumberFault.TheVariants.{Store}

-- the largest k up to `top` with 2 ^ k ≤ d, or 0
abbrev pub log_up_to : ℕ → ℕ → ℕ
log_up_to zero d = 0
log_up_to (suc top) d = cond (nat_le (2 ^ suc top) d) (suc top) (log_up_to top d)

-- floor(log2 d), of a number below 65,536
abbrev pub floor_log : ℕ → ℕ
floor_log d = log_up_to 15 d

-- how many words have k bits; the others have one more
abbrev pub short_words : ℕ → ℕ
short_words d = 2 ^ suc (floor_log d) - d

abbrev pub word : ℕ → ℕ → List Bool
word d i = cond (nat_lt i (short_words d)) (fixed (floor_log d) i) (fixed (suc (floor_log d)) (i + short_words d))

-- what the first k bits of a word decide, by their number v: it is a short word, or one bit more belongs to it
abbrev pub decided : ℕ → ℕ → List Bool → ℕ → Parse NumberFault ℕ
decided d position bits v =
    cond (nat_lt v (short_words d)) (got v (drop (floor_log d) bits))
    (cond (nat_lt (length bits) (suc (floor_log d))) (refused (Store (End position)))
    (got (number (take (suc (floor_log d)) bits) - short_words d) (drop (suc (floor_log d)) bits)))

-- a word whose first bit is at the position
abbrev pub one_word : ℕ → ℕ → List Bool → Parse NumberFault ℕ
one_word d position bits =
    cond (nat_lt (length bits) (floor_log d)) (refused (Store (End position))) (decided d position bits (number (take (floor_log d) bits)))
