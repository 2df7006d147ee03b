-- A nonnegative number r at a code length cl: with M = 2 ^ cl - 1, r / M pieces of all ones, then the piece r % M.
-- A piece is cl bits, the most significant first. Pieces are read until the first that is not all ones.
use Rattle.std.specs.Prelude.{ℕ, zero, suc, pred, ◌+◌, ◌/◌, ◌%◌, Bool, true, cond, List, [], ◌∷◌, ◌++◌, length, take, drop, replicate, ◌==◌, nat_lt}
use Rattle.bits.specs.Codes.{fixed, number}
use Rattle.bits.specs.Stores.{Parse, got, refused}
use Rattle.bits.specs.declared.StoreFault.TheVariants.{End}
use Rattle.lengths.specs.declared.faults.NumberFault.{NumberFault}
use Rattle.lengths.specs.declared.faults.NumberFault.TheVariants.{Store, Range}
use Rattle.lengths.specs.Lengths.{largest}

-- the largest sum of a number's pieces
abbrev pub sum_limit : ℕ
sum_limit = 2097152

abbrev pub ones : ℕ → List Bool
ones cl = replicate cl true

-- bits, n times over
abbrev pub times : ℕ → List Bool → List Bool
times zero bs = []
times (suc n) bs = bs ++ times n bs

unfoldable pub natural_code : ℕ → ℕ → List Bool
natural_code cl r = times (r / largest cl) (ones cl) ++ fixed cl (r % largest cl)

-- what a piece p decides, after pieces with a sum: the sum passes the limit; all ones, and reading goes on; or this is the number
abbrev pub decided : ℕ → ℕ → ℕ → ℕ → ℕ → List Bool → Parse NumberFault ℕ → Parse NumberFault ℕ
decided limit cl position sum p rest more = cond (nat_lt limit (sum + p)) (refused (Range position)) (cond (p == largest cl) more (got (sum + p) rest))

-- the same of the first piece of the bits, if they have one
abbrev pub judged : ℕ → ℕ → ℕ → ℕ → List Bool → Parse NumberFault ℕ → Parse NumberFault ℕ
judged limit cl position sum bits more =
    cond (nat_lt (length bits) cl) (refused (Store (End position))) (decided limit cl position sum (number (take cl bits)) (drop cl bits) more)

-- a number whose first bit is at the position: the pieces from the bit after the next k on, with the sum of those before
unfoldable pub pieces : ℕ → ℕ → ℕ → ℕ → ℕ → List Bool → Parse NumberFault ℕ
pieces limit cl position sum k [] = refused (Store (End position))
pieces limit cl position sum (suc k) (b ∷ bs) = pieces limit cl position sum k bs
pieces limit cl position sum zero (b ∷ bs) = judged limit cl position sum (b ∷ bs) (pieces limit cl position (sum + largest cl) (pred cl) bs)

abbrev pub one_natural : ℕ → ℕ → List Bool → Parse NumberFault ℕ
one_natural cl position bits = pieces sum_limit cl position 0 0 bits
