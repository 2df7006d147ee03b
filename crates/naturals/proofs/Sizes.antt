-- How many bits a code has.
use Rattle.std.proofs.Common.{◌≡◌, ℕ, zero, suc, ◌+◌, ◌*◌, ◌/◌, ◌%◌, ◌≤◌, Bool, true, List, length, ap, ◌∙◌, suc-mul, mul_comm, mul-le-mul_left, pow-suc, mul-add, div-mul-le_self, arith, length-append}
use lib.ListN.{length-replicate}
use Rattle.std.proofs.lemmas.Nat.{pow_pos}
use Rattle.bits.specs.Codes.{fixed}
use Rattle.bits.proofs.Codes.{length_fixed}
use Rattle.lengths.specs.Lengths.{largest}
use Rattle.naturals.specs.Naturals.{ones, times, natural_code}

length_times : (n : ℕ) (bs : List Bool) → length (times n bs) ≡ n * length bs
length_times zero bs = omega arith
length_times (suc n) bs = omega (arith, length-append bs (times n bs), length_times n bs, suc-mul n (length bs))

pub length_natural : (cl r : ℕ) → length (natural_code cl r) ≡ cl * (r / largest cl + 1)
unfolding natural_code
length_natural cl r =
    let q = r / largest cl in
    length-append (times q (ones cl)) (fixed cl (r % largest cl))
    ∙ omega (arith, length_times q (ones cl), ap (λ n. q * n) (length-replicate cl true), length_fixed cl (r % largest cl), mul_comm q cl, mul-add cl q 1)

le_largest : (k : ℕ) → k ≤ largest k
le_largest zero = omega arith
le_largest (suc k) = omega (arith, le_largest k, pow-suc 2 k, pow_pos k)

-- a number's code is hardly longer than the number
pub natural_near : (cl r : ℕ) → cl * (r / largest cl + 1) ≤ r + cl
natural_near cl r =
    let q = r / largest cl in
    omega (arith, mul-add cl q 1, mul_comm cl q, mul-le-mul_left q (le_largest cl), div-mul-le_self r (largest cl))

-- some of the pieces of ones, and one piece more
pub piece_fits : (cl r k : ℕ) → k ≤ r / largest cl → length (times k (ones cl)) + cl ≤ length (natural_code cl r)
piece_fits cl r k h =
    let l : cl * (k + 1) ≤ cl * (r / largest cl + 1) = mul-le-mul_left cl (omega arith) in
    omega (arith, length_natural cl r, length_times k (ones cl), ap (λ n. k * n) (length-replicate cl true), mul_comm k cl, mul-add cl k 1)
