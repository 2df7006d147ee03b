-- Pieces, and how a natural number's code goes piece by piece.
use Rattle.std.proofs.Common.{◌≡◌, ℕ, zero, suc, ◌+◌, ◌/◌, ◌%◌, ◌^◌, ◌<◌, ◌≤◌, Bool, true, List, ◌++◌, length, sym, refl, ap, ◌∙◌, append_assoc, pow-suc, add-one, arith}
use lib.ListN.{length-replicate}
use Rattle.std.proofs.lemmas.List.{append-nil}
use Rattle.std.proofs.lemmas.Nat.{pow_pos}
use Rattle.bits.specs.Codes.{fixed, number}
use Rattle.bits.proofs.Codes.{fixed_number}
use Rattle.lengths.specs.Lengths.{largest}
use Rattle.naturals.specs.Naturals.{ones, times, natural_code}

pub largest_pos : (cl : ℕ) → 1 ≤ cl → 0 < largest cl
largest_pos zero one = absurd (omega arith)
largest_pos (suc k) one = omega (arith, pow-suc 2 k, pow_pos k)

pub number_ones : (k : ℕ) → number (ones k) ≡ largest k
number_ones zero = refl
number_ones (suc k) = omega (arith, number_ones k, pow-suc 2 k, pow_pos k, ap (λ j. 2 ^ j) (length-replicate k true))

-- the piece of the largest number is all ones
pub ones_from_largest : (k : ℕ) (bs : List Bool) → length bs ≡ k → number bs ≡ largest k → bs ≡ ones k
ones_from_largest k bs l v =
    sym (fixed_number bs) ∙ ap (λ j. fixed j (number bs)) (l ∙ sym (length-replicate k true))
    ∙ ap (fixed (length (ones k))) (v ∙ sym (number_ones k)) ∙ fixed_number (ones k)

pub fixed_largest : (k : ℕ) → fixed k (largest k) ≡ ones k
fixed_largest k =
    ap (λ j. fixed j (largest k)) (sym (length-replicate k true)) ∙ ap (fixed (length (ones k))) (sym (number_ones k)) ∙ fixed_number (ones k)

-- one more at the end
times_next : (n : ℕ) (bs : List Bool) → times (suc n) bs ≡ times n bs ++ bs
times_next zero bs = append-nil bs
times_next (suc n) bs = ap (λ xs. bs ++ xs) (times_next n bs) ∙ sym (append_assoc bs (times n bs) bs)

pub times_more : (n : ℕ) (bs : List Bool) → times (n + 1) bs ≡ times n bs ++ bs
times_more n bs = ap (λ k. times k bs) (add-one n) ∙ times_next n bs

-- the pieces of ones and the last piece are the code
pub code_parts : (cl r k d : ℕ) → d ≡ largest cl → k ≡ r / d → times k (ones cl) ++ fixed cl (r % d) ≡ natural_code cl r
unfolding natural_code
code_parts cl r k d top all = rw (all, top) refl
