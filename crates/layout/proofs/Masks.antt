-- One bit of a byte set or cleared by a mask.
use Rattle.std.proofs.Common.{◌≡◌, ℕ, zero, suc, ◌-◌, ◌/◌, ◌%◌, ◌^◌, ◌<◌, Bool, true, false, cond, not, ◌&&◌, ◌||◌, eqb, sym, refl, ap, ◌∙◌, ⊎_elim, arith}
use lib.Bits.{bit_and, bit_or, and_shr, or_shr, and_mod, or_mod}
use Rattle.std.proofs.lemmas.Bool.{and_parts, cases_eq}
use Rattle.bits.specs.Codes.{bit}
use Rattle.layout.specs.Layout.{SetBit}

or_digit : (x y : ℕ) → x < 2 → y < 2 → eqb (bit_or x y) 1 ≡ (eqb x 1 || eqb y 1)
or_digit zero zero p q = refl
or_digit zero (suc zero) p q = refl
or_digit zero (suc (suc y)) p q = absurd (omega arith)
or_digit (suc zero) zero p q = refl
or_digit (suc zero) (suc zero) p q = refl
or_digit (suc zero) (suc (suc y)) p q = absurd (omega arith)
or_digit (suc (suc x)) y p q = absurd (omega arith)

and_digit : (x y : ℕ) → x < 2 → y < 2 → eqb (bit_and x y) 1 ≡ (eqb x 1 && eqb y 1)
and_digit zero zero p q = refl
and_digit zero (suc zero) p q = refl
and_digit zero (suc (suc y)) p q = absurd (omega arith)
and_digit (suc zero) zero p q = refl
and_digit (suc zero) (suc zero) p q = refl
and_digit (suc zero) (suc (suc y)) p q = absurd (omega arith)
and_digit (suc (suc x)) y p q = absurd (omega arith)

pub bit_of_or : (k a b : ℕ) → bit k (bit_or a b) ≡ (bit k a || bit k b)
bit_of_or k a b =
    ap (λ n. eqb (n % 2) 1) (or_shr a b k) ∙ ap (λ n. eqb n 1) (or_mod (a / 2 ^ k) (b / 2 ^ k) 1)
    ∙ or_digit (a / 2 ^ k % 2) (b / 2 ^ k % 2) (omega arith) (omega arith)

pub bit_of_and : (k a b : ℕ) → bit k (bit_and a b) ≡ (bit k a && bit k b)
bit_of_and k a b =
    ap (λ n. eqb (n % 2) 1) (and_shr a b k) ∙ ap (λ n. eqb n 1) (and_mod (a / 2 ^ k) (b / 2 ^ k) 1)
    ∙ and_digit (a / 2 ^ k % 2) (b / 2 ^ k % 2) (omega arith) (omega arith)

-- a test that antt computes at each number below n
abbrev all : (ℕ → Bool) → ℕ → Bool
all f zero = true
all f (suc n) = f n && all f n

at_all : (f : ℕ → Bool) (n : ℕ) → all f n ≡ true → (k : ℕ) → k < n → f k ≡ true
at_all f zero t k h = absurd (omega arith)
at_all f (suc n) t k h =
    let parts = and_parts (f n) (all f n) t in
    ⊎_elim (λ (e : k ≡ n). ap f e ∙ parts.0) (λ (e : k ≡ n → ⊥). at_all f n parts.1 k (omega arith)) (cases_eq k n)

abbrev same : Bool → Bool → Bool
same true b = b
same false b = not b

from_same : (a b : Bool) → same a b ≡ true → a ≡ b
from_same true true t = refl
from_same true false t = sym t
from_same false true t = t
from_same false false t = refl

at_square : (f g : ℕ → ℕ → Bool) → all (λ p. all (λ k. same (f p k) (g p k)) 8) 8 ≡ true → (p k : ℕ) → p < 8 → k < 8 → f p k ≡ g p k
at_square f g t p k hp hk = from_same (f p k) (g p k) (at_all (λ k. same (f p k) (g p k)) 8 (at_all (λ p. all (λ k. same (f p k) (g p k)) 8) 8 t p hp) k hk)

mask_bit : (p k : ℕ) → p < 8 → k < 8 → bit k (128 / 2 ^ p) ≡ eqb k (7 - p)
mask_bit = at_square (λ p k. bit k (128 / 2 ^ p)) (λ p k. eqb k (7 - p)) refl

rest_bit : (p k : ℕ) → p < 8 → k < 8 → bit k (255 - 128 / 2 ^ p) ≡ not (eqb k (7 - p))
rest_bit = at_square (λ p k. bit k (255 - 128 / 2 ^ p)) (λ p k. not (eqb k (7 - p))) refl

or_cond : (x t : Bool) → (x || t) ≡ cond t true x
or_cond true true = refl
or_cond true false = refl
or_cond false true = refl
or_cond false false = refl

and_cond : (x t : Bool) → (x && not t) ≡ cond t false x
and_cond true true = refl
and_cond true false = refl
and_cond false true = refl
and_cond false false = refl

pub mask_sets : (byte p : ℕ) → p < 8 → SetBit byte p true (bit_or byte (128 / 2 ^ p))
mask_sets byte p h k l = bit_of_or k byte (128 / 2 ^ p) ∙ ap (λ t. bit k byte || t) (mask_bit p k h l) ∙ or_cond (bit k byte) (eqb k (7 - p))

pub mask_clears : (byte p : ℕ) → p < 8 → SetBit byte p false (bit_and byte (255 - 128 / 2 ^ p))
mask_clears byte p h k l = bit_of_and k byte (255 - 128 / 2 ^ p) ∙ ap (λ t. bit k byte && t) (rest_bit p k h l) ∙ and_cond (bit k byte) (eqb k (7 - p))
