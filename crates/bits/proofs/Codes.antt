-- Laws of bits and numbers.
use Rattle.std.proofs.Common.{◌≡◌, ℕ, zero, suc, ◌+◌, ◌-◌, ◌*◌, ◌/◌, ◌%◌, ◌^◌, ◌<◌, ◌≤◌, Bool, true, false, eqb, List, [], ◌∷◌, ◌++◌, length, take, sym, refl, ap, ◌∙◌, append_assoc, mod-eq_of_lt, mul_assoc, mul_comm, pow-suc, add-one, arith, length-append, length-take, pow_mono}
use native.Mathlib.Nat.{div-eq_of_lt, mul-add-div_right}
use Rattle.std.proofs.lemmas.Nat.{pow_pos, mod-pow-add, shr_high}
use Rattle.std.proofs.lemmas.List.{append-nil}
use Rattle.std.proofs.lemmas.Bool.{eqb-true, eqb-false}
use Rattle.bits.specs.Codes.{bit, fixed, number}

-- a bit above the number is not set
pub bit_high : (k n : ℕ) → n < 2 ^ 32 → 32 ≤ k → bit k n ≡ false
bit_high k n h g =
    let m : 2 ^ 32 ≤ 2 ^ k = pow_mono g in
    let lt : n < 2 ^ k = omega arith in
    rw (div-eq_of_lt lt)

pub length_fixed : (k n : ℕ) → length (fixed k n) ≡ k
length_fixed zero n = refl
length_fixed (suc k) n = ap suc (length_fixed k n)

pub fixed_step : (k n : ℕ) → 0 < k → fixed k n ≡ bit (k - 1) n ∷ fixed (k - 1) n
fixed_step zero n h = absurd (omega arith)
fixed_step (suc k) n h = let e : suc k - 1 ≡ k = omega arith in rw e

-- one bit more of a field that is being put
pub fixed_more : (held : List Bool) {after all : List Bool} (k n : ℕ) → 0 < k → after ≡ held ++ (bit (k - 1) n ∷ []) → held ++ fixed k n ≡ all → after ++ fixed (k - 1) n ≡ all
fixed_more held k n h a e =
    ap (λ c. c ++ fixed (k - 1) n) a ∙ append_assoc held (bit (k - 1) n ∷ []) (fixed (k - 1) n) ∙ ap (λ c. held ++ c) (sym (fixed_step k n h)) ∙ e

pub fixed_none : {held all : List Bool} (k n : ℕ) → k ≤ 0 → held ++ fixed k n ≡ all → held ≡ all
fixed_none {held} k n h e = let z : k ≡ 0 = omega arith in sym (append-nil held) ∙ (rw z at e)

-- how many bits are held, where k bits of a field are left
pub length_left : (held before : List Bool) (k m n : ℕ) → held ++ fixed k n ≡ before ++ fixed m n → length held + k ≡ length before + m
length_left held before k m n e =
    let l : length (held ++ fixed k n) ≡ length (before ++ fixed m n) = ap length e in
    omega (arith, simp (length-append, length_fixed) at l)

pub number_lt : (bs : List Bool) → number bs < 2 ^ length bs
number_lt [] = omega arith
number_lt (true ∷ bs) = omega (arith, number_lt bs, pow-suc 2 (length bs))
number_lt (false ∷ bs) = omega (arith, number_lt bs, pow-suc 2 (length bs))

-- the number of at most k bits
pub number_take : (k : ℕ) (bs : List Bool) → number (take k bs) < 2 ^ k
number_take k bs =
    let m : length (take k bs) ≤ k = simp length-take (omega arith) in
    omega (arith, number_lt (take k bs), pow_mono m)

-- the low 32 bits are all of it
pub number_whole : (k : ℕ) (bs : List Bool) → k ≤ 32 → number (take k bs) % 2 ^ 32 ≡ number (take k bs)
number_whole k bs h =
    let m : 2 ^ k ≤ 2 ^ 32 = pow_mono h in
    let l = number_take k bs in
    mod-eq_of_lt (omega arith)

-- one bit more at the end
pub number_push : (bs : List Bool) (b : Bool) → number (bs ++ b ∷ []) ≡ 2 * number bs + number (b ∷ [])
number_push [] b = omega arith
number_push (true ∷ bs) b = omega (arith, number_push bs b, ap (λ n. 2 ^ n) (length-append bs (b ∷ []) ∙ add-one (length bs)), pow-suc 2 (length bs))
number_push (false ∷ bs) b = number_push bs b

-- the low k + 1 bits, by the top one
with_top : (k n : ℕ) (b : Bool) → bit k n ≡ b → number (fixed k n) ≡ n % 2 ^ k → number (b ∷ fixed k n) ≡ n % 2 ^ suc k
with_top k n b e low = go b e
  where
    parts : n % 2 ^ suc k ≡ (n / 2 ^ k % 2) * 2 ^ k + n % 2 ^ k
    parts = ap (λ j. n % 2 ^ j) (omega arith) ∙ mod-pow-add n 1 k

    go : (b : Bool) → bit k n ≡ b → number (b ∷ fixed k n) ≡ n % 2 ^ suc k
    go true e =
        let one : n / 2 ^ k % 2 ≡ 1 = eqb-true (n / 2 ^ k % 2) 1 e in
        let t = (rw one at parts) in
        omega (arith, low, ap (λ j. 2 ^ j) (length_fixed k n))
    go false e =
        let none : n / 2 ^ k % 2 ≡ 0 = let ne = eqb-false (n / 2 ^ k % 2) 1 e in omega arith in
        let t = (rw none at parts) in
        omega (arith, low)

-- the low bits of a number stand for its remainder
pub number_fixed : (k n : ℕ) → number (fixed k n) ≡ n % 2 ^ k
number_fixed zero n = omega arith
number_fixed (suc k) n = with_top k n (bit k n) refl (number_fixed k n)

-- what stands above the low bits does not count
pub fixed_low : (k a n : ℕ) → fixed k (a * 2 ^ k + n) ≡ fixed k n
fixed_low zero a n = refl
fixed_low (suc k) a n =
    let p : a * 2 ^ suc k ≡ 2 * a * 2 ^ k = ap (λ m. a * m) (pow-suc 2 k) ∙ sym (mul_assoc a (2 ^ k) 2) ∙ mul_comm (a * 2 ^ k) 2 ∙ sym (mul_assoc 2 a (2 ^ k)) in
    let q : (2 * a * 2 ^ k + n) / 2 ^ k ≡ 2 * a + n / 2 ^ k = mul-add-div_right (pow_pos k) (2 * a) n in
    let top : bit k (2 * a * 2 ^ k + n) ≡ bit k n = ap (λ m. eqb m 1) (ap (λ m. m % 2) q ∙ omega arith) in
    ap (λ m. fixed (suc k) (m + n)) p ∙ ap (λ b. b ∷ fixed k (2 * a * 2 ^ k + n)) top ∙ ap (λ xs. bit k n ∷ xs) (fixed_low k (2 * a) n)

-- bits are those of the number that they stand for
pub fixed_number : (bs : List Bool) → fixed (length bs) (number bs) ≡ bs
fixed_number [] = refl
fixed_number (true ∷ bs) =
    let k = length bs in
    let one : 2 ^ k + number bs ≡ 1 * 2 ^ k + number bs = omega arith in
    let top : bit k (1 * 2 ^ k + number bs) ≡ true = ap (λ m. eqb (m % 2) 1) (shr_high 1 k (number bs) (number_lt bs)) in
    ap (fixed (suc k)) one ∙ ap (λ b. b ∷ fixed k (1 * 2 ^ k + number bs)) top ∙ ap (λ xs. true ∷ xs) (fixed_low k 1 (number bs) ∙ fixed_number bs)
fixed_number (false ∷ bs) =
    ap (λ m. eqb (m % 2) 1 ∷ fixed (length bs) (number bs)) (div-eq_of_lt (number_lt bs)) ∙ ap (λ xs. false ∷ xs) (fixed_number bs)

-- the number of a field is the field's number
pub number_field : (k n : ℕ) → n < 2 ^ k → number (fixed k n) ≡ n
number_field k n h = number_fixed k n ∙ mod-eq_of_lt h
