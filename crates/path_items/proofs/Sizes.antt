-- The codes of values are not long.
use Rattle.std.specs.Prelude.{◌≡◌, ℕ, ◌-◌, ◌≤◌, Bool, true, false, ◌∷◌, ◌++◌, length, ℤ, pos, negsuc, ◌+ℤ◌, ◌≤ℤ◌, nat_lt, unsigned_abs}
use Rattle.std.proofs.Common.{arith}
use Rattle.std.proofs.lemmas.Int.{ints}
use Rattle.std.proofs.lemmas.Bool.{ltb-true, cond_both}
use Rattle.bits.specs.Codes.{fixed}
use Rattle.bits.proofs.Codes.{length_fixed}
use Rattle.lengths.specs.Lengths.{largest}
use Rattle.lengths.specs.declared.Mode.{Mode}
use Rattle.lengths.specs.declared.Mode.TheVariants.{Absolute}
use Rattle.naturals.specs.Naturals.{ones, natural_code}
use Rattle.naturals.proofs.Sizes.{length_natural, natural_near}
use Rattle.integers.specs.Integers.{in_range, offset, absolute_code}
use Rattle.integers.proofs.Forms.{length_escaped}
use Rattle.integers.proofs.IntegerLaws.{offset_small}
use Rattle.path_items.specs.declared.agreed.AgreedConfiguration.{AgreedConfiguration}
use Rattle.path_items.specs.declared.form.ValueForm.{ValueForm}
use Rattle.path_items.specs.declared.form.ValueForm.TheVariants.{Flag, Integer}
use Rattle.path_items.specs.Paths.{length_for, form_lawful, form_code}
use Rattle.path_items.specs.ValueLaws.{length_for_lawful, lawful_as, code_as}

-- the code of an integer is hardly longer than its amount
absolute_size : (cl : ℕ) (w : ℤ) → cl ≤ 14 → unsigned_abs w ≤ 1056767 → length (absolute_code cl w) ≤ 1100000
unfolding absolute_code
absolute_size cl (negsuc n) few h = omega (arith, length_escaped cl n false, length_natural cl n, natural_near cl n)
absolute_size cl (pos n) few h =
    cond_both (nat_lt n (largest cl)) (fixed cl n) (ones cl ++ (true ∷ natural_code cl (n - largest cl))) (λ xs. length xs ≤ 1100000)
    (λ e. omega (arith, length_fixed cl n))
    (λ e. let r = n - largest cl in omega (arith, length_escaped cl r true, length_natural cl r, natural_near cl r))

-- a value in range, moved by what its mode adds
moved_small : (v o : ℤ) → in_range v ≡ true → pos 0 ≤ℤ o → o ≤ℤ pos 8191 → unsigned_abs (v +ℤ o) ≤ 1056767
moved_small (pos n) o h lo hi = let l = ltb-true n 1048576 h in omega (arith, ints)
moved_small (negsuc n) o h lo hi = let l = ltb-true n 1048576 h in omega (arith, ints)

-- a value's code is not long, by whether it is a flag
pub size_as : (b : Bool) (mode : Mode) (cl : ℕ) (v : ℤ) → cl ≤ 14 → lawful_as b v ≡ true → length (code_as b mode cl v) ≤ 1100000
size_as true mode cl v few h = omega arith
size_as false mode cl v few h =
    let o = offset_small mode cl few in
    absolute_size cl (v +ℤ offset mode cl) few (moved_small v (offset mode cl) h o.0 o.1)

-- and so is that of a value of a form
pub form_size : (w : AgreedConfiguration) (f : ValueForm) (v : ℤ) → form_lawful f v ≡ true → length (form_code w f v) ≤ 1100000
form_size w Flag v h = size_as true Absolute (length_for w Absolute) v (length_for_lawful w Absolute).1 h
form_size w (Integer mode) v h = size_as false mode (length_for w mode) v (length_for_lawful w mode).1 h
