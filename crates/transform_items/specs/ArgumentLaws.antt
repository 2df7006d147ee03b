-- An argument is read back, and only arguments are read.
use Rattle.std.specs.Prelude.{◌≡◌, ℕ, zero, suc, ◌+◌, ◌-◌, ◌*◌, ◌<◌, ◌≤◌, Bool, true, false, List, ◌++◌, length, ℤ, pos, negsuc, ◌+ℤ◌, unsigned_abs}
use Rattle.std.proofs.Common.{append_assoc, ⊎_elim, sym, ap, ◌∙◌, arith, length-append}
use Rattle.std.proofs.lemmas.Int.{ints}
use Rattle.std.proofs.lemmas.Bool.{cases_lt, lt-ltb, le-ltb, ltb-true}
use Rattle.bits.specs.Stores.{Parse, got, mapped}
use Rattle.bits.proofs.Codes.{length_fixed}
use Rattle.lengths.specs.declared.faults.NumberFault.{NumberFault}
use Rattle.lengths.specs.declared.Mode.TheVariants.{Absolute}
use Rattle.lengths.specs.Fields.{chosen, field_code, one_length_field}
use Rattle.lengths.specs.Lengths.{largest}
use Rattle.lengths.proofs.FieldLaws.{field_back, field_exact}
use Rattle.naturals.specs.Naturals.{natural_code}
use Rattle.naturals.proofs.Sizes.{length_natural, natural_near}
use Rattle.integers.specs.Integers.{in_range, absolute_code, integer_code, one_integer}
use Rattle.integers.proofs.Forms.{length_escaped}
use Rattle.integers.proofs.IntegerLaws.{integer_back, integer_exact}
use Rattle.items.specs.declared.faults.ListFault.TheVariants.{Number}
use Rattle.items.specs.Sequences.{carried, followed, onward}
use Rattle.bits.proofs.Steps.{mapped_got}
use Rattle.items.proofs.SequenceLaws.{carried_got, followed_got, followed_back}
use Rattle.transforms.specs.declared.steps.PlainArgument.{PlainArgument}
use Rattle.transforms.specs.Records.{plain}
use Rattle.transform_items.specs.Transforms.{argument_code, one_argument}

-- an argument that is lawful, whatever its place
abbrev pub Sound : ℕ → PlainArgument → Type 0
Sound i a = (a.length ≤ 14) × (in_range a.value ≡ true)

-- the length in use is a code length
chosen_lawful : (n default : ℕ) → n ≤ 14 → 1 ≤ default → default ≤ 14 → (1 ≤ chosen n default) × (chosen n default ≤ 14)
chosen_lawful zero default h lo hi = (lo, hi)
chosen_lawful (suc n) default h lo hi = (omega arith, h)

-- what is read after the length field
abbrev pub after_field : ℕ → ℕ → ℕ → List Bool → Parse NumberFault PlainArgument
after_field default n on more = mapped (plain n) (one_integer Absolute (chosen n default) on more)

module _ (default : ℕ) (lo : 1 ≤ default) (hi : default ≤ 14) where
  -- an argument is read back, whatever follows
  pub argument_back : (at : ℕ) (a : PlainArgument) (rest : List Bool) → Sound 0 a → one_argument default at (argument_code default a ++ rest) ≡ got a rest
  argument_back at a rest h =
      let cl = chosen a.length default in
      let l = chosen_lawful a.length default h.0 lo hi in
      ap (carried Number)
      (followed_back one_length_field (after_field default) at (field_code a.length) (integer_code Absolute cl a.value) rest a.length a
      (λ more. field_back at a.length more h.0)
      (λ on. ap (mapped (plain a.length)) (integer_back Absolute cl on a.value rest l.0 l.1 h.1)))

  -- what is read is an argument
  pub argument_exact : (at : ℕ) (a : PlainArgument) (bits rest : List Bool) → one_argument default at bits ≡ got a rest → Sound 0 a × (bits ≡ argument_code default a ++ rest)
  argument_exact at a bits rest e =
      let f = followed_got at bits (one_length_field at bits) (after_field default) a rest (carried_got Number (followed at bits (one_length_field at bits) (after_field default)) a rest e) in
      let n = f.0 in
      let cl = chosen n default in
      let x = field_exact at n bits f.1 f.2 in
      let l = chosen_lawful n default x.0 lo hi in
      let m = mapped_got (plain n) (one_integer Absolute cl (onward at bits f.1) f.1) a rest f.3 in
      let y = integer_exact Absolute cl (onward at bits f.1) m.0 f.1 rest l.0 m.1 in
      rw m.2 ((x.0, y.0), x.1 ∙ ap (λ ys. field_code n ++ ys) y.1 ∙ sym (append_assoc (field_code n) (integer_code Absolute cl m.0) rest))

-- a natural number's code is hardly longer than the number
natural_short : (cl r : ℕ) → length (natural_code cl r) ≤ r + cl
natural_short cl r = omega (arith, length_natural cl r, natural_near cl r)

-- so is the code of an integer
absolute_short : (cl : ℕ) (v : ℤ) → length (absolute_code cl v) ≤ unsigned_abs v + 2 * cl + 1
unfolding absolute_code
absolute_short cl (negsuc n) = omega (arith, length_escaped cl n false, natural_short cl n)
absolute_short cl (pos n) =
    ⊎_elim
    (λ (lt : n < largest cl). rw (lt-ltb n (largest cl) lt) (omega (arith, length_fixed cl n)))
    (λ (le : largest cl ≤ n). rw (le-ltb n (largest cl) le) (omega (arith, length_escaped cl (n - largest cl) true, natural_short cl (n - largest cl))))
    (cases_lt n (largest cl))

in_range_small : (v : ℤ) → in_range v ≡ true → unsigned_abs (v +ℤ pos 0) ≤ 1048576
in_range_small (pos n) h = let l = ltb-true n 1048576 h in omega (arith, ints)
in_range_small (negsuc n) h = let l = ltb-true n 1048576 h in omega (arith, ints)

length_field : (n : ℕ) → length (field_code n) ≤ 5
length_field zero = omega arith
length_field (suc n) = omega arith

-- no lawful argument is longer than this
pub argument_short : (default : ℕ) (a : PlainArgument) → 1 ≤ default → default ≤ 14 → Sound 0 a → length (argument_code default a) ≤ 1100000
argument_short default a lo hi h =
    let cl = chosen a.length default in
    let l = chosen_lawful a.length default h.0 lo hi in
    omega (arith, length-append (field_code a.length) (integer_code Absolute cl a.value), length_field a.length, absolute_short cl (a.value +ℤ pos 0), in_range_small a.value h.1)
