-- The length field: the bit 0 for the default length, or the bit 1 and four bits of the code length. Here 0 stands for the default.
use Rattle.std.specs.Prelude.{ℕ, zero, suc, Bool, true, false, cond, List, [], ◌∷◌, length, take, drop, Some, None, Option, nat_lt}
use Rattle.bits.specs.Codes.{fixed, number}
use Rattle.bits.specs.Stores.{Parse, got, refused}
use Rattle.bits.specs.declared.StoreFault.TheVariants.{End}
use Rattle.lengths.specs.declared.faults.NumberFault.{NumberFault}
use Rattle.lengths.specs.declared.faults.NumberFault.TheVariants.{Store, Length}
use Rattle.lengths.specs.declared.fields.LengthField.{LengthField}
use Rattle.lengths.specs.declared.CodeLength.{CodeLength}
use Rattle.lengths.specs.Lengths.{is_length}

-- the number of a field in a record: the length that it sends, or 0
abbrev pub length_or_zero : Option CodeLength → ℕ
length_or_zero (Some cl) = cl.bits
length_or_zero None = 0

abbrev pub sent_by : LengthField → ℕ
sent_by field = length_or_zero field.sent

-- the length in use, given the default
abbrev pub chosen : ℕ → ℕ → ℕ
chosen zero default = default
chosen (suc n) default = suc n

abbrev pub field_code : ℕ → List Bool
field_code zero = false ∷ []
field_code (suc n) = true ∷ fixed 4 (suc n)

-- a length that was sent at the position
abbrev pub sent_length : ℕ → ℕ → List Bool → Parse NumberFault ℕ
sent_length position n rest = cond (is_length n) (got n rest) (refused (Length position))

abbrev pub one_length_field : ℕ → List Bool → Parse NumberFault ℕ
one_length_field position [] = refused (Store (End position))
one_length_field position (false ∷ bs) = got 0 bs
one_length_field position (true ∷ bs) = cond (nat_lt (length bs) 4) (refused (Store (End position))) (sent_length position (number (take 4 bs)) (drop 4 bs))
