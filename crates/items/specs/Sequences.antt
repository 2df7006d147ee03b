-- Fields that are read one after the other.
use Rattle.std.specs.Prelude.{ℕ, zero, suc, ◌+◌, ◌-◌, Bool, true, false, cond, ◌&&◌, List, [], ◌∷◌, ◌++◌, length, take, replicate, ℤ, pos, negsuc, ◌==◌, nat_lt}
use Rattle.bits.specs.Stores.{Parse, got, refused, mapped, one_field}
use Rattle.lengths.specs.declared.faults.NumberFault.TheVariants.{Store}
use Rattle.items.specs.declared.faults.ListFault.{ListFault}
use Rattle.items.specs.declared.faults.ListFault.TheVariants.{Number}

-- where the bits after a field begin, if the field begins at the position
abbrev pub onward : ℕ → List Bool → List Bool → ℕ
onward position bits rest = position + (length bits - length rest)

-- a refusal from below is carried whole
abbrev pub carried : {E F A : Type 0} → (E → F) → Parse E A → Parse F A
carried carry (got a rest) = got a rest
carried carry (refused e) = refused (carry e)

-- a field of so many bits, in a list
abbrev pub one_number : ℕ → ℕ → List Bool → Parse ListFault ℕ
one_number width position bits = carried (λ e. Number (Store e)) (one_field width position bits)

-- a field of the bits at the position was read, and what follows it is read from there
abbrev pub followed : {E A B : Type 0} → ℕ → List Bool → Parse E A → (A → ℕ → List Bool → Parse E B) → Parse E B
followed position bits (got a rest) next = next a (onward position bits rest) rest
followed position bits (refused e) next = refused e

-- `count` fields, numbered from i on
abbrev pub in_turn : {E A : Type 0} → (ℕ → ℕ → List Bool → Parse E A) → ℕ → ℕ → ℕ → List Bool → Parse E (List A)
in_turn field i zero position bits = got [] bits
in_turn field i (suc count) position bits =
    followed position bits (field i position bits) (λ a at rest. mapped (λ vs. a ∷ vs) (in_turn field (suc i) count at rest))

-- the codes of values, numbered from i on
abbrev pub in_order : {A : Type 0} → (ℕ → A → List Bool) → ℕ → List A → List Bool
in_order code i [] = []
in_order code i (a ∷ vs) = code i a ++ in_order code (suc i) vs

-- of the values of a record, numbered from i on, the first n are lawful, and the others are not used
abbrev pub only_used : {A : Type 0} → (ℕ → A → Bool) → (A → Bool) → ℕ → ℕ → List A → Bool
only_used lawful idle n i [] = true
only_used lawful idle n i (a ∷ vs) = cond (nat_lt i n) (lawful i a) (idle a) && only_used lawful idle n (suc i) vs

-- values, and after them so many that are not used that there are `count` in all
abbrev pub filled_up : {A : Type 0} → A → ℕ → List A → List A
filled_up idle count vs = take count (vs ++ replicate count idle)

-- a value that is not used is 0
abbrev pub is_zero : ℤ → Bool
is_zero (pos n) = n == 0
is_zero (negsuc n) = false
