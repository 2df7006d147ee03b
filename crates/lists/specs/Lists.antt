-- Lists of items of one kind.
use Rattle.std.specs.Prelude.{◌≡◌, ℕ, zero, suc, ◌≤◌, Bool, true, List, [], ◌∷◌, ◌++◌, length, Some, None, Option}
use Rattle.bits.specs.Stores.{Parse, got, refused, mapped}
use Rattle.items.specs.declared.faults.ListFault.{ListFault}
use Rattle.items.specs.declared.faults.ListFault.TheVariants.{Limit, Place}
use Rattle.items.specs.Kinds.{Kind, lawful}
use Rattle.items.specs.Sequences.{followed}

-- the bits of the items in order
abbrev pub items_bits : {R : Type 0} → Kind R → List R → List Bool
items_bits k [] = []
items_bits k (r ∷ rs) = k.code r ++ items_bits k rs

-- a list's bits: those of its items in order, then the end word's
abbrev pub list_bits : {R : Type 0} → Kind R → List R → List Bool
list_bits k rs = items_bits k rs ++ k.ending

-- a lawful list has lawful items only, in any number
abbrev pub LawfulList : {R : Type 0} → Kind R → List R → Type 0
LawfulList k [] = Unit {0}
LawfulList k (r ∷ rs) = (lawful k r ≡ true) × LawfulList k rs

-- a lawful list of at most so many items, for which there are places
abbrev pub LawfulWithin : {R : Type 0} → Kind R → ℕ → ℕ → List R → Type 0
LawfulWithin k limit places rs = LawfulList k rs × (length rs ≤ limit) × (length rs ≤ places)

-- no lawful list's bits are the beginning of a different lawful list's bits
abbrev pub PrefixFree : {R : Type 0} → Kind R → Type 0
PrefixFree {R} k = (xs ys : List R) (rest : List Bool) → LawfulList k xs → LawfulList k ys → list_bits k ys ≡ list_bits k xs ++ rest → xs ≡ ys

-- at the end word the list ends; after an item it goes on
abbrev pub goes_on : {R : Type 0} → (R → Parse ListFault (List R)) → List Bool → Option R → Parse ListFault (List R)
goes_on next rest (Some r) = next r
goes_on next rest None = got [] rest

-- A list whose first bit is at the position, of at most `limit` items, read into so many places. The item past the limit is refused once it is
-- read, and then one that has no place; both are told at the item's first bit.
unfoldable pub one_list : {R : Type 0} → Kind R → ℕ → ℕ → ℕ → List Bool → Parse ListFault (List R)
one_list k zero places position bits =
    followed position bits (k.parse position bits) (λ x at rest. goes_on (λ r. refused (Limit position)) rest x)
one_list k (suc limit) zero position bits =
    followed position bits (k.parse position bits) (λ x at rest. goes_on (λ r. refused (Place position)) rest x)
one_list k (suc limit) (suc places) position bits =
    followed position bits (k.parse position bits) (λ x at rest. goes_on (λ r. mapped (λ rs. r ∷ rs) (one_list k limit places at rest)) rest x)
