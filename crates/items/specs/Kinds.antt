-- A kind of item: what is asked of an item, which bits it and the end word have, and how one is read; and the law that these keep.
use Rattle.std.specs.Prelude.{◌≡◌, ℕ, Bool, true, ◌&&◌, List, ◌++◌, Some, None, Option}
use Rattle.bits.specs.Stores.{Parse, got}
use Rattle.items.specs.declared.faults.ListFault.{ListFault}

-- the answers to what is asked of an item, in this order: is each of its lengths lawful (13)? is it available, and not the end word (14)?
-- are its values lawful (15)?
pub record Asked : Type 0 where
  pub lengths : Bool
  pub available : Bool
  pub values : Bool

abbrev pub all_yes : Asked → Bool
all_yes a = a.lengths && (a.available && a.values)

-- a kind under a configuration. Reading answers an item, or none at the end word.
pub record Kind (R : Type 0) : Type 0 where
  pub asked : R → Asked
  pub code : R → List Bool
  pub ending : List Bool
  pub parse : ℕ → List Bool → Parse ListFault (Option R)

abbrev pub lawful : {R : Type 0} → Kind R → R → Bool
lawful k r = all_yes (k.asked r)

-- an item that is lawful, or the end word
abbrev pub Lawful : {R : Type 0} → Kind R → Option R → Type 0
Lawful k (Some r) = lawful k r ≡ true
Lawful k None = Unit {0}

-- the bits of an item, or of the end word
abbrev pub spelled : {R : Type 0} → Kind R → Option R → List Bool
spelled k (Some r) = k.code r
spelled k None = k.ending

-- The item law, first half: the bits of a lawful item or of the end word, with any bits after them, are read as that and leave exactly the bits
-- after.
abbrev pub ReadBack : {R : Type 0} → Kind R → Type 0
ReadBack {R} k = (at : ℕ) (x : Option R) (rest : List Bool) → Lawful k x → k.parse at (spelled k x ++ rest) ≡ got x rest

-- The item law, second half: from any bits a lawful item or the end word is read, whose bits are exactly those taken, or reading is refused.
abbrev pub ReadExact : {R : Type 0} → Kind R → Type 0
ReadExact {R} k = (at : ℕ) (x : Option R) (bits rest : List Bool) → k.parse at bits ≡ got x rest → Lawful k x × (bits ≡ spelled k x ++ rest)
