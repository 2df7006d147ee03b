-- What a list over lent places holds.
use Rattle.std.specs.Prelude.{◌≡◌, ℕ, ◌+◌, ◌<◌, ◌≤◌, List as Row, ◌++◌, length, take, drop, Ok, Err, Result, slice_set}
use Rattle.items.specs.declared.list.List.{List}

-- all places, and how many of them, from the first on, hold an item
pub record Places (T : Type 0) : Type 0 where
  pub all : Row T
  pub count : ℕ

abbrev pub places_of : {T : Type 0} → List T → Places T
places_of l = record { all = l.places.now; count = l.count }

abbrev pub items_of : {T : Type 0} → Places T → Row T
items_of p = take p.count p.all

-- items from the first place on; the places after them stay
abbrev pub filled : {T : Type 0} → Places T → Row T → Places T
filled p items = record { all = items ++ drop (length items) p.all; count = length items }

-- an item more goes to the next place; where there is none, the list stays as it is and the item comes back
abbrev pub Pushed : {T U : Type 0} → Places T → T → Result U T → Places T → Type 0
Pushed p item (Ok _) q = (p.count < length p.all) × (q ≡ record { all = slice_set p.all p.count item; count = p.count + 1 })
Pushed p item (Err back) q = (length p.all ≤ p.count) × (back ≡ item) × (q ≡ p)

-- a list that was read holds just the items that were read, and answers their count; otherwise it stays as it is
abbrev pub Filled : {T E : Type 0} → Places T → Result ℕ E → Places T → Type 0
Filled p (Ok n) q = (n ≤ length p.all) × (q.count ≡ n) × (length q.all ≡ length p.all) × (drop n q.all ≡ drop n p.all)
Filled p (Err e) q = q ≡ p

-- the items that a list holds after an answer
abbrev pub held_by : {T E : Type 0} → Result ℕ E → Places T → Result (Row T) E
held_by (Ok n) p = Ok (items_of p)
held_by (Err e) p = Err e
