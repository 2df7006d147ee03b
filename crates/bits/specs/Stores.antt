-- What a sink and a source mean, and what each call does to them.
use Rattle.std.specs.Prelude.{◌≡◌, ℕ, ◌+◌, ◌%◌, ◌^◌, ◌<◌, ◌≤◌, Bool, true, false, cond, List, [], ◌∷◌, ◌++◌, length, take, drop, Ok, Err, Result, nat_lt}
use Rattle.bits.specs.declared.StoreFault.{StoreFault}
use Rattle.bits.specs.declared.StoreFault.TheVariants.{Full, End, Ahead}
use Rattle.bits.specs.Codes.{number}

-- a sink: the bits that it holds, and how many it can hold
pub record Content : Type 0 where
  pub bits : List Bool
  pub capacity : ℕ

-- there is room for more bits
abbrev pub HasRoom : Content → List Bool → Type 0
HasRoom s more = length s.bits + length more ≤ s.capacity

-- the sink with more bits after those held
abbrev pub appended : Content → List Bool → Content
appended s more = record { bits = s.bits ++ more; capacity = s.capacity }

-- `more` goes to the end of the bits held if there is room for all of it; otherwise the sink is full and stays as it is
abbrev pub Put : {U : Type 0} → Content → List Bool → Result U StoreFault → Content → Type 0
Put s more (Ok _) t = HasRoom s more × (t ≡ appended s more)
Put s more (Err e) t = (s.capacity < length s.bits + length more) × (e ≡ Full (length s.bits)) × (t ≡ s)

-- is there room for `count` bits more?
abbrev pub Room : {U : Type 0} → Content → ℕ → Result U StoreFault → Type 0
Room s count (Ok _) = length s.bits + count ≤ s.capacity
Room s count (Err e) = (s.capacity < length s.bits + count) × (e ≡ Full (length s.bits))

-- a source: bits that never change, and the position of the next one
pub record Tape : Type 0 where
  pub bits : List Bool
  pub position : ℕ

-- the bits from the position on
abbrev pub left : Tape → List Bool
left t = drop t.position t.bits

-- what reading makes of bits: a value and the bits after it, or a refusal
pub data Parse (E A : Type 0) : Type 0 where
  got : A → List Bool → Parse E A
  refused : E → Parse E A

-- a value that is read, as another
abbrev pub mapped : {E A B : Type 0} → (A → B) → Parse E A → Parse E B
mapped f (got a rest) = got (f a) rest
mapped f (refused e) = refused e

-- a call that reads answers with the value and stands at the bits after it; or it answers with the refusal and the source stays as it is
abbrev pub ReadAs : {E A : Type 0} → Parse E A → Tape → Result A E → Tape → Type 0
ReadAs (got a rest) s r t = (r ≡ Ok a) × (t.bits ≡ s.bits) × (left t ≡ rest) × (t.position + length rest ≡ length s.bits)
ReadAs (refused e) s r t = (r ≡ Err e) × (t ≡ s)

-- a call reads in this way from the position on
abbrev pub Reads : {E A : Type 0} → (ℕ → List Bool → Parse E A) → Tape → Result A E → Tape → Type 0
Reads parse s r t = ReadAs (parse s.position (left s)) s r t

-- the next bit
abbrev pub one_bit : ℕ → List Bool → Parse StoreFault Bool
one_bit position [] = refused (End position)
one_bit position (b ∷ bs) = got b bs

-- the next `width` bits as a number, of which the low 32 bits count
abbrev pub one_field : ℕ → ℕ → List Bool → Parse StoreFault ℕ
one_field width position bits = cond (nat_lt (length bits) width) (refused (End position)) (got (number (take width bits) % 2 ^ 32) (drop width bits))

-- the source goes back to a place at or before its position; any other place is ahead, and the source stays as it is
abbrev pub Back : {U : Type 0} → Tape → ℕ → Result U StoreFault → Tape → Type 0
Back s to (Ok _) t = (to ≤ s.position) × (t ≡ record { bits = s.bits; position = to })
Back s to (Err e) t = (s.position < to) × (e ≡ Ahead s.position) × (t ≡ s)

-- after a call that did not read to its end, the source goes back to where it began
abbrev pub returned : Bool → ℕ → Tape → Tape
returned true start t = t
returned false start t = record { bits = t.bits; position = start }
