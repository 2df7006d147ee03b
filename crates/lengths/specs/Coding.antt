-- What writing and reading a number do, and what they promise of each other.
use Rattle.std.specs.Prelude.{◌≡◌, ℕ, ◌+◌, ◌<◌, ◌≤◌, Bool, true, false, List, ◌++◌, length, Ok, Err, Result}
use Rattle.bits.specs.declared.StoreFault.TheVariants.{Full}
use Rattle.bits.specs.Stores.{Content, HasRoom, appended, Tape, left, Parse, got, refused}
use Rattle.lengths.specs.declared.faults.WriteFault.{WriteFault}
use Rattle.lengths.specs.declared.faults.WriteFault.TheVariants.{Value, Store}

-- an answer with its value as a record has it
abbrev pub in_plain : {V P E : Type 0} → (V → P) → Result V E → Result P E
in_plain plain (Ok v) = Ok (plain v)
in_plain plain (Err e) = Err e

-- The law of a code: the bits of a lawful value, with any bits after them, are read as that value and leave exactly the bits after; from any
-- bits a lawful value is read, whose bits are exactly those taken, or reading is refused.
pub record CodeLaw {E A : Type 0} (lawful : A → Bool) (code : A → List Bool) (parse : ℕ → List Bool → Parse E A) : Type 0 where
  pub back : (at : ℕ) (v : A) (rest : List Bool) → lawful v ≡ true → parse at (code v ++ rest) ≡ got v rest
  pub exact : (at : ℕ) (v : A) (bits rest : List Bool) → parse at bits ≡ got v rest → (lawful v ≡ true) × (bits ≡ code v ++ rest)

-- the code goes to the end of the sink, and the answer is its length; a value out of range is refused first, and then want of room,
-- and the sink stays as it is
abbrev pub Wrote : Bool → List Bool → Content → Result ℕ WriteFault → Content → Type 0
Wrote lawful code s (Ok n) t =
    (lawful ≡ true) × (n ≡ length code) × HasRoom s code × (t ≡ appended s code)
Wrote lawful code s (Err Value) t = (lawful ≡ false) × (t ≡ s)
Wrote lawful code s (Err (Store e)) t =
    (lawful ≡ true) × (s.capacity < length s.bits + length code) × (e ≡ Full (length s.bits)) × (t ≡ s)

-- A call that reads is faithful to a code: the bits of a lawful value, with any bits after them, give that value and leave exactly the bits
-- after; what is accepted is lawful, and the bits taken are exactly its code; so no lawful value's bits begin another's.
pub record Faithful {E A : Type 0} (code : A → List Bool) (Lawful : A → Type 0) (s : Tape) (r : Result A E) (t : Tape) : Type 0 where
  pub back : (v : A) (rest : List Bool) → Lawful v → left s ≡ code v ++ rest → (r ≡ Ok v) × (left t ≡ rest)
  pub exact : (v : A) → r ≡ Ok v → Lawful v × (left s ≡ code v ++ left t)
  pub alone : (v w : A) (more rest : List Bool) → Lawful v → Lawful w → code v ++ more ≡ code w ++ rest → (v ≡ w) × (more ≡ rest)

-- For inner calls, which read a part of a field: as `ReadAs`, but a refusal may leave the source further on.
abbrev pub PartAs : {E A : Type 0} → Parse E A → Tape → Result A E → Tape → Type 0
PartAs (got a rest) s r t = (r ≡ Ok a) × (t.bits ≡ s.bits) × (left t ≡ rest) × (s.position ≤ t.position)
PartAs (refused e) s r t = (r ≡ Err e) × (t.bits ≡ s.bits) × (s.position ≤ t.position)

-- an inner call reads in this way from the position on
abbrev pub Takes : {E A : Type 0} → (ℕ → List Bool → Parse E A) → Tape → Result A E → Tape → Type 0
Takes parse s r t = PartAs (parse s.position (left s)) s r t
