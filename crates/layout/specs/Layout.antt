-- Bits in bytes, the most significant of each byte first.
use Rattle.std.specs.Prelude.{◌≡◌, ℕ, ◌-◌, ◌/◌, ◌%◌, ◌<◌, ◌≤◌, Bool, cond, List, [], map, length, Ok, Err, Result, ◌==◌, ◌≢◌, slice_index}
use Rattle.std.specs.List.{range_with_len}
use Rattle.bits.specs.Codes.{bit}
use Rattle.bits.specs.Stores.{Content, Tape}
use Rattle.layout.specs.declared.LayoutFault.{LayoutFault}
use Rattle.layout.specs.declared.LayoutFault.TheVariants.{Size, Links, Held}

-- bit j of the bytes
abbrev pub bit_at : List ℕ → ℕ → Bool
bit_at bytes j = bit (7 - j % 8) (slice_index bytes (j / 8))

-- the first n bits of a store whose bit i stands at the place `spot i` among the bits of the bytes
abbrev pub stored : (ℕ → ℕ) → List ℕ → ℕ → List Bool
stored spot bytes n = map (λ i. bit_at bytes (spot i)) (range_with_len 0 n)

-- the byte with b at a place, counted from the most significant bit, and every other bit as before
abbrev pub SetBit : ℕ → ℕ → Bool → ℕ → Type 0
SetBit byte place b after = (k : ℕ) → k < 8 → bit k after ≡ cond (k == 7 - place) b (bit k byte)

-- a sink and a source by their parts
abbrev pub holding : List Bool → ℕ → Content
holding bits capacity = record { bits = bits; capacity = capacity }

abbrev pub reading : List Bool → ℕ → Tape
reading bits position = record { bits = bits; position = position }

-- lent memory: which it is, its bytes, and how many bits of a store are held there
pub record Memory : Type 0 where
  pub name : ℕ
  pub bytes : List ℕ
  pub held : ℕ

abbrev pub lent : ℕ → List ℕ → ℕ → Memory
lent name bytes held = record { name = name; bytes = bytes; held = held }

-- the same memory later: bits were put at the end of those held, and every other bit of the bytes is as before
pub record Kept (spot : ℕ → ℕ) (s t : Memory) : Type 0 where
  pub name : t.name ≡ s.name
  pub size : length t.bytes ≡ length s.bytes
  pub grows : s.held ≤ t.held
  pub rest : (j : ℕ) → ((i : ℕ) → s.held ≤ i → i < t.held → j ≢ spot i) → bit_at t.bytes j ≡ bit_at s.bytes j

-- what a store means by the answer of its check, a capacity or a fault: one that is refused has no bits and no room
abbrev pub opened : List Bool → Result ℕ LayoutFault → Content
opened held (Ok capacity) = holding held capacity
opened held (Err e) = holding [] 0

-- the refusal number of a fault
abbrev pub layout_number : LayoutFault → ℕ
layout_number Size = 5
layout_number Links = 6
layout_number Held = 7
