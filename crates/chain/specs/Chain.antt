-- The chain: blocks of 32 bytes, each with the index of the next one in its first two bytes and 240 bits in the others.
use Rattle.std.specs.Prelude.{◌≡◌, ℕ, zero, suc, ◌+◌, ◌*◌, ◌/◌, ◌%◌, ◌<◌, ◌≤◌, Bool, List, length, Ok, Err, Result, ◌≢◌, slice_index}
use Rattle.layout.specs.declared.LayoutFault.{LayoutFault}
use Rattle.layout.specs.declared.LayoutFault.TheVariants.{Size, Links, Held}
use Rattle.layout.specs.Layout.{stored, Memory, Kept}

-- the index in the first two bytes of a block
abbrev pub link : List ℕ → ℕ → ℕ
link bytes block = slice_index bytes (32 * block) * 256 + slice_index bytes (32 * block + 1)

-- the index that is met after k links
abbrev pub met : List ℕ → ℕ → ℕ → ℕ
met bytes first zero = first
met bytes first (suc k) = link bytes (met bytes first k)

-- n indices are met before the closing zero, and each is of a block inside
abbrev pub Linked : List ℕ → ℕ → ℕ → Type 0
Linked bytes first n = ((k : ℕ) → k < n → (0 < met bytes first k) × (met bytes first k < length bytes / 32)) × (met bytes first n ≡ 0)

-- no block is met twice
abbrev pub Apart : List ℕ → ℕ → ℕ → Type 0
Apart bytes first n = (j k : ℕ) → j < k → k < n → met bytes first j ≢ met bytes first k

-- a chain of n blocks: each index before the closing zero is inside, the index after the last is zero, and no block is met twice
abbrev pub Chained : List ℕ → ℕ → ℕ → Type 0
Chained bytes first n = Linked bytes first n × Apart bytes first n

-- where bit i of the chain stands among the bits of the bytes
abbrev pub spot : List ℕ → ℕ → ℕ → ℕ
spot bytes first i = 256 * met bytes first (i / 240) + (16 + i % 240)

-- the first n bits
abbrev pub chain_bits : List ℕ → ℕ → ℕ → List Bool
chain_bits bytes first n = stored (spot bytes first) bytes n

abbrev pub Allowed : ℕ → Type 0
Allowed size = (64 ≤ size) × (size ≤ 65536) × (size % 32 ≡ 0)

-- is the size allowed, is the chain laid, do the held bits fit: the capacity, or the fault of the first no
abbrev pub Checked : List ℕ → ℕ → ℕ → Result ℕ LayoutFault → Type 0
Checked bytes first held (Ok capacity) = Allowed (length bytes) × ((n : ℕ) × Chained bytes first n × (capacity ≡ 240 * n) × (held ≤ 240 * n))
Checked bytes first held (Err Size) = Allowed (length bytes) → ⊥
Checked bytes first held (Err Links) = Allowed (length bytes) × ((n : ℕ) → Chained bytes first n → ⊥)
Checked bytes first held (Err Held) = Allowed (length bytes) × ((n : ℕ) × Chained bytes first n × (240 * n < held))

-- the first index by the answer of the check: where it refuses, the closing zero
abbrev pub opens_at : ℕ → Result ℕ LayoutFault → ℕ
opens_at first (Ok capacity) = first
opens_at first (Err e) = 0

-- a sink over a chain: its memory, the first index and the number of blocks
pub record Place : Type 0 where
  pub memory : Memory
  pub first : ℕ
  pub count : ℕ

abbrev pub laid : Memory → ℕ → ℕ → Place
laid memory first count = record { memory = memory; first = first; count = count }

-- the same sink later: the chain has the same blocks, and every bit of the bytes but those put is as before, the links included
pub record ChainKept (s t : Place) : Type 0 where
  pub first : t.first ≡ s.first
  pub count : t.count ≡ s.count
  pub links : (k : ℕ) → met t.memory.bytes s.first k ≡ met s.memory.bytes s.first k
  pub memory : Kept (spot s.memory.bytes s.first) s.memory t.memory
