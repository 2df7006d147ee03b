-- Texts of 0, 1 and blanks, and the bits that they write.
use Rattle.std.specs.Prelude.{◌≡◌, ℕ, ◌==◌, Bool, not, List, map, filter, drop}
use Rattle.bits.specs.Stores.{Tape, left}

-- the bits of a text: a blank (32) is none, '1' (49) is a bit that is set, and any other byte is one that is not
abbrev pub bits_of : List ℕ → List Bool
bits_of text = map (λ letter. letter == 49) (filter (λ letter. not (letter == 32)) text)

-- a source with the same bits, and `count` of them further on, or at its end where there are fewer
abbrev pub Passed : ℕ → Tape → Tape → Type 0
Passed count s t = (t.bits ≡ s.bits) × (left t ≡ drop count (left s))
