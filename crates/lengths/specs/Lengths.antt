-- Code lengths, from 1 to 14.
use Rattle.std.specs.Prelude.{◌≡◌, ℕ, ◌-◌, ◌^◌, Bool, true, false, ◌&&◌, nat_le}
use Rattle.lengths.specs.declared.DefaultsFault.{DefaultsFault}
use Rattle.lengths.specs.declared.DefaultsFault.TheVariants.{Absolute, Relative}
use Rattle.lengths.specs.declared.Mode.{Mode}
use Rattle.lengths.specs.declared.Mode.TheVariants as modes

abbrev pub is_length : ℕ → Bool
is_length n = nat_le 1 n && nat_le n 14

-- the number that a piece of all ones stands for
abbrev pub largest : ℕ → ℕ
largest cl = 2 ^ cl - 1

-- why a pair of default lengths is refused: the absolute one is asked first
abbrev pub Refuses : ℕ → ℕ → DefaultsFault → Type 0
Refuses absolute relative Absolute = is_length absolute ≡ false
Refuses absolute relative Relative = (is_length absolute ≡ true) × (is_length relative ≡ false)

-- the default length of a mode, of a pair
abbrev pub length_in : ℕ → ℕ → Mode → ℕ
length_in absolute relative modes.Absolute = absolute
length_in absolute relative modes.Relative = relative
