-- The bits of corners: both coordinates of each, in the mode of the corner and at the default length of that mode.
use Rattle.std.specs.Prelude.{ℕ, Bool, List, [], ◌∷◌, ◌++◌}
use Rattle.lengths.specs.declared.Defaults.{Defaults}
use Rattle.lengths.specs.declared.Mode.{Mode}
use Rattle.lengths.specs.Lengths.{length_in}
use Rattle.integers.specs.Integers.{integer_code}
use Rattle.bracket.specs.declared.corners.Corner.{Corner}

abbrev pub default_length : Defaults → Mode → ℕ
default_length defaults mode = length_in defaults.absolute.bits defaults.relative.bits mode

abbrev pub corner_bits : Defaults → Corner → List Bool
corner_bits defaults c = integer_code c.mode (default_length defaults c.mode) c.x ++ integer_code c.mode (default_length defaults c.mode) c.y

abbrev pub corners_bits : Defaults → List Corner → List Bool
corners_bits defaults [] = []
corners_bits defaults (c ∷ cs) = corner_bits defaults c ++ corners_bits defaults cs
