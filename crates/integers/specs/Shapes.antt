-- The two forms of an integer's code, for an inner call that both measuring and writing use.
use Rattle.std.specs.Prelude.{ℕ, Bool, List, ◌∷◌, ◌++◌}
use Rattle.bits.specs.Codes.{fixed}
use Rattle.integers.specs.declared.Shape.{Shape}
use Rattle.integers.specs.declared.Shape.TheVariants.{Single, Escaped}
use Rattle.naturals.specs.Naturals.{ones, natural_code}

abbrev pub shape_code : ℕ → Shape → List Bool
shape_code cl (Single n) = fixed cl n
shape_code cl (Escaped above n) = ones cl ++ (above ∷ natural_code cl n)
