-- The types of transforms, and the numbers that stand for them.
use Rattle.std.specs.Prelude.{◌≡◌, ℕ, ◌<◌, Result, MatchResult}
use Rattle.transforms.specs.declared.types.TransformType.{TransformType}
use Rattle.transforms.specs.declared.types.TransformType.TheVariants.{Translate, Rotate, Scale, Matrix, SkewX, SkewY}
use Rattle.transforms.specs.declared.types.UnknownType.{UnknownType}

-- the number that stands for a type
abbrev pub number_of : TransformType → ℕ
number_of Translate = 0
number_of Rotate = 1
number_of Scale = 2
number_of Matrix = 3
number_of SkewX = 4
number_of SkewY = 5

-- the type for which a number stands, or an error where it stands for none
abbrev pub Decodes : ℕ → Result TransformType UnknownType → Type 0
Decodes number r = MatchResult r (λ kind. number_of kind ≡ number) (λ e. (e.0 ≡ number) × (5 < number))
