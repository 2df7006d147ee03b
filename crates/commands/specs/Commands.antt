-- The record of a command: its number, and eight values of which unused ones are 0.
use Rattle.std.specs.Prelude.{ℕ, suc, Bool, true, false, List, ◌++◌, take, replicate, ℤ, pos}
use Rattle.lengths.specs.declared.Mode.{Mode}
use Rattle.lengths.specs.declared.Mode.TheVariants.{Absolute, Relative}
use Rattle.commands.specs.declared.Command.{Command}
use Rattle.commands.specs.declared.Letter.{Letter}
use Rattle.commands.specs.declared.Letter.TheVariants.{MoveTo, LineTo, TwoLines, ThreeLines, FourLines, Horizontal, Vertical, Curve, SmoothCurve, Quadratic, SmoothQuadratic, Arc}

-- a command with its values, and 0 after them
abbrev pub command : ℕ → List ℤ → Command
command number values = record { number = number; values = take 8 (values ++ replicate 8 (pos 0)) }

-- the number of a capital's command
abbrev pub capital : Letter → ℕ
capital MoveTo = 0
capital LineTo = 2
capital TwoLines = 4
capital ThreeLines = 6
capital FourLines = 8
capital Horizontal = 10
capital Vertical = 12
capital Curve = 15
capital SmoothCurve = 17
capital Quadratic = 19
capital SmoothQuadratic = 21
capital Arc = 23

-- the number of a capital's command, or of its small letter's, which comes next
abbrev pub in_mode : Mode → ℕ → ℕ
in_mode Absolute number = number
in_mode Relative number = suc number

-- a flag as a value
abbrev pub flag : Bool → ℤ
flag true = pos 1
flag false = pos 0
