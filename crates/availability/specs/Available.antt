-- Which commands are available under a configuration, and their word numbers, read from the table of commands.
use Rattle.std.specs.Prelude.{ℕ, zero, suc, ◌+◌, Bool, true, false, cond, not, ◌&&◌, ◌||◌, List, [], ◌∷◌, Some, None, Option, ◌==◌, slice_index_or}
use Rattle.bits.specs.Codes.{bit}
use Rattle.lengths.specs.declared.Mode.{Mode}
use Rattle.lengths.specs.declared.Mode.TheVariants.{Absolute, Relative}
use Rattle.commands.specs.declared.Entry.{Entry}
use Rattle.commands.specs.declared.Choice.{Choice}
use Rattle.commands.specs.declared.Choice.TheVariants.{Move, Line, MoreLines, Horizontal, Vertical, Close, Curve, SmoothCurve, Quadratic, SmoothQuadratic, Arc, End}
use Rattle.commands.specs.Table.{rows, done}
use Rattle.configurations.specs.declared.PathFields.{PathFields}
use Rattle.configurations.specs.Settings.{flagged, uses_absolute, uses_relative, sends_lines, sends_curves}

-- the table's row of a number
abbrev pub row_of : ℕ → Entry
row_of number = slice_index_or rows number done

-- L is there unless another choice of linetos is sent, and it is none
abbrev pub has_lines : PathFields → Bool
has_lines c = not (sends_lines c.flags) || not (c.lines == 0)

-- one of C, S, Q and T, by its bit of the four: 0 for available
abbrev pub has_curve : ℕ → PathFields → Bool
has_curve k c = sends_curves c.flags && not (bit k c.curves)

abbrev pub allowed : PathFields → Choice → Bool
allowed c Move = not (flagged 3 c.flags)
allowed c Line = has_lines c
allowed c MoreLines = has_lines c && not (flagged 5 c.flags)
allowed c Horizontal = sends_lines c.flags && (c.lines == 1 || c.lines == 3)
allowed c Vertical = sends_lines c.flags && (c.lines == 2 || c.lines == 3)
allowed c Close = not (flagged 2 c.flags)
allowed c Curve = has_curve 3 c
allowed c SmoothCurve = has_curve 2 c
allowed c Quadratic = has_curve 1 c
allowed c SmoothQuadratic = has_curve 0 c
allowed c Arc = not (flagged 7 c.flags)
allowed c End = true

-- a capital needs absolute values, a small letter relative ones
abbrev pub uses_mode : PathFields → Option Mode → Bool
uses_mode c (Some Absolute) = uses_absolute c.flags c.mode
uses_mode c (Some Relative) = uses_relative c.flags c.mode
uses_mode c None = true

abbrev pub is_available : PathFields → Entry → Bool
is_available c e = uses_mode c e.mode && allowed c e.choice

-- for each row of a table whether it is available
abbrev pub choose : PathFields → List Entry → List Bool
choose c [] = []
choose c (e ∷ es) = is_available c e ∷ choose c es

-- for each of the 26 commands whether it is available
unfoldable pub available : PathFields → List Bool
available c = choose c rows

-- how many of the first n are available: the word number of command n
abbrev pub before : List Bool → ℕ → ℕ
before av zero = 0
before [] (suc n) = 0
before (a ∷ av) (suc n) = cond a 1 0 + before av n

-- how many words there are: those of the available commands and of DONE
abbrev pub word_count : PathFields → ℕ
word_count c = before (available c) 26

-- the number of the available command that has a word number
abbrev pub numbered : List Bool → ℕ → ℕ
numbered [] i = 0
numbered (false ∷ av) i = suc (numbered av i)
numbered (true ∷ av) zero = 0
numbered (true ∷ av) (suc i) = suc (numbered av i)
