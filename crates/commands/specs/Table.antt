-- The commands in their fixed order, numbered 0 to 25. For each: its mode, how many values it has, where one-bit flags stand among them, and
-- the choice of a configuration that makes it available. The last one, DONE, is the end word.
use Rattle.std.specs.Prelude.{ℕ, List, [], ◌∷◌, Some, None, Option}
use Rattle.lengths.specs.declared.Mode.{Mode}
use Rattle.lengths.specs.declared.Mode.TheVariants.{Absolute, Relative}
use Rattle.commands.specs.declared.Entry.{Entry}
use Rattle.commands.specs.declared.Choice.{Choice}
use Rattle.commands.specs.declared.FlagPlaces.{FlagPlaces}
use Rattle.commands.specs.declared.Choice.TheVariants.{Move, Line, MoreLines, Horizontal, Vertical, Close, Curve, SmoothCurve, Quadratic, SmoothQuadratic, Arc, End}
use Rattle.commands.specs.declared.FlagPlaces.TheVariants.{Nowhere, FourthAndFifth}

abbrev capital : Option Mode
capital = Some Absolute

abbrev small : Option Mode
small = Some Relative

abbrev entry : Option Mode → ℕ → FlagPlaces → Choice → Entry
entry mode value_count flags choice = record { mode = mode; value_count = value_count; flags = flags; choice = choice }

abbrev pub done : Entry
done = entry None 0 Nowhere End

abbrev pub rows : List Entry
rows =
    entry capital 2 Nowhere Move  -- 0: M
    ∷ entry small 2 Nowhere Move  -- 1: m
    ∷ entry capital 2 Nowhere Line  -- 2: L1
    ∷ entry small 2 Nowhere Line  -- 3: l1
    ∷ entry capital 4 Nowhere MoreLines  -- 4: L2
    ∷ entry small 4 Nowhere MoreLines  -- 5: l2
    ∷ entry capital 6 Nowhere MoreLines  -- 6: L3
    ∷ entry small 6 Nowhere MoreLines  -- 7: l3
    ∷ entry capital 8 Nowhere MoreLines  -- 8: L4
    ∷ entry small 8 Nowhere MoreLines  -- 9: l4
    ∷ entry capital 1 Nowhere Horizontal  -- 10: H
    ∷ entry small 1 Nowhere Horizontal  -- 11: h
    ∷ entry capital 1 Nowhere Vertical  -- 12: V
    ∷ entry small 1 Nowhere Vertical  -- 13: v
    ∷ entry None 0 Nowhere Close  -- 14: Z
    ∷ entry capital 6 Nowhere Curve  -- 15: C
    ∷ entry small 6 Nowhere Curve  -- 16: c
    ∷ entry capital 4 Nowhere SmoothCurve  -- 17: S
    ∷ entry small 4 Nowhere SmoothCurve  -- 18: s
    ∷ entry capital 4 Nowhere Quadratic  -- 19: Q
    ∷ entry small 4 Nowhere Quadratic  -- 20: q
    ∷ entry capital 2 Nowhere SmoothQuadratic  -- 21: T
    ∷ entry small 2 Nowhere SmoothQuadratic  -- 22: t
    ∷ entry capital 7 FourthAndFifth Arc  -- 23: A
    ∷ entry small 7 FourthAndFifth Arc  -- 24: a
    ∷ done  -- 25: DONE
    ∷ []
