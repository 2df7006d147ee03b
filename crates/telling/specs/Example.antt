-- The path of the worked example, M 64 42 l 1 5 M 88 42 l 1 5 M 76 48 L 76 45 M 73 55 h 7, and a list of transforms.
use Rattle.std.specs.Prelude.{ℕ, List, [], ◌∷◌, pos, negsuc, take, replicate}
use Rattle.commands.specs.declared.Command.{Command}
use Rattle.commands.specs.Commands.{command}
use Rattle.transforms.specs.declared.steps.Transform.{Transform}
use Rattle.transforms.specs.Records.{plain, placed}

-- by the numbers of the commands: M 0, L1 2, l1 3, h 11
abbrev pub worked_path : List Command
worked_path =
    command 0 (pos 64 ∷ pos 42 ∷ [])
    ∷ command 3 (pos 1 ∷ pos 5 ∷ [])
    ∷ command 0 (pos 88 ∷ pos 42 ∷ [])
    ∷ command 3 (pos 1 ∷ pos 5 ∷ [])
    ∷ command 0 (pos 76 ∷ pos 48 ∷ [])
    ∷ command 2 (pos 76 ∷ pos 45 ∷ [])
    ∷ command 0 (pos 73 ∷ pos 55 ∷ [])
    ∷ command 11 (pos 7 ∷ [])
    ∷ []

-- so many commands M 0 0, at most 4,097
abbrev pub moves : ℕ → List Command
moves count = take count (replicate 4097 (command 0 (pos 0 ∷ pos 0 ∷ [])))

-- rotate 45 76 48, scale 2, matrix 1 0 0 1 5 -3, each with its type and its mark
abbrev pub worked_transforms : List Transform
worked_transforms =
    placed 1 1 (plain 0 (pos 45) ∷ plain 0 (pos 76) ∷ plain 0 (pos 48) ∷ [])
    ∷ placed 2 0 (plain 0 (pos 2) ∷ [])
    ∷ placed 3 0 (plain 0 (pos 1) ∷ plain 0 (pos 0) ∷ plain 0 (pos 0) ∷ plain 0 (pos 1) ∷ plain 0 (pos 5) ∷ plain 0 (negsuc 2) ∷ [])
    ∷ []
