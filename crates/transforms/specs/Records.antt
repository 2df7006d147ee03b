-- The record of a transform: its type, its optional mark and its arguments. Types: translate 0, rotate 1, scale 2, matrix 3, skewX 4, skewY 5.
use Rattle.std.specs.Prelude.{ℕ, zero, suc, Bool, ◌&&◌, List, [], ◌∷◌, ℤ, pos, Some, None, Option, ◌==◌, nat_lt, slice_index_or}
use Rattle.items.specs.Sequences.{filled_up, is_zero}
use Rattle.transforms.specs.declared.steps.Argument.{Argument}
use Rattle.transforms.specs.declared.steps.SpatialSteps.{SpatialSteps}
use Rattle.transforms.specs.declared.steps.ScaleSteps.{ScaleSteps}
use Rattle.transforms.specs.declared.steps.AngleSteps.{AngleSteps}
use Rattle.transforms.specs.declared.steps.PlainArgument.{PlainArgument}
use Rattle.transforms.specs.declared.steps.Transform.{Transform}

-- an argument as it is coded
abbrev pub plain : ℕ → ℤ → PlainArgument
plain length value = record { length = length; value = value }

abbrev pub unused : PlainArgument
unused = plain 0 (pos 0)

-- 0, with no length sent
abbrev pub is_unused : PlainArgument → Bool
is_unused a = a.length == 0 && is_zero a.value

-- a unit: so many of its steps, and how many steps they are
pub record StepUnit (Steps : Type 0) : Type 0 where
  pub steps_of : ℤ → Steps
  pub count_of : Steps → ℤ

abbrev pub spatial : StepUnit SpatialSteps
spatial = record { steps_of = λ count. record { steps = count }; count_of = λ it. it.steps }

abbrev pub scale : StepUnit ScaleSteps
scale = record { steps_of = λ count. record { steps = count }; count_of = λ it. it.steps }

abbrev pub angular : StepUnit AngleSteps
angular = record { steps_of = λ count. record { steps = count }; count_of = λ it. it.steps }

-- an argument without its unit, and with it
abbrev pub without_unit : {Steps : Type 0} → StepUnit Steps → Argument Steps → PlainArgument
without_unit unit a = plain a.length (unit.count_of a.value)

abbrev pub with_unit : {Steps : Type 0} → StepUnit Steps → PlainArgument → Argument Steps
with_unit unit p = record { length = p.length; value = unit.steps_of p.value }

-- the first three types have a mark that says whether the optional arguments follow
abbrev pub marked : ℕ → Bool
marked kind = nat_lt kind 3

-- how many arguments follow the first one
abbrev pub following : ℕ → ℕ → ℕ
following zero zero = 0
following zero (suc mark) = 1
following (suc zero) zero = 0
following (suc zero) (suc mark) = 2
following (suc (suc zero)) zero = 0
following (suc (suc zero)) (suc mark) = 1
following (suc (suc (suc zero))) mark = 5
following (suc (suc (suc (suc kind)))) mark = 0

-- the arguments that a type may have, in the order in which they are coded: tx, ty; the angle, cx, cy; sx, sy; a to f; the angle
abbrev pub own_of : ℕ → Transform → List PlainArgument
own_of zero r = without_unit spatial r.x ∷ without_unit spatial r.y ∷ []
own_of (suc zero) r = without_unit angular r.angle ∷ without_unit spatial r.x ∷ without_unit spatial r.y ∷ []
own_of (suc (suc zero)) r = without_unit scale r.a ∷ without_unit scale r.b ∷ []
own_of (suc (suc (suc zero))) r =
    without_unit scale r.a ∷ without_unit scale r.b ∷ without_unit scale r.c ∷ without_unit scale r.d ∷ without_unit spatial r.x ∷ without_unit spatial r.y ∷ []
own_of (suc (suc (suc (suc kind)))) r = without_unit angular r.angle ∷ []

-- the others
abbrev pub others_of : ℕ → Transform → List PlainArgument
others_of zero r = without_unit angular r.angle ∷ without_unit scale r.a ∷ without_unit scale r.b ∷ without_unit scale r.c ∷ without_unit scale r.d ∷ []
others_of (suc zero) r = without_unit scale r.a ∷ without_unit scale r.b ∷ without_unit scale r.c ∷ without_unit scale r.d ∷ []
others_of (suc (suc zero)) r = without_unit angular r.angle ∷ without_unit scale r.c ∷ without_unit scale r.d ∷ without_unit spatial r.x ∷ without_unit spatial r.y ∷ []
others_of (suc (suc (suc zero))) r = without_unit angular r.angle ∷ []
others_of (suc (suc (suc (suc kind)))) r =
    without_unit scale r.a ∷ without_unit scale r.b ∷ without_unit scale r.c ∷ without_unit scale r.d ∷ without_unit spatial r.x ∷ without_unit spatial r.y ∷ []

-- six arguments: those that the type may have, and unused ones after them
abbrev pub six_of : Transform → List PlainArgument
six_of r = filled_up unused 6 (own_of r.kind r)

-- six more: those that the type never has, and unused ones after them
abbrev pub other_six : Transform → List PlainArgument
other_six r = filled_up unused 6 (others_of r.kind r)

-- a record by its arguments in the order angle, a, b, c, d, x, y
abbrev pub built : ℕ → ℕ → PlainArgument → PlainArgument → PlainArgument → PlainArgument → PlainArgument → PlainArgument → PlainArgument → Transform
built kind mark angle a b c d x y =
    record { kind = kind; mark = mark; angle = with_unit angular angle; a = with_unit scale a; b = with_unit scale b; c = with_unit scale c; d = with_unit scale d; x = with_unit spatial x; y = with_unit spatial y }

-- the record of a type with its arguments in the order in which they are coded
abbrev pub placed : ℕ → ℕ → List PlainArgument → Transform
placed zero mark args = built 0 mark unused unused unused unused unused (slice_index_or args 0 unused) (slice_index_or args 1 unused)
placed (suc zero) mark args = built 1 mark (slice_index_or args 0 unused) unused unused unused unused (slice_index_or args 1 unused) (slice_index_or args 2 unused)
placed (suc (suc zero)) mark args = built 2 mark unused (slice_index_or args 0 unused) (slice_index_or args 1 unused) unused unused unused unused
placed (suc (suc (suc zero))) mark args =
    built 3 mark unused (slice_index_or args 0 unused) (slice_index_or args 1 unused) (slice_index_or args 2 unused) (slice_index_or args 3 unused) (slice_index_or args 4 unused) (slice_index_or args 5 unused)
placed (suc (suc (suc (suc kind)))) mark args = built (suc (suc (suc (suc kind)))) mark (slice_index_or args 0 unused) unused unused unused unused unused unused

-- the mark of an optional argument, and the argument
abbrev pub mark_of : {A : Type 0} → Option A → ℕ
mark_of (Some a) = 1
mark_of None = 0

abbrev pub if_any : {A : Type 0} → (A → List PlainArgument) → Option A → List PlainArgument
if_any f (Some a) = f a
if_any f None = []
