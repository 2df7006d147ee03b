-- Transforms as a kind of item: a word of seven, an argument, for the first three types the mark, and the arguments that follow.
use Rattle.std.specs.Prelude.{ℕ, suc, Bool, cond, ◌&&◌, List, [], ◌∷◌, ◌++◌, take, drop, Some, None, Option, ◌==◌, nat_le, nat_lt, slice_index_or}
use Rattle.std.specs.List.{list_all}
use Rattle.bits.specs.Codes.{fixed}
use Rattle.bits.specs.Stores.{Parse, got, mapped}
use Rattle.lengths.specs.declared.Defaults.{Defaults}
use Rattle.lengths.specs.declared.Mode.TheVariants.{Absolute}
use Rattle.lengths.specs.Fields.{chosen, field_code, one_length_field}
use Rattle.integers.specs.Integers.{in_range, integer_code, one_integer}
use Rattle.words.specs.Words.{word, one_word}
use Rattle.items.specs.declared.faults.ListFault.{ListFault}
use Rattle.items.specs.declared.faults.ListFault.TheVariants.{Number}
use Rattle.items.specs.Kinds.{Asked, Kind}
use Rattle.items.specs.Sequences.{carried, one_number, followed, in_turn, in_order, only_used}
use Rattle.transforms.specs.declared.steps.PlainArgument.{PlainArgument}
use Rattle.transforms.specs.declared.steps.Transform.{Transform}
use Rattle.transforms.specs.Records.{plain, unused, is_unused, marked, following, six_of, other_six, placed}

-- an argument: a length field with the absolute default, and an integer in absolute mode
abbrev pub argument_code : ℕ → PlainArgument → List Bool
argument_code default a = field_code a.length ++ integer_code Absolute (chosen a.length default) a.value

abbrev pub one_argument : ℕ → ℕ → List Bool → Parse ListFault PlainArgument
one_argument default at bits =
    carried Number (followed at bits (one_length_field at bits) (λ length on rest. mapped (plain length) (one_integer Absolute (chosen length default) on rest)))

-- how many arguments a record has
abbrev pub used_by : Transform → ℕ
used_by r = suc (following r.kind r.mark)

-- the arguments that a record has
abbrev pub arguments_of : Transform → List PlainArgument
arguments_of r = take (used_by r) (six_of r)

abbrev pub length_lawful : PlainArgument → Bool
length_lawful a = nat_le a.length 14

-- each argument's length is lawful (13)
abbrev pub lengths_lawful : List PlainArgument → Bool
lengths_lawful = list_all length_lawful

-- the value of an argument is in range
abbrev pub argument_lawful : ℕ → PlainArgument → Bool
argument_lawful i a = in_range a.value

-- the mark is 0 or 1, and 0 where the type has none
abbrev pub mark_lawful : Transform → Bool
mark_lawful r = nat_lt r.mark (cond (marked r.kind) 2 1)

-- values in range, and unused ones 0 (15)
abbrev pub values_lawful : Transform → Bool
values_lawful r =
    mark_lawful r && (only_used argument_lawful is_unused (used_by r) 0 (six_of r) && only_used argument_lawful is_unused 0 0 (other_six r))

abbrev pub transform_asked : Transform → Asked
transform_asked r =
    record { lengths = lengths_lawful (six_of r) && lengths_lawful (other_six r); available = nat_lt r.kind 6; values = values_lawful r }

abbrev pub mark_code : ℕ → ℕ → List Bool
mark_code kind mark = cond (marked kind) (fixed 1 mark) []

abbrev pub one_mark : ℕ → ℕ → List Bool → Parse ListFault ℕ
one_mark kind at bits = cond (marked kind) (one_number 1 at bits) (got 0 bits)

abbrev pub transform_code : ℕ → Transform → List Bool
transform_code default r =
    word 7 r.kind
    ++ (argument_code default (slice_index_or (six_of r) 0 unused)
    ++ (mark_code r.kind r.mark ++ in_order (λ i. argument_code default) 1 (drop 1 (arguments_of r))))

-- the arguments after the first one and the mark
abbrev pub one_rest : ℕ → ℕ → PlainArgument → ℕ → ℕ → List Bool → Parse ListFault (Option Transform)
one_rest default kind first mark at bits =
    mapped (λ rest. Some (placed kind mark (first ∷ rest))) (in_turn (λ i. one_argument default) 1 (following kind mark) at bits)

-- a transform of the type
abbrev pub one_of_type : ℕ → ℕ → ℕ → List Bool → Parse ListFault (Option Transform)
one_of_type default kind at bits =
    followed at bits (one_argument default at bits)
    (λ first on rest. followed on rest (one_mark kind on rest) (one_rest default kind first))

-- word 6 is the end word
abbrev pub one_transform : ℕ → ℕ → List Bool → Parse ListFault (Option Transform)
one_transform default at bits =
    followed at bits (carried Number (one_word 7 at bits)) (λ kind on rest. cond (kind == 6) (got None rest) (one_of_type default kind on rest))

abbrev pub transforms : Defaults → Kind Transform
transforms c =
    record { asked = transform_asked; code = transform_code c.absolute.bits; ending = word 7 6; parse = one_transform c.absolute.bits }
