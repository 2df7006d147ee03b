-- Path commands as a kind of item: the word of the command among the available ones, and its values in its mode; a flag is one bit.
use Rattle.std.specs.Prelude.{ℕ, Bool, true, false, cond, ◌&&◌, ◌||◌, List, [], ◌∷◌, ◌++◌, length, take, ℤ, pos, negsuc, Some, None, Option, ◌==◌, nat_lt, slice_index_or}
use Rattle.bits.specs.Stores.{Parse, got, one_bit, mapped}
use Rattle.lengths.specs.declared.Mode.{Mode}
use Rattle.lengths.specs.declared.Mode.TheVariants.{Absolute, Relative}
use Rattle.lengths.specs.declared.faults.NumberFault.TheVariants.{Store}
use Rattle.lengths.specs.Fields.{chosen}
use Rattle.integers.specs.Integers.{in_range, integer_code, one_integer}
use Rattle.words.specs.Words.{word, one_word}
use Rattle.commands.specs.declared.Command.{Command}
use Rattle.commands.specs.declared.Entry.{Entry}
use Rattle.commands.specs.declared.FlagPlaces.{FlagPlaces}
use Rattle.commands.specs.declared.FlagPlaces.TheVariants.{Nowhere, FourthAndFifth}
use Rattle.commands.specs.Commands.{command, flag}
use Rattle.items.specs.declared.faults.ListFault.{ListFault}
use Rattle.items.specs.declared.faults.ListFault.TheVariants.{Number}
use Rattle.items.specs.Kinds.{Asked, Kind}
use Rattle.items.specs.Sequences.{carried, followed, in_turn, in_order, only_used, is_zero}
use Rattle.path_items.specs.declared.agreed.AgreedConfiguration.{AgreedConfiguration}
use Rattle.path_items.specs.declared.form.ValueForm.{ValueForm}
use Rattle.path_items.specs.declared.form.ValueForm.TheVariants.{Flag, Integer}
use Rattle.availability.specs.Available.{row_of, available, before, word_count, numbered}

-- the code length of a mode: the one that is sent, or the default
abbrev pub length_for : AgreedConfiguration → Mode → ℕ
length_for w Absolute = chosen w.configuration.fields.absolute w.defaults.absolute.bits
length_for w Relative = chosen w.configuration.fields.relative w.defaults.relative.bits

-- the mode of a command's values; one without a mode has none
abbrev pub mode_of : Option Mode → Mode
mode_of (Some mode) = mode
mode_of None = Absolute

-- is the value at the index a flag?
abbrev pub is_flag : FlagPlaces → ℕ → Bool
is_flag Nowhere i = false
is_flag FourthAndFifth i = i == 3 || i == 4

-- the form of the value at the index
abbrev pub form_of : Entry → ℕ → ValueForm
form_of e i = cond (is_flag e.flags i) Flag (Integer (mode_of e.mode))

-- 0 or 1
abbrev pub is_bit : ℤ → Bool
is_bit (pos n) = nat_lt n 2
is_bit (negsuc n) = false

abbrev pub is_one : ℤ → Bool
is_one (pos n) = n == 1
is_one (negsuc n) = false

-- a value of a form
abbrev pub form_lawful : ValueForm → ℤ → Bool
form_lawful Flag v = is_bit v
form_lawful (Integer mode) v = in_range v

abbrev pub form_code : AgreedConfiguration → ValueForm → ℤ → List Bool
form_code w Flag v = is_one v ∷ []
form_code w (Integer mode) v = integer_code mode (length_for w mode) v

abbrev pub one_form : AgreedConfiguration → ValueForm → ℕ → List Bool → Parse ListFault ℤ
one_form w Flag at bits = mapped flag (carried (λ f. Number (Store f)) (one_bit at bits))
one_form w (Integer mode) at bits = carried Number (one_integer mode (length_for w mode) at bits)

-- the value at the index
abbrev pub value_lawful : Entry → ℕ → ℤ → Bool
value_lawful e i v = form_lawful (form_of e i) v

abbrev pub value_code : AgreedConfiguration → Entry → ℕ → ℤ → List Bool
value_code w e i v = form_code w (form_of e i) v

abbrev pub one_value : AgreedConfiguration → Entry → ℕ → ℕ → List Bool → Parse ListFault ℤ
one_value w e i at bits = one_form w (form_of e i) at bits

-- eight values: those in use are lawful, and the others 0 (15)
abbrev pub values_lawful : Entry → List ℤ → Bool
values_lawful e vs = length vs == 8 && only_used (value_lawful e) is_zero e.value_count 0 vs

-- for each of the 26 commands whether it is available
abbrev pub available_in : AgreedConfiguration → List Bool
available_in w = available w.configuration.fields

-- available, and not DONE (14)
abbrev pub command_available : AgreedConfiguration → ℕ → Bool
command_available w n = nat_lt n 25 && slice_index_or (available_in w) n false

abbrev pub command_asked : AgreedConfiguration → Command → Asked
command_asked w r = record { lengths = true; available = command_available w r.number; values = values_lawful (row_of r.number) r.values }

abbrev pub word_for : AgreedConfiguration → ℕ → List Bool
word_for w number = word (word_count w.configuration.fields) (before (available_in w) number)

abbrev pub command_code : AgreedConfiguration → Command → List Bool
command_code w r =
    word_for w r.number ++ in_order (value_code w (row_of r.number)) 0 (take (row_of r.number).value_count r.values)

-- a command of the number, with its values; DONE is the end word
abbrev pub one_numbered : AgreedConfiguration → ℕ → ℕ → List Bool → Parse ListFault (Option Command)
one_numbered w n at bits =
    cond (n == 25) (got None bits) (mapped (λ vs. Some (command n vs)) (in_turn (one_value w (row_of n)) 0 (row_of n).value_count at bits))

abbrev pub one_command : AgreedConfiguration → ℕ → List Bool → Parse ListFault (Option Command)
one_command w at bits =
    followed at bits (carried Number (one_word (word_count w.configuration.fields) at bits)) (λ i on rest. one_numbered w (numbered (available_in w) i) on rest)

abbrev pub path_commands : AgreedConfiguration → Kind Command
path_commands w = record { asked = command_asked w; code = command_code w; ending = word_for w 25; parse = one_command w }
