-- Commands under any fields and default lengths, lawful or not: theorems that stand for themselves; no proof of a call cites them.
-- The definitions are those that Paths has at an agreed configuration; a value goes by whether it is a flag, and not by its form.
use Rattle.std.proofs.Common.{◌≡◌, ℕ, ◌+◌, ◌<◌, Bool, true, false, cond, ◌&&◌, List, [], ◌∷◌, ◌++◌, length, get_or, take, ℤ, Some, None, Option, ◌==◌, ◌≢◌, nat_lt, slice_index_or, unsigned_abs, refl, sym, ap, ◌∙◌, length-append}
use Rattle.std.proofs.lemmas.Bool.{and_parts, and_from, eqb-true, eq-eqb, ltb-true, lt-ltb}
use Rattle.bits.specs.Codes.{bit}
use Rattle.bits.specs.Stores.{Parse, got, mapped}
use Rattle.lengths.specs.Fields.{chosen}
use Rattle.lengths.specs.declared.Defaults.{Defaults}
use Rattle.lengths.specs.declared.Mode.{Mode}
use Rattle.lengths.specs.declared.Mode.TheVariants.{Absolute, Relative}
use Rattle.integers.specs.Integers.{integer_code}
use Rattle.words.specs.Words.{word, one_word}
use Rattle.commands.specs.declared.Command.{Command}
use Rattle.commands.specs.declared.Entry.{Entry}
use Rattle.commands.specs.Commands.{command}
use Rattle.configurations.specs.declared.PathFields.{PathFields}
use Rattle.items.specs.declared.faults.ListFault.{ListFault}
use Rattle.items.specs.declared.faults.ListFault.TheVariants.{Number}
use Rattle.items.specs.Kinds.{Asked, Kind, lawful}
use Rattle.items.specs.Sequences.{carried, followed, in_turn, in_order, only_used, is_zero}
use Rattle.availability.specs.Available.{row_of, available, before, word_count, numbered}
use Rattle.path_items.specs.declared.agreed.AgreedConfiguration.{AgreedConfiguration}
use Rattle.path_items.specs.Paths.{length_for as agreed_length, mode_of, is_flag, value_lawful, value_code as agreed_code, values_lawful}
use Rattle.path_items.specs.ValueLaws.{code_as, one_as}
use Rattle.path_items.specs.CommandLaws.{numbered_by}
use Rattle.path_items.proofs.Writing.{parts_by}
use Rattle.path_items.proofs.Values.{Rowed, flag_as, lawful_by, code_by, rowed_by}

-- the code length of a mode: the one that is sent, or the default
abbrev pub length_for : PathFields → Defaults → Mode → ℕ
length_for c d Absolute = chosen c.absolute d.absolute.bits
length_for c d Relative = chosen c.relative d.relative.bits

-- the value at the index
abbrev pub value_code : PathFields → Defaults → Entry → ℕ → ℤ → List Bool
value_code c d e i v = code_as (is_flag e.flags i) (mode_of e.mode) (length_for c d (mode_of e.mode)) v

abbrev pub one_value : PathFields → Defaults → Entry → ℕ → ℕ → List Bool → Parse ListFault ℤ
one_value c d e i at bits = one_as (is_flag e.flags i) (mode_of e.mode) (length_for c d (mode_of e.mode)) at bits

-- at an agreed configuration a value's code is that of Paths
length_is : (w : AgreedConfiguration) (mode : Mode) → length_for w.configuration.fields w.defaults mode ≡ agreed_length w mode
length_is w Absolute = refl
length_is w Relative = refl

pub code_is : (w : AgreedConfiguration) (e : Entry) (i : ℕ) (v : ℤ) → value_code w.configuration.fields w.defaults e i v ≡ agreed_code w e i v
code_is w e i v =
    let mode = mode_of e.mode in
    ap (λ n. code_as (is_flag e.flags i) mode n v) (length_is w mode) ∙ code_by w (is_flag e.flags i) mode v

-- available, and not DONE
abbrev pub command_available : PathFields → ℕ → Bool
command_available c n = nat_lt n 25 && slice_index_or (available c) n false

abbrev pub command_asked : PathFields → Command → Asked
command_asked c r = record { lengths = true; available = command_available c r.number; values = values_lawful (row_of r.number) r.values }

abbrev pub word_for : PathFields → ℕ → List Bool
word_for c number = word (word_count c) (before (available c) number)

abbrev pub command_code : PathFields → Defaults → Command → List Bool
command_code c d r =
    word_for c r.number ++ in_order (value_code c d (row_of r.number)) 0 (take (row_of r.number).value_count r.values)

abbrev pub one_numbered : PathFields → Defaults → ℕ → ℕ → List Bool → Parse ListFault (Option Command)
one_numbered c d n at bits =
    cond (n == 25) (got None bits) (mapped (λ vs. Some (command n vs)) (in_turn (one_value c d (row_of n)) 0 (row_of n).value_count at bits))

abbrev pub one_command : PathFields → Defaults → ℕ → List Bool → Parse ListFault (Option Command)
one_command c d at bits =
    followed at bits (carried Number (one_word (word_count c) at bits)) (λ i on rest. one_numbered c d (numbered (available c) i) on rest)

abbrev pub path_commands : PathFields → Defaults → Kind Command
path_commands c d = record { asked = command_asked c; code = command_code c d; ending = word_for c 25; parse = one_command c d }

-- a flag's code
pub flag_code : (c : PathFields) (d : Defaults) (e : Entry) (i : ℕ) (v : ℤ) → is_flag e.flags i ≡ true → value_lawful e i v ≡ true → bit 0 (unsigned_abs v) ∷ [] ≡ value_code c d e i v
flag_code c d e i v is h =
    flag_as (is_flag e.flags i) (mode_of e.mode) (length_for c d (mode_of e.mode)) v is (lawful_by (is_flag e.flags i) (mode_of e.mode) v h)

-- the code of any other value
pub plain_code : (c : PathFields) (d : Defaults) (e : Entry) (i : ℕ) (v : ℤ) (mode : Mode) (cl : ℕ) → is_flag e.flags i ≡ false → mode ≡ mode_of e.mode → cl ≡ length_for c d mode
    → integer_code mode cl v ≡ value_code c d e i v
plain_code c d e i v mode cl is m l =
    ap (λ n. integer_code mode n v) l ∙ ap (λ k. integer_code k (length_for c d k) v) m
    ∙ ap (λ b. code_as b (mode_of e.mode) (length_for c d (mode_of e.mode)) v) (sym is)

-- what is asked of a command, each part by itself
pub record Sound (c : PathFields) (r : Command) : Type 0 where
  pub low : r.number < 25
  pub there : get_or (available c) r.number false ≡ true
  pub eight : length r.values ≡ 8
  pub used : only_used (value_lawful (row_of r.number)) is_zero (row_of r.number).value_count 0 r.values ≡ true

-- a lawful command, part by part
pub sound : (c : PathFields) (d : Defaults) (r : Command) → lawful (path_commands c d) r ≡ true → Sound c r
sound c d r h =
    let n = r.number in
    let p = and_parts (nat_lt n 25 && slice_index_or (available c) n false) (values_lawful (row_of n) r.values) h in
    let q = and_parts (nat_lt n 25) (slice_index_or (available c) n false) p.0 in
    let v = and_parts (length r.values == 8) (only_used (value_lawful (row_of n)) is_zero (row_of n).value_count 0 r.values) p.1 in
    record { low = ltb-true n 25 q.0; there = q.1; eight = eqb-true (length r.values) 8 v.0; used = v.1 }

-- and a command of which that holds is lawful
pub sound_lawful : (c : PathFields) (d : Defaults) (r : Command) → Sound c r → lawful (path_commands c d) r ≡ true
sound_lawful c d r s =
    let n = r.number in
    and_from (nat_lt n 25 && slice_index_or (available c) n false) (values_lawful (row_of n) r.values)
    (and_from (nat_lt n 25) (slice_index_or (available c) n false) (lt-ltb n 25 s.low) s.there)
    (and_from (length r.values == 8) (only_used (value_lawful (row_of n)) is_zero (row_of n).value_count 0 r.values) (eq-eqb (length r.values) 8 s.eight) s.used)

-- what is known of a lawful command by its row
pub rowed : (c : PathFields) (d : Defaults) (r : Command) (e : Entry) → lawful (path_commands c d) r ≡ true → e ≡ row_of r.number → Rowed r e
rowed c d r e h is = let s = sound c d r h in rowed_by r e s.eight s.used is

-- the two parts of a command's code, and their lengths
module _ (c : PathFields) (d : Defaults) (r : Command) (e : Entry) (count i : ℕ) (p : count ≡ word_count c) (q : i ≡ before (available c) r.number) (is : e ≡ row_of r.number) where
  pub code_parts : word count i ++ in_order (value_code c d e) 0 (take e.value_count r.values) ≡ command_code c d r
  code_parts = parts_by (value_code c d) r.values count (word_count c) i (before (available c) r.number) e (row_of r.number) p q is

  pub parts_length : length (word count i) + length (in_order (value_code c d e) 0 (take e.value_count r.values)) ≡ length (command_code c d r)
  parts_length = sym (length-append (word count i) (in_order (value_code c d e) 0 (take e.value_count r.values))) ∙ ap length code_parts

-- a number that is not DONE's
pub numbered_as : (c : PathFields) (d : Defaults) (n at : ℕ) (bits : List Bool) (e : Entry) → (n ≢ 25) → e ≡ row_of n
    → one_numbered c d n at bits ≡ mapped (λ vs. Some (command n vs)) (in_turn (one_value c d e) 0 e.value_count at bits)
numbered_as c d = numbered_by (one_value c d)
